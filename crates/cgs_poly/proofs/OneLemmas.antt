-- The polynomial 1.
use Rattle.std.proofs.Common.{ℕ, zero, suc, ◌≡◌, ◌%◌, ◌<◌, [], ◌∷◌, take, replicate, refl, ap, ◌∙◌, arith}
use Rattle.std.proofs.Math.Nat.{mod-eq_of_lt}
use Rattle.std.proofs.lemmas.List.{length-replicate, take-replicate}
use Rattle.cgs_field.proofs.PrimeLemmas.{modulus_field}
use Rattle.cgs_exps.specs.Monomial.{degree}
use Rattle.cgs_poly.specs.Ring.{Ring}
use Rattle.cgs_poly.specs.Polynomial.{term, places, one, IsRing, IsCanonical, IsPoly}

pub one_canonical : (ring : Ring) → 1 < ring.modulus → IsCanonical ring (one ring)
one_canonical ring two = (omega arith, two, length-replicate {A = ℕ} (places ring) 0, tt, tt)

degree_zeros : (n : ℕ) → degree (replicate {A = ℕ} n 0) ≡ 0
degree_zeros zero = refl
degree_zeros (suc n) = degree_zeros n

pub one_poly : (ring : Ring) → IsRing ring → IsPoly ring (one ring)
one_poly ring r = record {
  canonical = one_canonical ring (modulus_field ring.modulus r.modulus).two;
  low = (let d = degree_zeros (places ring) in omega arith, tt);
}

-- its monomial, as the code has it
pub zero_places : (ring : Ring) (n : ℕ) → IsRing ring → n ≡ places ring → take n (replicate {A = ℕ} 17 0) ≡ replicate (places ring) 0
zero_places ring n r e =
    ap (λ k. take k (replicate {A = ℕ} 17 0)) e ∙ take-replicate (places ring) 17 0 (let v = r.variables in let p = r.parameters in omega arith)

-- its term, as the code has it
pub one_is : (ring : Ring) (c n : ℕ) → IsRing ring → c ≡ 1 % ring.modulus → n ≡ places ring → term c (take n (replicate {A = ℕ} 17 0)) ∷ [] ≡ one ring
one_is ring c n r e places_are =
    let o : c ≡ 1 = e ∙ mod-eq_of_lt (modulus_field ring.modulus r.modulus).two in
    ap (λ m. term c m ∷ []) (zero_places ring n r places_are) ∙ ap (λ k. term k (replicate (places ring) 0) ∷ []) o
