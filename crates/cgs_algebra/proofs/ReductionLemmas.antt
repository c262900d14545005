-- One step of a reduction: a polynomial and a multiple of another, whose leads cancel.
use Rattle.std.proofs.Common.{ℕ, ◌≡◌, ◌+◌, ◌*◌, ◌%◌, true, List, ◌∷◌, ◌++◌, length, refl, sym, ap, ◌∙◌, subst, arith}
use Rattle.std.proofs.Math.Nat.{zero-mod, zero-mul, add-zero}
use Rattle.cgs_field.proofs.ModularLemmas.{mod_add, mod_mul}
use Rattle.cgs_exps.specs.Monomial.{product, divides, quotient}
use Rattle.cgs_exps.proofs.MonomialLemmas.{quotient_product, quotient_length}
use Rattle.cgs_poly.specs.Ring.{Ring}
use Rattle.cgs_poly.specs.Polynomial.{Term, places, total, IsOfRing, IsCanonical}
use Rattle.cgs_poly.specs.Product.{multiple}
use Rattle.cgs_poly.proofs.SumLemmas.{Alike, total_append}
use Rattle.cgs_poly.proofs.CanonicalLemmas.{AllBelow, all_below_append, all_below_canonical, append_of_ring, canonical_of_ring}
use Rattle.cgs_poly.proofs.ProductLemmas.{multiple_of_ring}
use Rattle.cgs_poly.proofs.MultipleLemmas.{multiple_falls}
use Rattle.cgs_algebra.proofs.FieldLemmas.{IsOpposite}

module _ (ring : Ring) (x : Term) (f : List Term) (z : Term) (g : List Term) (f_ok : IsCanonical ring (x ∷ f)) (g_ok : IsCanonical ring (z ∷ g))
    (divided : divides z.exponents x.exponents ≡ true) (cancels : IsOpposite ring.modulus x.coefficient z.coefficient) where
  -- the factor by which z is the opposite of x
  abbrev pub cofactor : List ℕ
  cofactor = quotient x.exponents z.exponents

  pub cofactor_length : length cofactor ≡ places ring
  cofactor_length = quotient_length x.exponents z.exponents (places ring) f_ok.2 g_ok.2

  pub cofactor_product : product cofactor z.exponents ≡ x.exponents
  cofactor_product = quotient_product x.exponents z.exponents (f_ok.2 ∙ sym g_ok.2) divided

  -- what is left
  abbrev pub remainder : List Term
  remainder = f ++ multiple cancels.factor cofactor g

  pub remainder_of_ring : IsOfRing ring remainder
  remainder_of_ring =
      append_of_ring ring f (multiple cancels.factor cofactor g) (canonical_of_ring ring f f_ok.4)
      (multiple_of_ring ring cancels.factor cofactor g cofactor_length (canonical_of_ring ring g g_ok.4))

  pub remainder_below : AllBelow ring x.exponents remainder
  remainder_below =
      all_below_append ring x.exponents f (multiple cancels.factor cofactor g) (all_below_canonical ring x.exponents f f_ok.4 f_ok.3)
      (subst (λ m. AllBelow ring m (multiple cancels.factor cofactor g)) cofactor_product
      (multiple_falls ring cancels.factor cofactor z g cofactor_length g_ok))

  -- it is the polynomial and a multiple of the other
  pub remainder_alike : Alike ring.modulus remainder ((x ∷ f) ++ multiple cancels.factor cofactor (z ∷ g))
  remainder_alike = record {
    under = λ w.
        let q : ℕ = cancels.factor in
        let v : ℕ = w x.exponents in
        let i = total_append w f (multiple q cofactor g) in
        let j = total_append w f (multiple q cofactor (z ∷ g)) in
        let s : total w ((x ∷ f) ++ multiple q cofactor (z ∷ g)) ≡ total w remainder + (x.coefficient + q * z.coefficient) * v =
        gathered q x.coefficient z.coefficient v (w (product cofactor z.exponents)) (total w f) (total w (multiple q cofactor g)) _ _ (ap w cofactor_product)
        i j in
        let n : ((x.coefficient + q * z.coefficient) * v) % ring.modulus ≡ 0 % ring.modulus =
        mod_mul ring.modulus (x.coefficient + q * z.coefficient) 0 v v (cancels.opposite ∙ sym (zero-mod ring.modulus)) refl
        ∙ ap (λ k. k % ring.modulus) (zero-mul v) in
        let t = mod_add ring.modulus (total w remainder) (total w remainder) _ 0 refl n in
        sym (ap (λ k. k % ring.modulus) s ∙ (t ∙ ap (λ k. k % ring.modulus) (add-zero (total w remainder))));
  }
    where
      gathered : (q c d v u s k i j : ℕ) → u ≡ v → i ≡ s + k → j ≡ s + ((q * d) * u + k) → c * v + j ≡ i + (c + q * d) * v
      gathered q c d v u s k i j eu ei ej =
          let e : s + ((q * d) * u + k) ≡ s + ((q * d) * v + k) = ap (λ n. s + ((q * d) * n + k)) eu in
          last q c d v s k i j ei (ej ∙ e)
        where
          last : (q c d v s k i j : ℕ) → i ≡ s + k → j ≡ s + ((q * d) * v + k) → c * v + j ≡ i + (c + q * d) * v
          last q c d v s k i j ei ej = omega arith
