-- The run ends with true exactly where 1 is in the ideal of the conditions.
use Rattle.std.proofs.Common.{ℕ, ◌≡◌, ◌+◌, ◌-◌, ◌*◌, ◌%◌, ◌<◌, ◌↔◌, true, IsTrue, List, [], ◌∷◌, ◌++◌, length, replicate, refl, sym, ap, ◌∙◌, arith, add-zero}
use Rattle.std.proofs.Math.Nat.{zero-mod}
use Rattle.std.proofs.lemmas.List.{length-replicate}
use Rattle.std.proofs.lemmas.Slice.Eq.{slice_eq-Decides}
use Rattle.cgs_field.proofs.ModularLemmas.{mod_add, mod_mul, mod_opposite, mod_twice}
use Rattle.cgs_poly.specs.Ring.{Ring}
use Rattle.cgs_poly.specs.Polynomial.{Term, term, places, total, IsOfRing, IsCanonical, one}
use Rattle.cgs_poly.specs.Product.{scaled, multiple}
use Rattle.cgs_poly.proofs.SumLemmas.{Alike, alike_back, total_append, total_scaled}
use Rattle.cgs_poly.proofs.CanonicalLemmas.{canonical_alike, canonical_of_ring, is_canonical, append_of_ring}
use Rattle.cgs_poly.proofs.ProductLemmas.{multiple_of_ring}
use Rattle.cgs_algebra.specs.Combination.{IsMember}
use Rattle.cgs_algebra.specs.Groebner.{IsReduced}
use Rattle.cgs_algebra.proofs.MemberLemmas.{same_member, sum_member, multiple_member, scaled_member}
use Rattle.cgs_algebra.proofs.GrowthLemmas.{member_more, last_member}
use Rattle.cgs_algebra.proofs.OneLemmas.{one_is_member}
use Rattle.cgs_poly.proofs.SameLemmas.{same_poly_decides}
use Rattle.cgs_radical.specs.EmptinessRun.{y_times_less_one, is_one_alone}
use Rattle.cgs_radical.proofs.CongruenceLemmas.{AreCongruent, alike_congruent, congruent_trans, congruent_multiple, congruent_append}

-- the list of 1 alone

one_alone : (ring : Ring) (G : List (List Term)) → is_one_alone ring G ≡ true ↔ (G ≡ one ring ∷ [])
one_alone ring G = slice_eq-Decides same_poly_decides G (one ring ∷ []) (is_one_alone ring G) refl

-- the test of the basis
pub one_alone_is_member : (ring : Ring) → 1 < ring.modulus → (F G : List (List Term)) → IsReduced ring G F
    → IsTrue (is_one_alone ring G) ↔ IsMember ring F (one ring)
one_alone_is_member ring two F G reduced =
    let t = one_alone ring G in
    let m = one_is_member ring two F G reduced in
    (λ e. m.1 (t.0 e), λ h. t.1 (m.0 h))

-- y*q - 1

module _ (ring : Ring) (pos : 0 < ring.modulus) (some : ring.variables ≡ 1) where
  abbrev y : List ℕ
  y = 1 ∷ replicate ring.parameters 0

  abbrev minus_one : List Term
  minus_one = term (ring.modulus - 1) (replicate (places ring) 0) ∷ []

  y_long : length y ≡ places ring
  y_long = omega (arith, length-replicate {A = ℕ} ring.parameters 0)

  terms_of_ring : (q : List Term) → IsOfRing ring q → IsOfRing ring (multiple 1 y q ++ minus_one)
  terms_of_ring q h = append_of_ring ring (multiple 1 y q) minus_one (multiple_of_ring ring 1 y q y_long h) (length-replicate {A = ℕ} (places ring) 0, tt)

  pub y_canonical : (q : List Term) → IsOfRing ring q → IsCanonical ring (y_times_less_one ring q)
  y_canonical q h = is_canonical ring (multiple 1 y q ++ minus_one) pos (terms_of_ring q h)

  y_alike : (q : List Term) → IsOfRing ring q → Alike ring.modulus (y_times_less_one ring q) (multiple 1 y q ++ minus_one)
  y_alike q h = canonical_alike ring (multiple 1 y q ++ minus_one) pos (terms_of_ring q h)

  -- of congruent polynomials
  pub y_congruent : (F : List (List Term)) (q r : List Term) → IsOfRing ring q → IsOfRing ring r
      → AreCongruent ring F q r → AreCongruent ring F (y_times_less_one ring q) (y_times_less_one ring r)
  y_congruent F q r h k a =
      congruent_trans ring F pos (y_times_less_one ring q) (multiple 1 y q ++ minus_one) (y_times_less_one ring r)
      (alike_congruent ring F pos (y_times_less_one ring q) (multiple 1 y q ++ minus_one) (y_alike q h))
      (congruent_trans ring F pos (multiple 1 y q ++ minus_one) (multiple 1 y r ++ minus_one) (y_times_less_one ring r)
      (congruent_append ring F pos (multiple 1 y q) (multiple 1 y r) minus_one (congruent_multiple ring F pos 1 y q r y_long a))
      (alike_congruent ring F pos (multiple 1 y r ++ minus_one) (y_times_less_one ring r) (alike_back (y_alike r k))))

  -- where q is in the ideal, 1 is in that of y*q - 1 too
  pub one_of_zero : (F : List (List Term)) (q : List Term) → IsOfRing ring q → IsMember ring F q → IsMember ring (F ++ y_times_less_one ring q ∷ []) (one ring)
  one_of_zero F q h m =
      let z : List Term = y_times_less_one ring q in
      let hz = canonical_of_ring ring z (y_canonical q h) in
      let minus : ℕ = ring.modulus - 1 in
      let more = member_more ring F (z ∷ []) (multiple 1 y q) (multiple_member ring F pos 1 y q y_long m) in
      let last =
      scaled_member ring (F ++ z ∷ []) pos minus z (scaled minus z) (λ w. ap (λ n. n % ring.modulus) (total_scaled w minus z)) (last_member ring F z pos hz) in
      same_member ring (F ++ z ∷ []) pos (record { under = sums }) (sum_member ring (F ++ z ∷ []) pos (multiple 1 y q) (scaled minus z) more last)
    where
      sums : (w : List ℕ → ℕ) → total w (one ring) % ring.modulus
          ≡ total w (multiple 1 y q ++ scaled (ring.modulus - 1) (y_times_less_one ring q)) % ring.modulus
      sums w =
          let p : ℕ = ring.modulus in
          let a : ℕ = total w (multiple 1 y q) in
          let b : ℕ = w (replicate (places ring) 0) in
          let c : ℕ = total w (y_times_less_one ring q) in
          let s : c % ring.modulus ≡ (a + (ring.modulus - 1) * b) % ring.modulus =
          (y_alike q h).under w
          ∙ ap (λ n. n % ring.modulus) (total_append w (multiple 1 y q) minus_one ∙ ap (λ n. a + n) (add-zero ((ring.modulus - 1) * b))) in
          let t : ((ring.modulus - 1) * c) % ring.modulus ≡ ((ring.modulus - 1) * (a + (ring.modulus - 1) * b)) % ring.modulus =
          mod_mul ring.modulus (ring.modulus - 1) (ring.modulus - 1) c (a + (ring.modulus - 1) * b) refl s in
          let u : ((ring.modulus - 1) * c) % ring.modulus ≡ (b + (ring.modulus - 1) * a) % ring.modulus = t ∙ sym (mod_twice ring.modulus b a pos) in
          let v : (a + (ring.modulus - 1) * c) % ring.modulus ≡ (a + (b + (ring.modulus - 1) * a)) % ring.modulus =
          mod_add ring.modulus a a ((ring.modulus - 1) * c) (b + (ring.modulus - 1) * a) refl u in
          let x : a + (b + (ring.modulus - 1) * a) ≡ b + (a + (ring.modulus - 1) * a) = omega arith in
          let e : (b + (a + (ring.modulus - 1) * a)) % ring.modulus ≡ (b + 0) % ring.modulus =
          mod_add ring.modulus b b (a + (ring.modulus - 1) * a) 0 refl (mod_opposite ring.modulus a pos ∙ sym (zero-mod ring.modulus)) in
          let o : total w (one ring) ≡ b + 0 = omega arith in
          let d = total_append w (multiple 1 y q) (scaled (ring.modulus - 1) (y_times_less_one ring q))
          ∙ ap (λ n. a + n) (total_scaled w (ring.modulus - 1) (y_times_less_one ring q)) in
          sym (ap (λ n. n % ring.modulus) d ∙ (v ∙ (ap (λ n. n % ring.modulus) x ∙ (e ∙ ap (λ n. n % ring.modulus) (sym o)))))
