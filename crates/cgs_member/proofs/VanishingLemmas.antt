-- A polynomial becomes 0 at a point exactly where all its coefficients in the parameters vanish there.
use Rattle.std.proofs.Common.{ℕ, zero, suc, ◌≡◌, ◌+◌, ◌%◌, ◌<◌, ◌≤◌, ◌↔◌, List, [], ◌∷◌, length, take, drop, refl, sym, ap, ◌∙◌, subst, arith}
use Rattle.std.proofs.Math.Nat.{zero-mod, mul-zero, mul-one}
use Rattle.std.specs.List.{AllByRecursion}
use Rattle.std.specs.declared.cmp.Ordering.{Ordering}
use Rattle.std.specs.declared.cmp.Ordering.TheVariants.{Less, Equal, Greater}
use Rattle.std.specs.Ordering.{nat_cmp}
use Rattle.std.specs.Cmp.Lexicographic.{slice_cmp}
use Rattle.cgs_field.proofs.ModularLemmas.{mod_add, mod_mul}
use Rattle.cgs_order.specs.TermOrder.{compared}
use Rattle.cgs_order.proofs.OrderLemmas.{cmp_equal, cmp_self, compared_not_self}
use Rattle.cgs_poly.specs.Ring.{Ring}
use Rattle.cgs_poly.specs.Polynomial.{Term, order_of, total, indicator, IsRing, IsOfRing, IsCanonical}
use Rattle.cgs_poly.specs.Product.{leading_coefficient}
use Rattle.cgs_poly.specs.Monic.{monic_of}
use Rattle.cgs_poly.specs.Parameters.{power_at, variables_ring, lead_x, lc_x, part_at, strip, without_variables, value_at, specialised_terms, specialised}
use Rattle.cgs_poly.proofs.RingLemmas.{ring_positive}
use Rattle.cgs_poly.proofs.SumLemmas.{only_same, only_other}
use Rattle.cgs_poly.proofs.CanonicalLemmas.{canonical_of_ring, is_canonical, lead_not_zero}
use Rattle.cgs_poly.proofs.MultipleLemmas.{total_none}
use Rattle.cgs_poly.proofs.MonicLemmas.{monic_back}
use Rattle.cgs_poly.proofs.ParameterLemmas.{lc_x_canonical}
use Rattle.cgs_poly.proofs.SpecialisedLemmas.{at_point, specialised_of_ring}
use Rattle.cgs_algebra.specs.Specialisation.{AllVanish}
use Rattle.cgs_algebra.proofs.WeightLemmas.{total_same}
use Rattle.cgs_algebra.proofs.PointLemmas.{power_weight, total_specialised}
use Rattle.cgs_algebra.proofs.PartLemmas.{rest_of, HasVariables, VariablesBelow, part_total, part_each, rest_of_head, without_drop, total_strip}
use Rattle.cgs_entry.specs.Conditions.{with_members}
use Rattle.cgs_entry.proofs.AddingLemmas.{monic_vanishes, all_members_added}
use Rattle.cgs_member.specs.ReductionRun.{others_at}
use Rattle.cgs_member.specs.Cases.{coefficients_in, coefficients}
use Rattle.cgs_member.proofs.PartLemmas.{others_rest, others_fewer, others_canonical}

module _ (ring : Ring) (a : List ℕ) where
  -- the coefficient at y of what f becomes
  abbrev pub at : List ℕ → List Term → ℕ
  at y f = total (at_point ring a (indicator y)) f

  -- that of the part at x is the value of its coefficient in the parameters, and 0 elsewhere

  part_value : (x : List ℕ) (f : List Term) → IsOfRing ring f → at x (part_at ring x f) ≡ total (power_weight ring a) (strip ring (part_at ring x f))
  part_value x f h =
      total_same (HasVariables ring x) (at_point ring a (indicator x)) (λ m. power_weight ring a (without_variables ring m)) (part_at ring x f)
      (part_each ring x f h) inside ∙ sym (total_strip ring (power_weight ring a) (part_at ring x f))
    where
      inside : (m : List ℕ) → HasVariables ring x m → at_point ring a (indicator x) m ≡ power_weight ring a (without_variables ring m)
      inside m h = rw (h.1, only_same x, without_drop ring m) (mul-one (power_at (drop ring.variables m) a))

  part_elsewhere : (x y : List ℕ) (f : List Term) → IsOfRing ring f → (y ≡ x → ⊥) → at y (part_at ring x f) ≡ 0
  part_elsewhere x y f h n =
      total_same (HasVariables ring x) (at_point ring a (indicator y)) (λ m. 0) (part_at ring x f) (part_each ring x f h)
      (λ m k. rw (k.1, only_other y x n) (mul-zero (power_at (drop ring.variables m) a))) ∙ total_none (part_at ring x f)

  -- the other terms have none at x
  rest_none : (y : Term) (f : List Term) → IsCanonical ring (y ∷ f)
      → at (take ring.variables y.exponents) (rest_of ring (take ring.variables y.exponents) (y ∷ f)) ≡ 0
  rest_none y f h =
      let x : List ℕ = take ring.variables y.exponents in
      total_same (VariablesBelow ring x) (at_point ring a (indicator x)) (λ m. 0) (rest_of ring x (y ∷ f)) (rest_of_head ring y f h)
      (λ m k. rw (only_other x (take ring.variables m)
      (λ e. compared_not_self (order_of (variables_ring ring)) x
      (subst (λ n. compared (order_of (variables_ring ring)) n x ≡ Less) (sym e) k.1)))
      (mul-zero (power_at (drop ring.variables m) a))) ∙ total_none (rest_of ring x (y ∷ f))

  -- all coefficients at once

  abbrev pub BecomesZero : List Term → Type 0
  BecomesZero f = (y : List ℕ) → at y f % ring.modulus ≡ 0

  sum_zero : (m n : ℕ) → m % ring.modulus ≡ 0 → n % ring.modulus ≡ 0 → (m + n) % ring.modulus ≡ 0
  sum_zero m n e k = mod_add ring.modulus m 0 n 0 (e ∙ sym (zero-mod ring.modulus)) (k ∙ sym (zero-mod ring.modulus)) ∙ zero-mod ring.modulus

  -- whether y is x
  by_same : (x y : List ℕ) (G : Type 0) → (y ≡ x → G) → ((y ≡ x → ⊥) → G) → G
  by_same x y G same other = step (slice_cmp nat_cmp y x) refl
    where
      not_equal : (o : Ordering) → slice_cmp nat_cmp y x ≡ o → (o ≡ Equal → ⊥) → y ≡ x → ⊥
      not_equal o e n q = n (sym e ∙ (ap (λ k. slice_cmp nat_cmp k x) q ∙ cmp_self x))

      step : (o : Ordering) → slice_cmp nat_cmp y x ≡ o → G
      step Less e = other (not_equal Less e (λ z. cc))
      step Equal e = same (cmp_equal y x e)
      step Greater e = other (not_equal Greater e (λ z. cc))

  module _ (y : Term) (f : List Term) (h : IsCanonical ring (y ∷ f)) where
    abbrev x : List ℕ
    x = take ring.variables y.exponents

    of_ring : IsOfRing ring (y ∷ f)
    of_ring = canonical_of_ring ring (y ∷ f) h

    rest_is : (z : List ℕ) → at z (others_at ring x (y ∷ f)) ≡ at z (rest_of ring x (y ∷ f))
    rest_is z = ap (at z) (others_rest ring x (y ∷ f))

    split : (z : List ℕ) → at z (y ∷ f) ≡ at z (part_at ring x (y ∷ f)) + at z (others_at ring x (y ∷ f))
    split z = omega (arith, part_total ring (at_point ring a (indicator z)) x (y ∷ f), rest_is z)

    -- the leading coefficient and the other terms
    zero_whole : value_at ring a (lc_x ring (y ∷ f)) ≡ 0 → BecomesZero (others_at ring x (y ∷ f)) → BecomesZero (y ∷ f)
    zero_whole v k z =
        ap (λ n. n % ring.modulus) (split z)
        ∙ sum_zero (at z (part_at ring x (y ∷ f))) (at z (others_at ring x (y ∷ f)))
        (by_same x z (at z (part_at ring x (y ∷ f)) % ring.modulus ≡ 0)
        (λ e. ap (λ q. at q (part_at ring x (y ∷ f)) % ring.modulus) e ∙ (ap (λ n. n % ring.modulus) (part_value x (y ∷ f) of_ring) ∙ v))
        (λ n. ap (λ k. k % ring.modulus) (part_elsewhere x z (y ∷ f) of_ring n) ∙ zero-mod ring.modulus))
        (k z)

    zero_leading : BecomesZero (y ∷ f) → value_at ring a (lc_x ring (y ∷ f)) ≡ 0
    zero_leading k =
        let n : at x (others_at ring x (y ∷ f)) ≡ 0 = rest_is x ∙ rest_none y f h in
        let v = part_value x (y ∷ f) of_ring in
        let e : total (power_weight ring a) (lc_x ring (y ∷ f)) ≡ at x (y ∷ f) = omega (arith, split x, n, v) in
        ap (λ n. n % ring.modulus) e ∙ k x

    zero_others : BecomesZero (y ∷ f) → BecomesZero (others_at ring x (y ∷ f))
    zero_others k z =
        by_same x z (at z (others_at ring x (y ∷ f)) % ring.modulus ≡ 0)
        (λ e. ap (λ q. at q (others_at ring x (y ∷ f)) % ring.modulus) e
        ∙ (ap (λ n. n % ring.modulus) (rest_is x ∙ rest_none y f h) ∙ zero-mod ring.modulus))
        (λ n. let p = part_elsewhere x z (y ∷ f) of_ring n in
        let e : at z (others_at ring x (y ∷ f)) ≡ at z (y ∷ f) = omega (arith, split z, p) in
        ap (λ n. n % ring.modulus) e ∙ k z)

  vanish_zero : (n : ℕ) (r : List Term) → IsCanonical ring r → length r ≤ n → AllVanish ring a (coefficients_in n ring r) → BecomesZero r
  vanish_zero n [] h l v y = zero-mod ring.modulus
  vanish_zero zero (x ∷ r) h l v y = absurd (omega arith)
  vanish_zero (suc n) (x ∷ r) h l v y =
      let s = others_fewer ring (x ∷ r) (omega arith) in
      zero_whole x r h v.0 (vanish_zero n (others_at ring (lead_x ring (x ∷ r)) (x ∷ r)) (others_canonical ring (lead_x ring (x ∷ r)) (x ∷ r) h)
      (omega arith) v.1) y

  zero_vanish : (n : ℕ) (r : List Term) → IsCanonical ring r → BecomesZero r → AllVanish ring a (coefficients_in n ring r)
  zero_vanish zero r h k = tt
  zero_vanish (suc n) [] h k = tt
  zero_vanish (suc n) (x ∷ r) h k = (
    zero_leading x r h k,
    zero_vanish n (others_at ring (lead_x ring (x ∷ r)) (x ∷ r)) (others_canonical ring (lead_x ring (x ∷ r)) (x ∷ r) h)
        (zero_others x r h k),
  )

  pub coefficients_vanish : (r : List Term) → IsCanonical ring r → AllVanish ring a (coefficients ring r) ↔ BecomesZero r
  coefficients_vanish r h = (λ v. vanish_zero (length r) r h (omega arith) v, λ k. zero_vanish (length r) r h k)

  -- what a polynomial becomes, and its coefficients

  module _ (pos : 0 < ring.modulus) (r : List Term) (h : IsOfRing ring r) where
    pub special_canonical : IsCanonical (variables_ring ring) (specialised ring a r)
    special_canonical = is_canonical (variables_ring ring) (specialised_terms ring a r) pos (specialised_of_ring ring a r h)

    pub special_zero : specialised ring a r ≡ [] → BecomesZero r
    special_zero e y = sym (total_specialised ring a (indicator y) r pos h)
        ∙ (ap (λ l. total (indicator y) l % ring.modulus) e ∙ zero-mod ring.modulus)

    pub zero_special : BecomesZero r → specialised ring a r ≡ []
    zero_special k = by_form (specialised ring a r) refl
      where
        by_form : (s : List Term) → specialised ring a r ≡ s → s ≡ []
        by_form [] e = refl
        by_form (y ∷ l) e =
            let c : IsCanonical (variables_ring ring) (y ∷ l) = subst (IsCanonical (variables_ring ring)) e special_canonical in
            absurd (lead_not_zero (variables_ring ring) y l c
            (ap (λ q. total (indicator y.exponents) q % ring.modulus) (sym e) ∙ (total_specialised ring a (indicator y.exponents) r pos h ∙ k y.exponents)))

-- each coefficient is a polynomial in the parameters

each_coefficient : (ring : Ring) (n : ℕ) (r : List Term) → IsCanonical ring r → AllByRecursion (IsCanonical ring) (coefficients_in n ring r)
each_coefficient ring zero r h = tt
each_coefficient ring (suc n) [] h = tt
each_coefficient ring (suc n) (x ∷ r) h = (
  lc_x_canonical ring (x ∷ r) h,
  each_coefficient ring n (others_at ring (lead_x ring (x ∷ r)) (x ∷ r))
      (others_canonical ring (lead_x ring (x ∷ r)) (x ∷ r) h),
)

-- made monic and added to a list they vanish alike

module _ (ring : Ring) (a : List ℕ) (r_ok : IsRing ring) where
  monic_back_vanishes : (f : List Term) → IsCanonical ring f → value_at ring a (monic_of ring f) ≡ 0 → value_at ring a f ≡ 0
  monic_back_vanishes f h e =
      let w : List ℕ → ℕ = λ m. power_at (drop ring.variables m) a in
      monic_back ring r_ok f h w
      ∙ (mod_mul ring.modulus (leading_coefficient f) (leading_coefficient f) (total w (monic_of ring f)) 0 refl (e ∙ sym (zero-mod ring.modulus))
      ∙ (ap (λ k. k % ring.modulus) (mul-zero (leading_coefficient f)) ∙ zero-mod ring.modulus))

  all_monic : (K : List (List Term)) → AllByRecursion (IsCanonical ring) K
      → AllByRecursion (λ f. value_at ring a (monic_of ring f) ≡ 0) K ↔ AllVanish ring a K
  all_monic [] h = (λ k. tt, λ k. tt)
  all_monic (f ∷ K) h =
      let ih = all_monic K h.1 in (
        λ k. (monic_back_vanishes f h.0 k.0, ih.0 k.1),
        λ k. (monic_vanishes ring r_ok a f h.0 k.0, ih.1 k.1),
      )

  pub cases_vanish : (r : List Term) → IsCanonical ring r
      → AllVanish ring a (with_members ring [] (coefficients ring r)) ↔ (specialised ring a r ≡ [])
  cases_vanish r h =
      let pos : 0 < ring.modulus = ring_positive ring r_ok in
      let of_ring : IsOfRing ring r = canonical_of_ring ring r h in
      let added = all_members_added (λ f. value_at ring a f ≡ 0) ring [] (coefficients ring r) in
      let monic = all_monic (coefficients ring r) (each_coefficient ring (length r) r h) in
      let zero = coefficients_vanish ring a r h in (
        λ v. zero_special ring a pos r of_ring (zero.0 (monic.0 (added.0 v).1)),
        λ e. added.1 (tt, monic.1 (zero.1 (special_zero ring a pos r of_ring e))),
      )
