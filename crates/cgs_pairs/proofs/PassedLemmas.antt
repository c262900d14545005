-- What is known of a pair that is passed: coprime leads, or a third place whose pairs with either place were taken.
use Rattle.std.proofs.Common.{ℕ, zero, suc, ◌≡◌, ◌+◌, ◌<◌, ◌⊎◌, inl, inr, Bool, true, false, cond, ltb, ◌&&◌, ◌||◌, ◌==◌, List, [], ◌∷◌, ◌++◌, length, get_or}
use Rattle.std.proofs.Common.{Some, refl, sym, ap, ◌∙◌, subst, arith, IsTrue}
use Rattle.std.specs.Prelude.{slice_get}
use Rattle.std.proofs.lemmas.Bool.{and_parts, or_left, or_right, eqb-true, false_from_ne_true}
use Rattle.std.proofs.lemmas.Option.{get_or_from_slice_get}
use Rattle.cgs_exps.specs.Monomial.{divides, coprime}
use Rattle.cgs_exps.proofs.MonomialLemmas.{lcm_length}
use Rattle.cgs_poly.specs.Polynomial.{Term, places}
use Rattle.cgs_poly.specs.Product.{leading_monomial, leading_coefficient}
use Rattle.cgs_poly.proofs.RingLemmas.{ring_positive}
use Rattle.cgs_poly.specs.Ring.{Ring}
use Rattle.cgs_algebra.specs.Groebner.{AreMonic, leading_monomial_at}
use Rattle.cgs_algebra.specs.SPolynomial.{pair_lcm, HasLcmRepresentation}
use Rattle.cgs_algebra.proofs.CriterionLemmas.{chain_criterion, coprime_criterion}
use Rattle.cgs_algebra.proofs.PlaceLemmas.{monic_at}
use Rattle.cgs_algebra.proofs.RepresentationLemmas.{lead_at_length}
use Rattle.cgs_pairs.specs.declared.pair.Pair.{Pair}
use Rattle.cgs_pairs.specs.Passed.{has_pair, was_taken, is_third, has_third, is_passed, IsThirdPlace, AreOfOneRing, IsPairOf, AreRepresented}

either_true : (a b : Bool) → (a || b) ≡ true → (a ≡ true) ⊎ (b ≡ true)
either_true true b e = inl refl
either_true false b e = inr e

-- a pair noted after others

pub has_noted : (larger smaller : ℕ) (taken : List (ℕ × ℕ)) (x : ℕ × ℕ)
    → has_pair larger smaller (taken ++ x ∷ []) ≡ ((x.0 == larger && x.1 == smaller) || has_pair larger smaller taken)
has_noted larger smaller [] x = refl
has_noted larger smaller (y ∷ taken) x =
    ap (λ b. (y.0 == larger && y.1 == smaller) || b) (has_noted larger smaller taken x)
    ∙ or_swapped (y.0 == larger && y.1 == smaller) (x.0 == larger && x.1 == smaller)
  where
    or_swapped : (a b : Bool) → (a || (b || has_pair larger smaller taken)) ≡ (b || (a || has_pair larger smaller taken))
    or_swapped true true = refl
    or_swapped true false = refl
    or_swapped false b = refl

pub noted_from : (larger smaller : ℕ) (taken : List (ℕ × ℕ)) (x : ℕ × ℕ) → has_pair larger smaller (taken ++ x ∷ []) ≡ true
    → (has_pair larger smaller taken ≡ true) ⊎ ((x.0 ≡ larger) × (x.1 ≡ smaller))
noted_from larger smaller taken x e = by_case (either_true (x.0 == larger && x.1 == smaller) _ (sym (has_noted larger smaller taken x) ∙ e))
  where
    by_case : ((x.0 == larger && x.1 == smaller) ≡ true) ⊎ (has_pair larger smaller taken ≡ true)
        → (has_pair larger smaller taken ≡ true) ⊎ ((x.0 ≡ larger) × (x.1 ≡ smaller))
    by_case (inl h) = let p = and_parts (x.0 == larger) (x.1 == smaller) h in inr (eqb-true x.0 larger p.0, eqb-true x.1 smaller p.1)
    by_case (inr h) = inl h

-- the third place
pub third_place : (q : Pair) (taken : List (ℕ × ℕ)) (i : ℕ) (G : List (List Term)) → has_third q taken i G ≡ true
    → (j : ℕ) × (j < length G) × (is_third q taken (i + j) (get_or G j []) ≡ true)
third_place q taken i [] e = absurd (cc)
third_place q taken i (f ∷ G) e = by_case (either_true (is_third q taken i f) (has_third q taken (suc i) G) e) (λ h. third_place q taken (suc i) G h)
  where
    by_case : (is_third q taken i f ≡ true) ⊎ (has_third q taken (suc i) G ≡ true)
        → (has_third q taken (suc i) G ≡ true → (j : ℕ) × (j < length G) × (is_third q taken (suc i + j) (get_or G j []) ≡ true))
        → (j : ℕ) × (j < suc (length G)) × (is_third q taken (i + j) (get_or (f ∷ G) j []) ≡ true)
    by_case (inl h) ih = let z : i ≡ i + 0 = omega arith in (0, omega arith, subst (λ n. is_third q taken n f ≡ true) z h)
    by_case (inr h) ih =
        let t = ih h in
        let z : suc i + t.0 ≡ i + suc t.0 = omega arith in
        (suc t.0, omega (arith, t.1), subst (λ n. is_third q taken n (get_or G t.0 []) ≡ true) z t.2)

third_from : (q : Pair) (taken : List (ℕ × ℕ)) (i : ℕ) (G : List (List Term)) (k : ℕ) → k < length G
    → is_third q taken (i + k) (get_or G k []) ≡ true → has_third q taken i G ≡ true
third_from q taken i [] k l e = absurd (omega arith)
third_from q taken i (f ∷ G) zero l e =
    let z : i + 0 ≡ i = omega arith in
    or_left (is_third q taken i f) (has_third q taken (suc i) G) (subst (λ n. is_third q taken n f ≡ true) z e)
third_from q taken i (f ∷ G) (suc k) l e =
    let z : i + suc k ≡ suc i + k = omega arith in
    or_right (is_third q taken i f) (has_third q taken (suc i) G)
    (third_from q taken (suc i) G k (omega arith) (subst (λ n. is_third q taken n (get_or G k []) ≡ true) z e))

pub third_found : (q : Pair) (taken : List (ℕ × ℕ)) (G : List (List Term)) (k : ℕ) → IsThirdPlace q G taken k → has_third q taken 0 G ≡ true
third_found q taken G k t =
    let z : k ≡ 0 + k = omega arith in
    third_from q taken 0 G k t.0 (subst (λ n. is_third q taken n (get_or G k []) ≡ true) z t.1)

pub no_third : (q : Pair) (taken : List (ℕ × ℕ)) (G : List (List Term)) → ((k : ℕ) → IsThirdPlace q G taken k → ⊥) → has_third q taken 0 G ≡ false
no_third q taken G n = false_from_ne_true (has_third q taken 0 G) (λ e. by_place (third_place q taken 0 G e))
  where
    by_place : (j : ℕ) × (j < length G) × (is_third q taken (0 + j) (get_or G j []) ≡ true) → ⊥
    by_place t =
        let z : 0 + t.0 ≡ t.0 = omega arith in
        n t.0 (t.1, subst (λ k. is_third q taken k (get_or G t.0 []) ≡ true) z t.2)

-- a member that is read

module _ (G : List (List Term)) (r : AreOfOneRing G) (i : ℕ) (f : List Term) (within : i < length G) (read : slice_get G i ≡ Some f) where
  is_member : get_or G i [] ≡ f
  is_member = get_or_from_slice_get G i f [] read

  pub member_monic : leading_coefficient f ≡ 1
  member_monic = subst (λ g. leading_coefficient g ≡ 1) is_member (monic_at G r.monic.monic i within)

  member_lead : leading_monomial_at G i ≡ leading_monomial f
  member_lead = ap leading_monomial is_member

  pub member_places : length (leading_monomial f) ≡ places r.ring
  member_places = ap length (sym member_lead) ∙ lead_at_length r.ring G (ring_positive r.ring r.valid) r.monic i within

  pub member_third : (q : Pair) (taken : List (ℕ × ℕ)) → is_third q taken i (get_or G i []) ≡ is_third q taken i f
  member_third q taken = ap (λ g. is_third q taken i g) is_member

-- the lcm of a pair has the places of the ring
pub lcm_places : (G : List (List Term)) (r : AreOfOneRing G) (i j : ℕ) → i < length G → j < length G
    → length (pair_lcm (get_or G i []) (get_or G j [])) ≡ places r.ring
lcm_places G r i j hi hj =
    let pos = ring_positive r.ring r.valid in
    lcm_length (leading_monomial_at G i) (leading_monomial_at G j) (places r.ring)
    (lead_at_length r.ring G pos r.monic i hi) (lead_at_length r.ring G pos r.monic j hj)

pub third_parts : (q : Pair) (taken : List (ℕ × ℕ)) (k : ℕ) (f : List Term) → is_third q taken k f ≡ true
    → (divides (leading_monomial f) q.lcm ≡ true) × (was_taken k q.smaller taken ≡ true) × (was_taken k q.larger taken ≡ true)
third_parts q taken k f e =
    let a = and_parts _ _ e in
    let b = and_parts _ _ a.0 in
    ((and_parts _ _ b.0).1, b.1, a.1)

module _ (ring : Ring) (G : List (List Term)) (pos : 0 < ring.modulus) (ok : AreMonic ring G) where
  taken_represented : (i j : ℕ) (taken : List (ℕ × ℕ)) → AreRepresented ring G taken → was_taken i j taken ≡ true
      → HasLcmRepresentation ring G i j ⊎ HasLcmRepresentation ring G j i
  taken_represented i j taken h e = by_test (ltb i j) e
    where
      by_test : (b : Bool) → cond b (has_pair j i taken) (has_pair i j taken) ≡ true → HasLcmRepresentation ring G i j ⊎ HasLcmRepresentation ring G j i
      by_test true k = inl (h.at j i k).2
      by_test false k = inr (h.at i j k).2

  swapped : {i j : ℕ} → HasLcmRepresentation ring G i j ⊎ HasLcmRepresentation ring G j i → HasLcmRepresentation ring G j i ⊎ HasLcmRepresentation ring G i j
  swapped (inl h) = inr h
  swapped (inr h) = inl h

  -- a pair that is passed has an lcm representation
  pub passed_represented : (q : Pair) (taken : List (ℕ × ℕ)) → IsPairOf G q → AreRepresented ring G taken → is_passed q G taken ≡ true
      → HasLcmRepresentation ring G q.smaller q.larger
  passed_represented q taken k h e =
      by_case (either_true (coprime (leading_monomial_at G q.smaller) (leading_monomial_at G q.larger)) (has_third q taken 0 G) e)
    where
      within : q.smaller < length G
      within = omega (arith, k.apart, k.within)

      by_third : (j : ℕ) → j < length G → is_third q taken j (get_or G j []) ≡ true → HasLcmRepresentation ring G q.smaller q.larger
      by_third j l t =
          let p = third_parts q taken j (get_or G j []) t in
          chain_criterion ring G q.smaller q.larger j pos ok within k.within l (subst (λ m. IsTrue (divides (leading_monomial_at G j) m)) k.lcm p.0)
          (swapped (taken_represented j q.smaller taken h p.1)) (taken_represented j q.larger taken h p.2)

      by_case : (coprime (leading_monomial_at G q.smaller) (leading_monomial_at G q.larger) ≡ true) ⊎ (has_third q taken 0 G ≡ true)
          → HasLcmRepresentation ring G q.smaller q.larger
      by_case (inl c) = coprime_criterion ring G q.smaller q.larger pos ok within k.within c
      by_case (inr t) =
          let j = third_place q taken 0 G t in
          let z : 0 + j.0 ≡ j.0 = omega arith in
          by_third j.0 j.1 (subst (λ n. is_third q taken n (get_or G j.0 []) ≡ true) z j.2)
