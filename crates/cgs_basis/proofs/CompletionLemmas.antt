-- A completion that ends has found a Gröbner basis of the generators' ideal.
use Rattle.std.proofs.Common.{ℕ, zero, suc, ◌≡◌, ◌-◌, ◌<◌, inl, inr, Bool, true, false, cond, ltb, List, [], ◌∷◌, ◌++◌, length, get_or, refl, subst, arith}
use Rattle.cgs_exps.specs.Monomial.{quotient}
use Rattle.cgs_exps.proofs.MonomialLemmas.{quotient_length, lcm_length}
use Rattle.cgs_poly.specs.Ring.{Ring}
use Rattle.cgs_poly.specs.Polynomial.{Term, places, order_of, IsRing, IsOfRing, IsCanonical, canonical}
use Rattle.cgs_poly.specs.Product.{multiple, leading_monomial, leading_coefficient}
use Rattle.cgs_poly.proofs.RingLemmas.{ring_positive}
use Rattle.cgs_poly.proofs.CanonicalLemmas.{canonical_of_ring}
use Rattle.cgs_algebra.specs.Combination.{IsMember}
use Rattle.cgs_algebra.specs.Groebner.{AreMonic, IsGroebnerBasis}
use Rattle.cgs_algebra.specs.SPolynomial.{HasLcmRepresentation, pair_lcm}
use Rattle.cgs_algebra.proofs.RepresentationLemmas.{lead_at_length}
use Rattle.cgs_algebra.proofs.MemberLemmas.{zero_member, same_member, sum_member, multiple_member, scaled_member, generators_inside}
use Rattle.cgs_algebra.proofs.GroebnerLemmas.{complete_groebner}
use Rattle.cgs_algebra.proofs.GroebnerLemmas as any
use Rattle.cgs_algebra.proofs.PlaceLemmas.{member_at}
use Rattle.cgs_divide.specs.DivisionRun.{divided, remainder_of, is_too_high}
use Rattle.cgs_divide.specs.Division.{HasDivided}
use Rattle.cgs_field.specs.Inverse.{inverse}
use Rattle.cgs_poly.specs.Monic.{monic_of}
use Rattle.cgs_poly.specs.Same.{is_among}
use Rattle.cgs_divide.specs.Ending.{Ending, ended}
use Rattle.cgs_divide.proofs.DivisionLemmas.{left_divided}
use Rattle.cgs_divide.proofs.AutoreductionLemmas.{remainder_member}
use Rattle.cgs_divide.proofs.MonicLemmas.{monic_canonical, monic_one, monic_scaled, monic_back}
use Rattle.cgs_divide.proofs.EndingLemmas.{has_followed, past_budget, past_degree}
use Rattle.cgs_pairs.specs.declared.pair.Pair.{Pair}
use Rattle.cgs_pairs.specs.PairOrder.{IsWaiting}
use Rattle.cgs_pairs.specs.Passed.{is_passed, AreRepresented}
use Rattle.cgs_pairs.proofs.PairLemmas.{pairs_kept}
use Rattle.cgs_pairs.proofs.PassedLemmas.{passed_represented}
use Rattle.cgs_basis.specs.BasisRun.{Completion, Pairs, leads_of, with_last, appended, with_generator, with_generators, with_remainder, pair_terms}
use Rattle.cgs_basis.specs.BasisRun.{with_taken, passed_over, after_least, completed_in, start, completion}
use Rattle.cgs_poly.proofs.SameLemmas.{among_place}
use Rattle.cgs_algebra.proofs.GrowthLemmas.{member_more, last_member}
use Rattle.cgs_basis.proofs.TakenLemmas.{still_within, represented_more, represented_with}
use Rattle.cgs_basis.proofs.RepresentedLemmas.{pair_polynomial, pair_canonical, pair_alike, represented_by_division, represented_with_remainder}
use Rattle.cgs_basis.proofs.StateLemmas.{IsSound, IsSettledAt, AreSettled, taken_settled, appended_sound, appended_settled, new_waits}
use Rattle.std.specs.List.{AllByRecursion}
use Rattle.cgs_list.proofs.ListLemmas.{all_weaker}

module _ (ring : Ring) (r : IsRing ring) (F : List (List Term)) (can : AllByRecursion (IsCanonical ring) F) where
  pos : 0 < ring.modulus
  pos = ring_positive ring r

  -- a state in which each pair of places waits or has an lcm representation, and each pair that was taken has one
  record IsGood (s : Completion) (taken : List (ℕ × ℕ)) : Type 0 where
    sound : IsSound ring F s.members s.pairs
    settled : AreSettled ring s.members s.pairs
    represented : AreRepresented ring s.members taken

  -- the monic multiple of a member is a member
  monic_inside : (x : Term) (f : List Term) → IsCanonical ring (x ∷ f) → IsMember ring F (x ∷ f) → IsMember ring F (monic_of ring (x ∷ f))
  monic_inside x f h m = scaled_member ring F pos (inverse ring.modulus x.coefficient) (x ∷ f) (monic_of ring (x ∷ f)) (monic_scaled ring r x f h) m

  appended_good : (s : Completion) (taken : List (ℕ × ℕ)) (g : List Term) → IsGood s taken → IsCanonical ring g → leading_coefficient g ≡ 1
      → IsMember ring F g → IsGood (appended ring s g) taken
  appended_good s taken g h k one m = record {
    sound = appended_sound ring F s.members g s.pairs h.sound k one m;
    settled = appended_settled ring F s.members g s.pairs (with_last (order_of ring) s.members g s.pairs) h.settled
        (λ q w. pairs_kept (order_of ring) (leading_monomial g) (length s.members) 0 (leads_of s.members) s.pairs q w)
        (λ i l. new_waits (order_of ring) s.members g s.pairs i l);
    represented = represented_more ring s.members (g ∷ []) taken h.represented;
  }

  -- the generators

  -- the members generate the ideal of what was put among them, and of what was there
  record Holds (s t : Completion) (f : List Term) : Type 0 where
    good : IsGood t []
    here : IsMember ring t.members f
    before : (g : List Term) → IsMember ring s.members g → IsMember ring t.members g

  generator_held : (s : Completion) (f : List Term) → IsGood s [] → IsCanonical ring f → IsMember ring F f → Holds s (with_generator ring s f) f
  generator_held s [] h k m = record { good = h; here = zero_member ring s.members pos; before = λ g i. i }
  generator_held s (x ∷ f) h k m = by_test (is_among (monic_of ring (x ∷ f)) s.members) refl
    where
      g : List Term
      g = monic_of ring (x ∷ f)

      back : (G : List (List Term)) → IsMember ring G (monic_of ring (x ∷ f)) → IsMember ring G (x ∷ f)
      back G i = scaled_member ring G pos x.coefficient (monic_of ring (x ∷ f)) (x ∷ f) (monic_back ring r x f k) i

      g_ring : IsOfRing ring (monic_of ring (x ∷ f))
      g_ring = canonical_of_ring ring (monic_of ring (x ∷ f)) (monic_canonical ring r x f k)

      new : IsGood (appended ring s (monic_of ring (x ∷ f))) []
      new = appended_good s [] (monic_of ring (x ∷ f)) h (monic_canonical ring r x f k) (monic_one ring r x f k) (monic_inside x f k m)

      by_test : (b : Bool) → is_among (monic_of ring (x ∷ f)) s.members ≡ b → Holds s (cond b s (appended ring s (monic_of ring (x ∷ f)))) (x ∷ f)
      by_test true e =
          let i = among_place (monic_of ring (x ∷ f)) s.members e in
          record {
            good = h;
            here =
                back s.members (subst (λ q. IsMember ring s.members q) i.2
                (member_at ring s.members s.members (any.monic_inside ring s.members pos h.sound.monic) i.0 i.1));
            before = λ g i. i;
          }
      by_test false e = record {
        good = new;
        here = back (s.members ++ monic_of ring (x ∷ f) ∷ []) (last_member ring s.members (monic_of ring (x ∷ f)) pos g_ring);
        before = λ g i. member_more ring s.members (monic_of ring (x ∷ f) ∷ []) g i;
      }

  -- the members generate the ideal of some generators
  record HoldAll (s t : Completion) (H : List (List Term)) : Type 0 where
    good : IsGood t []
    here : AllByRecursion (IsMember ring t.members) H
    before : (g : List Term) → IsMember ring s.members g → IsMember ring t.members g

  generators_held : (H : List (List Term)) (s : Completion) → IsGood s [] → AllByRecursion (IsCanonical ring) H → AllByRecursion (IsMember ring F) H
      → HoldAll s (with_generators ring s H) H
  generators_held [] s h k m = record { good = h; here = tt; before = λ g i. i }
  generators_held (f ∷ H) s h k m =
      let a = generator_held s f h k.0 m.0 in
      let b = generators_held H (with_generator ring s f) a.good k.1 m.1 in
      record { good = b.good; here = (b.before f a.here, b.here); before = λ g i. b.before g (a.before g i) }

  started : HoldAll (record { members = []; pairs = [] }) (start ring F) F
  started =
      generators_held F (record { members = []; pairs = [] })
      (record {
        sound = record {
          monic = record { canonical = tt; monic = tt };
          inside = tt;
          known = λ q w. absurd w;
        };
        settled = record { at = λ i j l k. absurd (omega arith) };
        represented = record { at = λ larger smaller e. absurd (cc) };
      }) can (generators_inside ring F pos (all_weaker (IsCanonical ring) (IsOfRing ring) F can (canonical_of_ring ring)))

  -- the step of a pair

  module _ (G : List (List Term)) (q : Pair) (pairs : List Pair) (taken : List (ℕ × ℕ)) (h : IsGood (record { members = G; pairs = q ∷ pairs }) taken) where
    within : q.larger < length G
    within = (h.sound.known q (inl refl)).within

    within_smaller : q.smaller < length G
    within_smaller = let k = h.sound.known q (inl refl) in omega (arith, k.apart, k.within)

    sound_rest : IsSound ring F G pairs
    sound_rest = record { monic = h.sound.monic; inside = h.sound.inside; known = λ x w. h.sound.known x (inr w) }

    s_inside : IsMember ring F (pair_polynomial ring r G h.sound.monic q.smaller q.larger within_smaller within)
    s_inside =
        let f : List Term = get_or G q.smaller [] in
        let g : List Term = get_or G q.larger [] in
        let m : List ℕ = pair_lcm f g in
        let lf = lead_at_length ring G pos h.sound.monic q.smaller within_smaller in
        let lg = lead_at_length ring G pos h.sound.monic q.larger within in
        let lm : length m ≡ places ring = lcm_length (leading_monomial f) (leading_monomial g) (places ring) lf lg in
        same_member ring F pos (pair_alike ring r G h.sound.monic q.smaller q.larger within_smaller within)
        (sum_member ring F pos (multiple 1 (quotient m (leading_monomial f)) f) (multiple (ring.modulus - 1) (quotient m (leading_monomial g)) g)
        (multiple_member ring F pos 1 (quotient m (leading_monomial f)) f (quotient_length m (leading_monomial f) (places ring) lm lf)
        (member_at ring F G h.sound.inside q.smaller within_smaller))
        (multiple_member ring F pos (ring.modulus - 1) (quotient m (leading_monomial g)) g
        (quotient_length m (leading_monomial g) (places ring) lm lg) (member_at ring F G h.sound.inside q.larger within)))

    s_canonical : IsCanonical ring (canonical ring (pair_terms ring G q))
    s_canonical = pair_canonical ring r G h.sound.monic q.smaller q.larger within_smaller within

    still_inside : (remainder f : List Term) → IsMember ring G f
        → IsMember ring (with_remainder ring (record { members = G; pairs = pairs }) remainder).members f
    still_inside [] f i = i
    still_inside (x ∷ remainder) f i = member_more ring G (monic_of ring (x ∷ remainder) ∷ []) f i

    -- the remainder of its S-polynomial is 0, or is put at the end
    step_good : (remainder : List Term) (quotients : List (List Term)) → HasDivided ring G (canonical ring (pair_terms ring G q)) remainder quotients
        → IsGood (with_remainder ring (record { members = G; pairs = pairs }) remainder) (with_taken taken q)
    step_good [] quotients d =
        let k : HasLcmRepresentation ring G q.smaller q.larger =
        represented_by_division ring r G h.sound.monic q.smaller q.larger within_smaller within quotients d in
        record {
          sound = sound_rest;
          settled = taken_settled ring G q pairs h.settled k;
          represented = represented_with ring G taken q h.represented within_smaller within k;
        }
    step_good (x ∷ remainder) quotients d =
        let g : List Term = monic_of ring (x ∷ remainder) in
        let m : IsMember ring F (x ∷ remainder) =
        remainder_member ring pos G h.sound.monic F h.sound.inside (canonical ring (pair_terms ring G q)) (x ∷ remainder) quotients d s_inside in
        let after : List Pair = with_last (order_of ring) G g pairs in
        let k : HasLcmRepresentation ring (G ++ g ∷ []) q.smaller q.larger =
        represented_with_remainder ring r G h.sound.monic q.smaller q.larger within_smaller within x remainder quotients d in
        record {
          sound = appended_sound ring F G g pairs sound_rest (monic_canonical ring r x remainder d.canonical_remainder)
              (monic_one ring r x remainder d.canonical_remainder) (monic_inside x remainder d.canonical_remainder m);
          settled = taken_settled ring (G ++ g ∷ []) q after
              (appended_settled ring F G g (q ∷ pairs) (q ∷ after) h.settled
              (λ x w. elim w as (λ _. IsWaiting x (q ∷ after)) [
                | inl e ↦ inl e
                | inr v ↦ inr (pairs_kept (order_of ring) (leading_monomial g) (length G) 0 (leads_of G) pairs x v)
              ])
              (λ k l. let n = new_waits (order_of ring) G g pairs k l in (n.0, inr n.1, n.2, n.3))) k;
          represented = represented_with ring (G ++ g ∷ []) taken q (represented_more ring G (g ∷ []) taken h.represented)
              (still_within G (g ∷ []) q.smaller within_smaller) (still_within G (g ∷ []) q.larger within) k;
        }

    -- it is passed
    pass_good : is_passed q G taken ≡ true → IsGood (record { members = G; pairs = pairs }) (with_taken taken q)
    pass_good e =
        let k = passed_represented ring G pos h.sound.monic q taken (h.sound.known q (inl refl)) h.represented e in
        record {
          sound = sound_rest;
          settled = taken_settled ring G q pairs h.settled k;
          represented = represented_with ring G taken q h.represented within_smaller within k;
        }

  -- a state without the pairs that are passed
  abbrev IsGoodWith : List (List Term) → Pairs → Type 0
  IsGoodWith G w = IsGood (record { members = G; pairs = w.waiting }) w.taken

  passed_good : (G : List (List Term)) (pairs : List Pair) (taken : List (ℕ × ℕ)) → IsGood (record { members = G; pairs = pairs }) taken
      → IsGoodWith G (passed_over G pairs taken)
  passed_good G [] taken h = h
  passed_good G (q ∷ pairs) taken h = by_test (is_passed q G taken) refl (λ k. passed_good G pairs (with_taken taken q) k)
    where
      by_test : (b : Bool) → is_passed q G taken ≡ b
          → (IsGood (record { members = G; pairs = pairs }) (with_taken taken q) → IsGoodWith G (passed_over G pairs (with_taken taken q)))
          → IsGoodWith G (cond b (passed_over G pairs (with_taken taken q)) (record { waiting = q ∷ pairs; taken = taken }))
      by_test true e ih = ih (pass_good G q pairs taken h e)
      by_test false e ih = h

  -- the run

  -- what ends with a list has found a Gröbner basis, where the members generate the ideal
  abbrev FindsBasis : Completion → List (ℕ × ℕ) → Ending (List (List Term)) → List (List Term) → ℕ → Type 0
  FindsBasis s taken run R left =
      IsGood s taken → AllByRecursion (IsMember ring s.members) F → run ≡ ended R left → AreMonic ring R × IsGroebnerBasis ring R F

  least_groebner : (G : List (List Term)) (w : Pairs) (units left : ℕ) (next : Completion → List (ℕ × ℕ) → ℕ → Ending (List (List Term))) (R : List (List Term))
      → ((t : Completion) (now : List (ℕ × ℕ)) (n : ℕ) → FindsBasis t now (next t now n) R left)
      → FindsBasis (record { members = G; pairs = w.waiting }) w.taken (after_least ring G w units next) R left
  least_groebner G w units left next R ih h f e = by_pairs w.waiting h e
    where
      represented : {i j : ℕ} → IsSettledAt ring G [] i j → HasLcmRepresentation ring G i j
      represented (inl q) = absurd q.1
      represented (inr r) = r

      by_pairs : (pairs : List Pair) → IsGood (record { members = G; pairs = pairs }) w.taken
          → after_least ring G (record { waiting = pairs; taken = w.taken }) units next ≡ ended R left → AreMonic ring R × IsGroebnerBasis ring R F
      by_pairs [] k e =
          let t : G ≡ R = cc in
          let basis : IsGroebnerBasis ring G F =
          complete_groebner ring G F pos k.sound.monic k.sound.inside f (λ i j l m. represented (k.settled.at i j l m)) in
          subst (λ S. AreMonic ring S × IsGroebnerBasis ring S F) t (k.sound.monic, basis)
      by_pairs (q ∷ pairs) k e =
          let a = past_budget (ltb units 1) units _ R left e in
          let b = past_degree (is_too_high (pair_terms ring G q)) (units - 1) _ R left a in
          let u : Completion = record { members = G; pairs = pairs } in
          let v = has_followed (remainder_of (divided ring G (units - 1) (canonical ring (pair_terms ring G q)))) (λ remainder n.
          next (with_remainder ring u remainder) (with_taken w.taken q) n) R left b in
          let d = left_divided ring G (units - 1) v.units (canonical ring (pair_terms ring G q)) v.first pos k.sound.monic
          (s_canonical G q pairs w.taken k) v.ran in
          ih (with_remainder ring u v.first) (with_taken w.taken q) v.units (step_good G q pairs w.taken k v.first d.quotients d.divided)
          (all_weaker (IsMember ring G) (IsMember ring (with_remainder ring u v.first).members) F f (still_inside G q pairs w.taken k v.first)) v.then

  run_groebner : (steps : ℕ) (s : Completion) (taken : List (ℕ × ℕ)) (units left : ℕ) (R : List (List Term))
      → FindsBasis s taken (completed_in steps ring s taken units) R left
  run_groebner zero s taken units left R h f e = absurd (cc)
  run_groebner (suc steps) s taken units left R h f e =
      least_groebner s.members (passed_over s.members s.pairs taken) units left (completed_in steps ring) R
      (λ t now n. run_groebner steps t now n left R) (passed_good s.members s.pairs taken h) f e

  -- a completion that ends has found a Gröbner basis of monic members
  pub completion_groebner : (units left : ℕ) (R : List (List Term)) → completion ring F units ≡ ended R left → AreMonic ring R × IsGroebnerBasis ring R F
  unfolding completion
  completion_groebner units left R e = run_groebner (suc units) (start ring F) [] units left R started.good started.here e
