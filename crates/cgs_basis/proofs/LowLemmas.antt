-- A basis run of polynomials as a program keeps them ends with such polynomials.
use Rattle.std.proofs.Common.{ℕ, zero, suc, ◌≡◌, ◌-◌, inl, inr, Bool, true, false, cond, ltb, List, [], ◌∷◌, refl, subst, arith}
use Rattle.cgs_list.proofs.ListLemmas.{all_push}
use Rattle.cgs_poly.specs.Ring.{Ring}
use Rattle.cgs_poly.specs.Polynomial.{Term, IsRing, IsPoly, canonical, ArePolys}
use Rattle.cgs_poly.specs.Monic.{monic_of}
use Rattle.cgs_poly.specs.Same.{is_among}
use Rattle.cgs_poly.proofs.RingLemmas.{ring_positive}
use Rattle.cgs_poly.proofs.CanonicalLemmas.{canonical_low}
use Rattle.cgs_poly.proofs.MonicLemmas.{monic_poly}
use Rattle.cgs_algebra.specs.Groebner.{AreMonic}
use Rattle.cgs_divide.specs.DivisionRun.{divided, remainder_of, is_too_high}
use Rattle.cgs_divide.specs.Ending.{Ending, ended, out_of_degree}
use Rattle.cgs_divide.specs.AutoreductionRun.{autoreduction}
use Rattle.cgs_divide.proofs.DivisionLemmas.{left_divided}
use Rattle.cgs_divide.proofs.QuotientLemmas.{not_too_high}
use Rattle.cgs_divide.proofs.MonicLemmas.{monic_one}
use Rattle.cgs_divide.proofs.EndingLemmas.{has_followed, past_budget, past_degree}
use Rattle.cgs_divide.proofs.LowLemmas.{autoreduction_polys}
use Rattle.cgs_pairs.specs.declared.pair.Pair.{Pair}
use Rattle.cgs_pairs.specs.PairOrder.{IsWaiting}
use Rattle.cgs_pairs.specs.Passed.{is_passed, IsPairOf}
use Rattle.cgs_basis.specs.BasisRun.{Completion, Pairs, appended, with_generator, with_generators, with_remainder, pair_terms, with_taken}
use Rattle.cgs_basis.specs.BasisRun.{passed_over, after_least, completed_in, start, completion, basis_run}
use Rattle.cgs_basis.proofs.RepresentedLemmas.{pair_canonical}
use Rattle.cgs_basis.proofs.StateLemmas.{appended_monic, appended_known}

-- a run that goes on had no degree that is too high
low_enough : (b : Bool) (units : ℕ) (run : Ending (List (List Term))) (R : List (List Term)) (left : ℕ)
    → cond b (out_of_degree units) run ≡ ended R left → b ≡ false
low_enough true units run R left e = absurd (cc)
low_enough false units run R left e = refl

-- the polynomials of a list are of the ring

module _ (ring : Ring) (r : IsRing ring) where
  -- a state whose members are monic polynomials of the ring
  record IsHeld (s : Completion) : Type 0 where
    monic : AreMonic ring s.members
    polys : ArePolys ring s.members
    known : (q : Pair) → IsWaiting q s.pairs → IsPairOf s.members q

  monic_held : (s : Completion) (x : Term) (f : List Term) → IsHeld s → IsPoly ring (x ∷ f) → IsHeld (appended ring s (monic_of ring (x ∷ f)))
  monic_held s x f h k =
      let g : List Term = monic_of ring (x ∷ f) in
      let poly : IsPoly ring (monic_of ring (x ∷ f)) = monic_poly ring r (x ∷ f) k in
      record {
        monic = appended_monic ring [] s.members g h.monic poly.canonical (monic_one ring r x f k.canonical);
        polys = all_push (IsPoly ring) s.members g h.polys poly;
        known = appended_known ring [] s.members g s.pairs h.known;
      }

  -- the generators

  generator_held : (s : Completion) (f : List Term) → IsHeld s → IsPoly ring f → IsHeld (with_generator ring s f)
  generator_held s [] h k = h
  generator_held s (x ∷ f) h k = by_test (is_among (monic_of ring (x ∷ f)) s.members)
    where
      by_test : (b : Bool) → IsHeld (cond b s (appended ring s (monic_of ring (x ∷ f))))
      by_test true = h
      by_test false = monic_held s x f h k

  generators_held : (F : List (List Term)) (s : Completion) → IsHeld s → ArePolys ring F → IsHeld (with_generators ring s F)
  generators_held [] s h k = h
  generators_held (f ∷ F) s h k = generators_held F (with_generator ring s f) (generator_held s f h k.0) k.1

  started : (F : List (List Term)) → ArePolys ring F → IsHeld (start ring F)
  started F k =
      generators_held F (record { members = []; pairs = [] })
      (record { monic = record { canonical = tt; monic = tt }; polys = tt; known = λ q w. absurd w }) k

  -- the run

  remainder_held : (s : Completion) (f : List Term) → IsHeld s → IsPoly ring f → IsHeld (with_remainder ring s f)
  remainder_held s [] h k = h
  remainder_held s (x ∷ f) h k = monic_held s x f h k

  rest_held : (G : List (List Term)) (q : Pair) (pairs : List Pair) → IsHeld (record { members = G; pairs = q ∷ pairs })
      → IsHeld (record { members = G; pairs = pairs })
  rest_held G q pairs h = record { monic = h.monic; polys = h.polys; known = λ x v. h.known x (inr v) }

  passed_held : (G : List (List Term)) (pairs : List Pair) (taken : List (ℕ × ℕ)) → IsHeld (record { members = G; pairs = pairs })
      → IsHeld (record { members = G; pairs = (passed_over G pairs taken).waiting })
  passed_held G [] taken h = h
  passed_held G (q ∷ pairs) taken h =
      by_test (is_passed q G taken) (passed_held G pairs (with_taken taken q) (rest_held G q pairs h))
    where
      by_test : (b : Bool) → IsHeld (record { members = G; pairs = (passed_over G pairs (with_taken taken q)).waiting })
          → IsHeld (record { members = G; pairs = (cond b (passed_over G pairs (with_taken taken q)) (record { waiting = q ∷ pairs; taken = taken })).waiting })
      by_test true k = k
      by_test false k = h

  -- what ends with a list has monic polynomials of the ring
  abbrev FindsPolys : Completion → Ending (List (List Term)) → List (List Term) → ℕ → Type 0
  FindsPolys s run R left = IsHeld s → run ≡ ended R left → AreMonic ring R × ArePolys ring R

  least_polys : (G : List (List Term)) (w : Pairs) (units left : ℕ) (next : Completion → List (ℕ × ℕ) → ℕ → Ending (List (List Term))) (R : List (List Term))
      → ((t : Completion) (now : List (ℕ × ℕ)) (n : ℕ) → FindsPolys t (next t now n) R left)
      → FindsPolys (record { members = G; pairs = w.waiting }) (after_least ring G w units next) R left
  least_polys G w units left next R ih h e = by_pairs w.waiting h e
    where
      by_pairs : (pairs : List Pair) → IsHeld (record { members = G; pairs = pairs })
          → after_least ring G (record { waiting = pairs; taken = w.taken }) units next ≡ ended R left → AreMonic ring R × ArePolys ring R
      by_pairs [] k e = let s : G ≡ R = cc in subst (λ S. AreMonic ring S × ArePolys ring S) s (k.monic, k.polys)
      by_pairs (q ∷ pairs) k e =
          let s : Completion = record { members = G; pairs = pairs } in
          let f : List Term = canonical ring (pair_terms ring G q) in
          let a = past_budget (ltb units 1) units _ R left e in
          let low = low_enough (is_too_high (pair_terms ring G q)) (units - 1) _ R left a in
          let b = past_degree (is_too_high (pair_terms ring G q)) (units - 1) _ R left a in
          let v = has_followed (remainder_of (divided ring G (units - 1) f))
          (λ remainder n. next (with_remainder ring s remainder) (with_taken w.taken q) n) R left b in
          let p : IsPairOf G q = k.known q (inl refl) in
          let c = pair_canonical ring r G k.monic q.smaller q.larger (omega (arith, p.apart, p.within)) p.within in
          let d = left_divided ring G (units - 1) v.units f v.first (ring_positive ring r) k.monic c v.ran in
          let poly : IsPoly ring v.first =
          record {
            canonical = d.divided.canonical_remainder;
            low = d.divided.low_remainder (canonical_low ring (pair_terms ring G q) (not_too_high (pair_terms ring G q) low));
          } in
          ih (with_remainder ring s v.first) (with_taken w.taken q) v.units (remainder_held s v.first (rest_held G q pairs k) poly) v.then

  run_polys : (steps : ℕ) (s : Completion) (taken : List (ℕ × ℕ)) (units left : ℕ) (R : List (List Term))
      → FindsPolys s (completed_in steps ring s taken units) R left
  run_polys zero s taken units left R h e = absurd (cc)
  run_polys (suc steps) s taken units left R h e =
      least_polys s.members (passed_over s.members s.pairs taken) units left (completed_in steps ring) R
      (λ t now n. run_polys steps t now n left R) (passed_held s.members s.pairs taken h) e

  completion_polys : (F G : List (List Term)) (units left : ℕ) → ArePolys ring F → completion ring F units ≡ ended G left → AreMonic ring G × ArePolys ring G
  unfolding completion
  completion_polys F G units left k e = run_polys (suc units) (start ring F) [] units left G (started F k) e

  pub basis_polys : (F R : List (List Term)) (units left : ℕ) → ArePolys ring F → basis_run ring F units ≡ ended R left → ArePolys ring R
  unfolding basis_run
  basis_polys F R units left k e =
      let w = has_followed (completion ring F units) (autoreduction ring) R left e in
      let h = completion_polys F w.first units w.units k w.ran in
      autoreduction_polys ring r w.first h.0 h.1 R w.units left w.then
