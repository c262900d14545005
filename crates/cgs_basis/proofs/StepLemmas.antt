-- The step of a pair in a completion, as code makes it.
use Rattle.std.proofs.Common.{ℕ, ◌≡◌, ◌+◌, ◌-◌, ◌<◌, ◌≤◌, suc, inl, inr, Some, true, false, List, [], ◌∷◌, length, get_or, drop, add-one, refl, sym}
use Rattle.std.proofs.Common.{ap, ◌∙◌, subst}
use Rattle.std.specs.Prelude.{Option, IfSome}
use Rattle.std.proofs.Math.Seq.{drop-cons}
use Rattle.cgs_poly.specs.Ring.{Ring}
use Rattle.cgs_poly.specs.Polynomial.{Term, order_of, IsRing, HasLowDegrees, canonical}
use Rattle.cgs_algebra.specs.Groebner.{AreMonic}
use Rattle.cgs_algebra.specs.SPolynomial.{s_terms}
use Rattle.cgs_divide.specs.DivisionRun.{divided, remainder_of, is_too_high}
use Rattle.cgs_divide.specs.Ending.{Ending, ended, out_of_budget, out_of_degree, followed}
use Rattle.cgs_divide.proofs.StepLemmas.{high_unless_low, low_not_high}
use Rattle.cgs_pairs.specs.declared.pair.Pair.{Pair}
use Rattle.cgs_pairs.specs.PairOrder.{IsWaiting, IsAscending}
use Rattle.cgs_pairs.specs.Runs.{WaitingPairs}
use Rattle.cgs_pairs.specs.Passed.{IsPairOf}
use Rattle.cgs_pairs.proofs.QueueLemmas.{ascending_rest}
use Rattle.cgs_basis.specs.BasisRun.{Completion, Pairs, leads_of, with_generator, with_generators, with_remainder, pair_terms}
use Rattle.cgs_basis.specs.BasisRun.{with_taken, passed_over, after_least, start}
use Rattle.cgs_basis.specs.Completion.{StandFor}
use Rattle.cgs_basis.proofs.PassingLemmas.{IsLedger, IsPast, StartWith, HasLedger, passed_past, ledger_taken, known_pair}
use Rattle.cgs_basis.proofs.StateLemmas.{members_leads}
use Rattle.cgs_basis.proofs.RunLemmas.{completed, completed_from, stops_at_budget, stops_at_degree, goes_on}

-- what is known of a pair that was found
pub told : {T : Type 0} (P : T → Type 0) (least : Option T) (x : T) → least ≡ Some x → IfSome least P → P x
told P least x e h = subst (λ r. IfSome r P) e h

-- the members and the queue stand for the first generators, and the others follow
pub record IsStarted (ring : Ring) (F : List (List Term)) (i : ℕ) (G : List (List Term)) (queue : WaitingPairs) : Type 0 where
  pub state : Completion
  pub stand : StandFor ring state G queue
  pub rest : start ring F ≡ with_generators ring state (drop i F)

-- one generator after another
pub generators_step : (ring : Ring) (F : List (List Term)) (i : ℕ) (f : List Term) (G H : List (List Term)) (queue after : WaitingPairs)
    → i < length F → get_or F i [] ≡ f → IsStarted ring F i G queue
    → ((s : Completion) → StandFor ring s G queue → StandFor ring (with_generator ring s f) H after) → IsStarted ring F (i + 1) H after
generators_step ring F i f G H queue after l e h next = record {
  state = with_generator ring h.state f;
  stand = next h.state h.stand;
  rest = h.rest ∙ rw add-one (ap (λ H. with_generators ring h.state H) (drop-cons F i [] l)
      ∙ ap (λ u. with_generators ring u (drop (suc i) F)) (ap (λ g. with_generator ring h.state g) e));
}

-- the run is that of the members, of some pairs that wait and of some that were taken, and the queue stands for those that wait
pub record GoesOn (ring : Ring) (ending : Ending (List (List Term))) (G : List (List Term)) (queue : WaitingPairs) (units : ℕ) : Type 0 where
  pub pairs : List Pair
  pub taken : List (ℕ × ℕ)
  pub run : ending ≡ completed ring (record { members = G; pairs = pairs }) taken units
  pub stand : StandFor ring (record { members = G; pairs = pairs }) G queue
  pub ledger : HasLedger ring (record { members = G; pairs = pairs }) taken

pub goes_on_from : (ring : Ring) (ending : Ending (List (List Term))) (G : List (List Term)) (queue : WaitingPairs) (units : ℕ)
    (s : Completion) (taken : List (ℕ × ℕ)) → ending ≡ completed ring s taken units → StandFor ring s G queue → HasLedger ring s taken
    → GoesOn ring ending G queue units
goes_on_from ring ending G queue units s taken e h l =
    let is : s ≡ record { members = G; pairs = s.pairs } = λ t. record { members = h.members t; pairs = s.pairs } in
    record {
      pairs = s.pairs;
      taken = taken;
      run = subst (λ u. ending ≡ completed ring u taken units) is e;
      stand = subst (λ u. StandFor ring u G queue) is h;
      ledger = subst (λ u. HasLedger ring u taken) is l;
    }

-- the least pair of the queue is the next of the run, and the queue without it stands for the pairs that wait after it
pub record Takes (ring : Ring) (G : List (List Term)) (ending : Ending (List (List Term))) (units : ℕ) (q : Pair) (after : WaitingPairs) : Type 0 where
  pub rest : List Pair
  pub taken : List (ℕ × ℕ)
  pub known : IsPairOf G q
  pub run : ending ≡ after_least ring G (record { waiting = q ∷ rest; taken = taken }) units (completed ring)
  pub stand : StandFor ring (record { members = G; pairs = rest }) G after
  pub ledger : HasLedger ring (record { members = G; pairs = rest }) (with_taken taken q)

module _ (ring : Ring) (G : List (List Term)) (r : IsRing ring) (ok : AreMonic ring G) (ending : Ending (List (List Term))) (queue : WaitingPairs)
    (units : ℕ) (h : GoesOn ring ending G queue units) where
  abbrev past : Pairs
  past = passed_over G h.pairs h.taken

  is_past : IsPast (order_of ring) G queue.pairs past
  is_past = subst (λ ps. IsPast (order_of ring) G ps past) (sym h.stand.pairs)
      (passed_past (order_of ring) G (members_leads ring G r ok) h.pairs h.taken h.stand.ascending h.stand.known h.ledger)

  from_past : (waiting : List Pair) → past.waiting ≡ waiting
      → ending ≡ after_least ring G (record { waiting = waiting; taken = past.taken }) units (completed ring)
  from_past waiting e =
      h.run ∙ completed_from ring (record { members = G; pairs = h.pairs }) h.taken (record { waiting = waiting; taken = past.taken }) units
      (λ t. record { waiting = e t; taken = past.taken })

  -- no pair is left
  pub none_left : queue.pairs ≡ [] → ending ≡ ended G units
  none_left e = from_past [] (subst (λ ps. StartWith (order_of ring) G ps past.waiting) e is_past.first)

  pub takes : (q : Pair) (after : WaitingPairs) → queue.pairs ≡ q ∷ after.pairs → Takes ring G ending units q after
  takes q after e =
      let first = subst (λ ps. StartWith (order_of ring) G ps past.waiting) e is_past.first in
      let rest : List Pair = first.0 in
      let known = subst (λ ps. (p : Pair) → IsWaiting p ps → IsPairOf G p) first.1 is_past.known in
      let ascending = subst (λ ps. IsAscending (order_of ring) ps) first.1 is_past.ascending in
      record {
        rest = rest;
        taken = past.taken;
        known = known q (inl refl);
        run = from_past (q ∷ rest) first.1;
        stand = record {
          members = refl;
          pairs = sym first.2;
          ascending = ascending_rest (order_of ring) q rest ascending;
          known = λ p w. known p (inr w);
        };
        ledger = ledger_taken (order_of ring) (leads_of G) q rest past.taken ascending (known_pair G q (known q (inl refl)))
            (subst (λ ps. IsLedger (order_of ring) (leads_of G) ps past.taken) first.1 is_past.ledger);
      }

module _ (ring : Ring) (G : List (List Term)) (ending : Ending (List (List Term))) (q : Pair) (rest : List Pair) (taken : List (ℕ × ℕ)) (units : ℕ)
    (from : ending ≡ after_least ring G (record { waiting = q ∷ rest; taken = taken }) units (completed ring)) where
  pub taken_budget : units < 1 → ending ≡ out_of_budget units
  taken_budget l = from ∙ stops_at_budget ring G q rest taken units (completed ring) l

  module _ (f g : List Term) (first : get_or G q.smaller [] ≡ f) (second : get_or G q.larger [] ≡ g)
      (paid : ℕ) (enough : 1 ≤ units) (cost : paid ≡ units - 1) where
    terms_are : s_terms ring f g ≡ pair_terms ring G q
    terms_are = ap (λ a. s_terms ring a g) (sym first) ∙ ap (λ b. s_terms ring (get_or G q.smaller []) b) (sym second)

    pub taken_degree : ¬ HasLowDegrees (s_terms ring f g) → ending ≡ out_of_degree paid
    taken_degree n =
        let high : is_too_high (pair_terms ring G q) ≡ true = ap is_too_high (sym terms_are) ∙ high_unless_low (s_terms ring f g) n in
        from ∙ (stops_at_degree ring G q rest taken units (completed ring) enough high ∙ ap out_of_degree (sym cost))

    pub taken_division : (s : List Term) → HasLowDegrees (s_terms ring f g) → s ≡ canonical ring (s_terms ring f g)
        → ending ≡ followed (remainder_of (divided ring G paid s))
        (λ remainder left. completed ring (with_remainder ring (record { members = G; pairs = rest }) remainder) (with_taken taken q) left)
    taken_division s low e =
        let flat : is_too_high (pair_terms ring G q) ≡ false = ap is_too_high (sym terms_are) ∙ low_not_high (s_terms ring f g) low in
        let a : remainder_of (divided ring G (units - 1) (canonical ring (pair_terms ring G q))) ≡ remainder_of (divided ring G paid s) =
        ap (λ n. remainder_of (divided ring G n (canonical ring (pair_terms ring G q)))) (sym cost)
        ∙ ap (λ h. remainder_of (divided ring G paid h)) (ap (λ h. canonical ring h) (sym terms_are) ∙ sym e) in
        from ∙ goes_on ring G q rest taken units (completed ring) (remainder_of (divided ring G paid s)) enough flat a
