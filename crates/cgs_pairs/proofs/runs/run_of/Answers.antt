use Rattle.std.proofs.Common.{suc, ◌≡◌, ◌+◌, ◌<◌, ◌∷◌, ◌++◌, length, map, drop, add-one, append_assoc, append-nil, sym, ap, ◌∙◌, subst, arith}
use Rattle.std.proofs.Math.Seq.{drop-cons}
use Rattle.std.proofs.lemmas.List.{drop_all}
use Rattle.cgs_pairs.specs.declared.rank.Rank.{Rank}
use Rattle.std.specs.List.{AllByRecursion}
use Rattle.cgs_list.proofs.ListLemmas.{all_weaker}
use Rattle.cgs_pairs.specs.Runs.{IsRun, AreRanks}
use Rattle.cgs_pairs.specs.Unpassed.{Ascend, AreEnough}
use Rattle.cgs_pairs.proofs.MinimalLemmas.{enough, ascending_places}
use Rattle.cgs_pairs.proofs.SortLemmas.{enough_places, sorted_run}
use Rattle.cgs_pairs.proofs.runs.run_of.Goals as goal
use Rattle.cgs_pairs.proofs.runs.run_of.Goals.{In_ok-queued, After-drop-ranks-2}

pub loop-rank-preserved : goal.loop-rank-preserved
loop-rank-preserved c =
    let step : map (λ (r : Rank). r.smaller) (drop c.loop-rank.rank-index c.deref-rank-items.result.now)
    ≡ c.rank-item.result.smaller ∷ map (λ (r : Rank). r.smaller) (drop (c.loop-rank.rank-index + 1) c.deref-rank-items.result.now) =
    rw add-one
    (ap (λ xs. map (λ (r : Rank). r.smaller) xs) (drop-cons c.deref-rank-items.result.now c.loop-rank.rank-index c.rank-item.result c.loop-rank-test.true)
    ∙ ap (λ (x : Rank). x.smaller ∷ map (λ (r : Rank). r.smaller) (drop (suc c.loop-rank.rank-index) c.deref-rank-items.result.now)) (sym c.rank-item.is)) in
    rw (c.in_ok-push_back.ensures.items, append_assoc) (ap (λ xs. c.loop-rank.places.items ++ xs) (sym step) ∙ c.loop-rank.invariant)

places_are : (c : After-drop-ranks-2) → c.loop-rank.places.items ≡ map (λ (r : Rank). r.smaller) c.sort.new.self.items
places_are c =
    let none = drop_all c.loop-rank.rank-index c.deref-rank-items.result.now c.loop-rank-test.false in
    sym (append-nil c.loop-rank.places.items)
    ∙ (ap (λ xs. c.loop-rank.places.items ++ map (λ (r : Rank). r.smaller) xs) (sym none)
    ∙ (c.loop-rank.invariant ∙ ap (λ xs. map (λ (r : Rank). r.smaller) xs) c.deref-rank-items.ensures.value))

queued_enough : (c : In_ok-queued) → AreEnough c.args.order.now c.args.leads.now c.args.larger c.in_ok-queued.queued.items
queued_enough c =
    subst (λ is. AreEnough c.args.order.now c.args.leads.now c.args.larger is) (sym c.in_ok-queued.ensures)
    (enough c.args.order.now c.args.leads.now c.requires.leads c.args.larger c.requires.within)

pub ranks_of-requires-clause-places : goal.ranks_of-requires-clause-places
ranks_of-requires-clause-places c =
    subst (λ is. AllByRecursion (λ i. i < length c.args.leads.now) is) (sym c.deref.ensures.value)
    (all_weaker (λ i. i < c.args.larger) (λ i. i < length c.args.leads.now) c.in_ok-queued.queued.items
    (queued_enough (goal.at.ranks_of-requires-clause-places c).In_ok-queued).below (λ i l. omega (arith, c.requires.within)))

ranks_are : (c : After-drop-ranks-2) → AreRanks c.args.order.now c.args.leads.now c.args.larger c.in_ok-queued.queued.items c.in_ok-ranks.ranks.items
ranks_are c =
    subst (λ is. AreRanks c.args.order.now c.args.leads.now c.args.larger is c.in_ok-ranks.ranks.items) c.deref.ensures.value c.in_ok-ranks.ensures

pub returns-clause-run : goal.returns-clause-run
returns-clause-run c =
    let at = (goal.at.returns-clause-run c).After-drop-ranks-2 in
    subst (λ is. IsRun c.args.order.now c.args.leads.now c.args.larger is) (sym (places_are at))
    (sorted_run c.args.order.now c.args.leads.now c.args.larger c.requires.leads c.requires.within c.in_ok-queued.queued.items
    c.in_ok-ranks.ranks.items c.sort.new.self.items (ranks_are at) (queued_enough (goal.at.returns-clause-run c).In_ok-queued).below
    c.in_ok-sort.ensures.permutation
    (subst (λ is. Ascend is) (sym c.in_ok-queued.ensures)
    (ascending_places c.args.order.now c.args.leads.now c.requires.leads c.args.larger c.requires.within))
    c.in_ok-sort.ensures.sorted)

pub returns-clause-enough : goal.returns-clause-enough
returns-clause-enough c =
    let at = (goal.at.returns-clause-enough c).After-drop-ranks-2 in
    subst (λ is. AreEnough c.args.order.now c.args.leads.now c.args.larger is) (sym (places_are at))
    (enough_places c.args.order.now c.args.leads.now c.args.larger c.requires.leads c.requires.within c.in_ok-queued.queued.items
    c.in_ok-ranks.ranks.items c.sort.new.self.items (ranks_are at) (queued_enough (goal.at.returns-clause-enough c).In_ok-queued).below
    c.in_ok-sort.ensures.permutation (queued_enough (goal.at.returns-clause-enough c).In_ok-queued))
