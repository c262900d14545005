use Rattle.std.proofs.Common.{◌<◌, length, sym, ◌∙◌, subst, arith}
use Rattle.std.specs.List.{AllByRecursion}
use Rattle.cgs_list.proofs.ListLemmas.{all_weaker}
use Rattle.cgs_pairs.specs.Unpassed.{minimal_places}
use Rattle.cgs_pairs.proofs.MinimalLemmas.{minimal_below}
use Rattle.cgs_pairs.proofs.minimal.places_to_queue.Goals as goal

pub with_minimal-requires-clause-places : goal.with_minimal-requires-clause-places
with_minimal-requires-clause-places c =
    subst (λ is. AllByRecursion (λ k. k < length c.args.leads.now) is) (sym c.loop-i.invariant)
    (all_weaker (λ i. i < c.loop-i.i) (λ k. k < length c.args.leads.now) (minimal_places c.args.leads.now c.args.larger c.loop-i.i)
    (minimal_below c.args.leads.now c.args.larger c.loop-i.i) (λ i k. omega (arith, c.loop-i-test.true, c.requires.within)))

pub without_coprime-requires-clause-places : goal.without_coprime-requires-clause-places
without_coprime-requires-clause-places c =
    subst (λ is. AllByRecursion (λ k. k < length c.args.leads.now) is) (sym (c.deref.ensures.value ∙ c.loop-i.invariant))
    (all_weaker (λ i. i < c.loop-i.i) (λ k. k < length c.args.leads.now) (minimal_places c.args.leads.now c.args.larger c.loop-i.i)
    (minimal_below c.args.leads.now c.args.larger c.loop-i.i) (λ i k. omega (arith, c.loop-i.auto.i-end, c.requires.within)))
