use Rattle.std.proofs.Common.{sym, ◌∙◌, subst}
use Rattle.std.specs.List.{AllByRecursion}
use Rattle.cgs_poly.specs.Parameters.{IsCondition}
use Rattle.cgs_entry.proofs.AddingLemmas.{condition_added}
use Rattle.cgs_entry.proofs.ConditionLemmas.{added_new}
use Rattle.cgs_entry.proofs.growing.GrowingList.add.Goals as goal

pub returns-in_ok-push-clause-conditions : goal.returns-in_ok-push-clause-conditions
returns-in_ok-push-clause-conditions c =
    let added = c.in_ok-push.ensures.ok
    ∙ added_new c.args.ring.now c.args.self.now c.args.f.now c.in_ok-monic.monic c.in_ok-monic.ensures.monic (sym c.has.ensures ∙ c.if-not-has.true) in
    λ all f. subst (λ L. AllByRecursion (IsCondition c.args.ring.now) L) (sym added)
    (condition_added c.args.ring.now c.requires.ring c.args.self.now c.args.f.now all f)
