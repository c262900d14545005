use Rattle.std.proofs.Common.{◌≡◌, sym, ◌∙◌, subst}
use Rattle.std.specs.List.{AllByRecursion}
use Rattle.cgs_poly.specs.Parameters.{IsCondition}
use Rattle.cgs_entry.specs.Conditions.{with_member}
use Rattle.cgs_entry.proofs.AddingLemmas.{condition_added}
use Rattle.cgs_entry.proofs.ConditionLemmas.{added_new, added_old}
use Rattle.cgs_entry.proofs.conditions.add.Goals as goal
use Rattle.cgs_entry.proofs.conditions.add.Goals.{In_ok-push}

pushed : (c : In_ok-push) → c.push.new.self ≡ with_member c.args.ring.now c.args.list.now c.args.f.now
pushed c =
    c.in_ok-push.ensures.ok ∙ added_new c.args.ring.now c.args.list.now c.args.f.now c.in_ok-monic.monic c.in_ok-monic.ensures.monic
    (sym c.is_among.ensures ∙ c.if-not-is_among.true)

pub returns-in_ok-push-clause-ok : goal.returns-in_ok-push-clause-ok
returns-in_ok-push-clause-ok c = pushed (goal.at.returns-in_ok-push-clause-ok c).In_ok-push

pub returns-in_ok-push-clause-conditions : goal.returns-in_ok-push-clause-conditions
returns-in_ok-push-clause-conditions c = λ all f.
    subst (λ L. AllByRecursion (IsCondition c.args.ring.now) L) (sym (pushed (goal.at.returns-in_ok-push-clause-conditions c).In_ok-push))
    (condition_added c.args.ring.now c.requires.ring c.args.list.now c.args.f.now all f)

pub returns-else-not-is_among-clause-ok : goal.returns-else-not-is_among-clause-ok
returns-else-not-is_among-clause-ok c =
    added_old c.args.ring.now c.args.list.now c.args.f.now c.in_ok-monic.monic c.in_ok-monic.ensures.monic
    (sym c.is_among.ensures ∙ c.if-not-is_among.false)
