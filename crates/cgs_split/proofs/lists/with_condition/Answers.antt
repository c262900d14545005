use Rattle.std.proofs.Common.{sym, subst}
use Rattle.std.specs.List.{AllByRecursion}
use Rattle.cgs_poly.specs.Parameters.{IsCondition}
use Rattle.cgs_split.proofs.lists.with_condition.Goals as goal

pub returns-clause-conditions : goal.returns-clause-conditions
returns-clause-conditions c =
    subst (λ L. AllByRecursion (IsCondition c.args.ring.now) L) (sym c.in_ok-shared.ensures)
    (c.in_ok-add.ensures.conditions (subst (λ L. AllByRecursion (IsCondition c.args.ring.now) L) (sym c.in_ok-longer.ensures) c.requires.conditions)
    c.requires.condition)
