use Rattle.std.proofs.Common.{IsTrue, ◌≡◌, ◌↔◌}
use Rattle.cgs_divide.specs.Ending.{ended}
use Rattle.cgs_radical.specs.EmptinessRun.{emptiness_run}
use Rattle.cgs_radical.specs.Laws.{Contradict}
use Rattle.cgs_radical.proofs.EmptinessLemmas.{empty_is_contradiction}
use Rattle.cgs_radical.proofs.PointLemmas.{contradiction_has_no_point}
use Rattle.cgs_radical.proofs.TestLemmas.{conditions_parametric}
use Rattle.cgs_radical.proofs.emptiness.test_empty.Goals as goal
use Rattle.cgs_radical.proofs.emptiness.test_empty.Goals.{In_ok-empty}

ran : (c : In_ok-empty) → emptiness_run c.args.ring.now c.args.conditions.now.zero c.args.conditions.now.nonzero c.args.fuel.now
    ≡ ended c.in_ok-empty.empty c.test_empty_by.new.fuel
ran c = c.in_ok-empty.ensures.ends c.args.conditions.now.zero c.args.fuel.now c.in_ok-basis.ensures.ends

decides : (c : In_ok-empty) → IsTrue c.in_ok-empty.empty ↔ Contradict c.args.ring.now c.args.conditions.now.zero c.args.conditions.now.nonzero
decides c =
    empty_is_contradiction c.args.ring.now c.args.conditions.now.zero c.args.conditions.now.nonzero
    c.args.fuel.now c.test_empty_by.new.fuel c.in_ok-empty.empty c.requires.ring
    (conditions_parametric c.args.ring.now c.args.conditions.now.zero c.requires.zero)
    (conditions_parametric c.args.ring.now c.args.conditions.now.nonzero c.requires.nonzero) (ran c)

pub returns-clause-exact : goal.returns-clause-exact
returns-clause-exact c = decides (goal.at.returns-clause-exact c).In_ok-empty

pub returns-clause-no_point : goal.returns-clause-no_point
returns-clause-no_point c = λ t a point.
    contradiction_has_no_point c.args.ring.now c.args.conditions.now.zero c.args.conditions.now.nonzero a c.requires.ring
    (conditions_parametric c.args.ring.now c.args.conditions.now.zero c.requires.zero)
    (conditions_parametric c.args.ring.now c.args.conditions.now.nonzero c.requires.nonzero)
    ((decides (goal.at.returns-clause-no_point c).In_ok-empty).0 t)
