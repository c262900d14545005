use Rattle.std.proofs.Common.{Err, ◌≡◌, subst}
use Rattle.cgs_divide.specs.Ending.{ended, EndsAs}
use Rattle.cgs_radical.specs.EmptinessRun.{vanishing_run, emptiness_run}
use Rattle.cgs_split.specs.Cases.{Case}
use Rattle.cgs_split.proofs.branch.Branch.tested.Goals as goal

pub returns-in-Err : goal.returns-in-Err
returns-in-Err c =
    let branch = c.args.self.now in
    let kept = c.args.vanishing.now in
    let ends = subst (λ (b : Case). vanishing_run b.ring branch.zero branch.limits.budget ≡ ended kept.basis kept.left
    → EndsAs (emptiness_run b.ring branch.zero b.nonzero branch.limits.budget) c.test_empty_by.new.fuel (Err c.in-Err.stop))
    c.self.view_is (c.in-Err.ensures.ends branch.zero branch.limits.budget) in
    c.stopped.ensures (emptiness_run branch.ring branch.zero branch.nonzero branch.limits.budget) c.test_empty_by.new.fuel (ends c.requires.kept.found)
