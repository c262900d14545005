use Rattle.cgs_program.proofs.Ending.{is_found_by}
use Rattle.cgs_program.proofs.solve.solved.Goals as goal

pub returns : goal.returns
returns g c =
    is_found_by c.args.plan c.args.problem.now c.solve.result (rw c.limits_of.ensures at c.solve.ensures.list)
    (rw c.limits_of.ensures at c.solve.ensures.history) c.solve.ensures.of_ring
