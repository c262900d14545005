use Rattle.cgs_system.proofs.Listing.{found_map}
use Rattle.cgs_program.proofs.Ending.{is_found_by}
use Rattle.cgs_program.proofs.solve.solved_alone.Goals as goal

pub returns : goal.returns
returns c =
    is_found_by c.args.plan c.args.problem.now c.solve_alone.result (rw c.limits_of.ensures at c.solve_alone.ensures.list)
    (rw c.limits_of.ensures at (found_map c.solve_alone.result (λ found for_all. for_all c.args.plan.workers c.requires.workers) c.solve_alone.ensures.history))
    c.solve_alone.ensures.of_ring
