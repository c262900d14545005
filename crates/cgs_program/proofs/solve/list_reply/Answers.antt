use Rattle.cgs_program.proofs.Ending.{followed}
use Rattle.cgs_program.proofs.solve.list_reply.Goals as goal

pub returns-then-plan : goal.returns-then-plan
returns-then-plan g c =
    followed c.args.plan c.args.problem.now c.in_ok-reply.reply c.in_ok-solution.solution.history c.with_history.result
    c.if-plan.true (rw c.in_ok-solution.ensures.list at c.in_ok-reply.ensures) c.in_ok-solution.ensures.history c.with_history.ensures
