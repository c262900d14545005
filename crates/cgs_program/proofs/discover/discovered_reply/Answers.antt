use Rattle.cgs_program.specs.Due.{limits_of}
use Rattle.cgs_program.proofs.Ending.{discovered}
use Rattle.cgs_program.proofs.discover.discovered_reply.Goals as goal

pub returns-in-Ok : goal.returns-in-Ok
returns-in-Ok g c =
    discovered (limits_of c.args.plan) c.args.problem.now c.in-Ok.refutation c.in-Ok.extension c.args.problem.now.thesis c.pair_reply.result
    c.in-Ok.ensures.refutation c.in-Ok.ensures.extension c.pair_reply.ensures
