use Rattle.std.proofs.Common.{arith}
use Rattle.cgs_exps.proofs.LaneLemmas.{none_of_lanes}
use Rattle.cgs_exps.proofs.lanes.divides_in_lanes.Goals as goal

pub returns : goal.returns
returns c = none_of_lanes c.args.a c.args.b (omega arith) (omega arith)
