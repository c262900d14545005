use Rattle.cgs_exps.proofs.LaneLemmas.{greatest_of_lanes}
use Rattle.cgs_exps.proofs.lanes.lcm_in_lanes.Goals as goal

pub returns : goal.returns
returns c = greatest_of_lanes c.args.a c.args.b
