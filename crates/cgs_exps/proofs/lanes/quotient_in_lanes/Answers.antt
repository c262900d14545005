use Rattle.cgs_exps.proofs.LaneLemmas.{no_lane_below}
use Rattle.cgs_exps.proofs.lanes.quotient_in_lanes.Goals as goal

pub overflow_sub-result : goal.overflow_sub-result
overflow_sub-result c = no_lane_below c.args.a c.args.b c.requires
