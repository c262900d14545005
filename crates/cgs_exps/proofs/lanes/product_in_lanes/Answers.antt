use mir.Syntax.{w16}
use Rattle.std.proofs.Common.{arith}
use Rattle.std.proofs.lemmas.Simd.{adds_fit}
use Rattle.cgs_exps.proofs.LaneLemmas.{sum_of_lanes}
use Rattle.cgs_exps.proofs.lanes.product_in_lanes.Goals as goal

pub overflow_add-result : goal.overflow_add-result
overflow_add-result c = adds_fit w16 c.args.a c.args.b (omega (arith, c.requires, sum_of_lanes c.args.a, sum_of_lanes c.args.b))
