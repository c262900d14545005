use lib.Lanes.{zip2}
use mir.Syntax.{w16}
use Rattle.std.proofs.Common.{◌+◌, arith}
use Rattle.std.proofs.lemmas.Simd.{adds_fit, sum_fits, fold-sum}
use Rattle.cgs_exps.proofs.LaneLemmas.{sum_of_lanes, sum_of_both}
use Rattle.cgs_exps.proofs.lanes.degree_in_lanes.Goals as goal

pub overflow_add-result : goal.overflow_add-result
overflow_add-result c = adds_fit w16 c.args.a c.args.b (omega (arith, c.requires, sum_of_lanes c.args.a, sum_of_lanes c.args.b))

pub overflow_add-result-2 : goal.overflow_add-result-2
overflow_add-result-2 c = sum_fits w16 0 (zip2 (λ x y. x + y) c.args.a c.args.b) (omega (arith, c.requires, sum_of_both c.args.a c.args.b (omega arith)))

pub returns : goal.returns
returns c = omega (arith, fold-sum 0 (zip2 (λ x y. x + y) c.args.a c.args.b), sum_of_both c.args.a c.args.b (omega arith))
