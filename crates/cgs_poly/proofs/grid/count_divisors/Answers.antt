use Rattle.std.proofs.Common.{refl}
use Rattle.cgs_poly.specs.Grid.{count_divisors}
use Rattle.cgs_poly.proofs.GridLemmas.{count_next}
use Rattle.cgs_poly.proofs.grid.count_divisors.Goals as goal

pub loop-i-preserved : goal.loop-i-preserved
loop-i-preserved c =
    count_next c.args.m.now c.loop-i.i _ c.loop-i.count c.in-Some.more (count_divisors c.args.m.now) c.loop-i-test.true refl
    c.in-Some.ensures.1 c.loop-i.invariant
