use Rattle.cgs_point.proofs.PointLemmas.{is_point}
use Rattle.cgs_point.proofs.point.Point.new.Goals as goal

pub returns-clause-point : goal.returns-clause-point
returns-clause-point c =
    is_point c.args.ring.now c.args.values.now c.loop-value.numbers.items c.loop-value.value-index
    c.requires c.if-values-ring.false c.loop-value.invariant c.loop-value-test.false
