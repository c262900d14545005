use Rattle.std.proofs.Common.{◌<◌, ◌^◌, ◌/◌, get_or, take, arith}
use Rattle.cgs_poly.specs.Grid.{divisor_at}
use Rattle.cgs_poly.proofs.GridLemmas.{digit_holds, divisor_next}
use Rattle.cgs_poly.proofs.grid.write_divisor.Goals as goal

pub overflow_cast-out : goal.overflow_cast-out
overflow_cast-out c =
    let h : c.loop-i.rest / get_or c.args.strides.now c.loop-i.i 0 < 2 ^ 16 =
    digit_holds (λ x. x < 2 ^ 16) c.args.strides.now (take c.loop-i.i c.loop-i.out) (divisor_at c.args.strides.now c.args.number) c.loop-i.i c.loop-i.rest
    c.loop-i-test.true c.requires.fits c.loop-i.invariant in
    omega (arith, h)

pub loop-i-preserved : goal.loop-i-preserved
loop-i-preserved c =
    divisor_next c.args.strides.now c.loop-i.out (divisor_at c.args.strides.now c.args.number) c.loop-i.i c.loop-i.rest c.loop-i-test.true
    (omega (arith, c.requires.places)) c.loop-i.invariant
