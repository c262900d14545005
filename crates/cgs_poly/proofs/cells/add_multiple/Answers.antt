use Rattle.std.proofs.Common.{ℕ, ◌≡◌, ◌+◌, ◌-◌, ◌*◌, suc, length, get_or, subst, arith}
use Rattle.cgs_poly.specs.Grid.{HasRoom}
use Rattle.cgs_poly.proofs.CellLemmas.{added_next, room_added, small_product}
use Rattle.cgs_poly.proofs.cells.add_multiple.Goals as goal

pub loop-i-preserved : goal.loop-i-preserved
loop-i-preserved c =
    let d : ℕ = c.number.result in
    let is : c.number.result ≡ get_or c.args.coefficients.now c.loop-i.i c.number.result = cc (c.index-coefficients-i.is, c.number.ensures) in
    let left : length c.args.numbers.now - c.loop-i.i ≡ suc (length c.args.numbers.now - (c.loop-i.i + 1)) = omega arith in
    record {
      so_far = added_next c.number-c.result c.args.from c.loop-i.i c.number.result c.args.coefficients.now c.args.numbers.now c.loop-i.cells _
          (omega (arith, c.requires.lengths)) c.loop-i-test.true is c.loop-i.invariant.so_far;
      room = room_added (length c.args.numbers.now - (c.loop-i.i + 1)) (c.args.from + get_or c.args.numbers.now c.loop-i.i 0)
          (c.number-c.result * c.number.result) c.loop-i.cells (small_product c.number-c.result c.number.result c.number-c.type_inv c.number.type_inv)
          (subst (λ n. HasRoom n c.loop-i.cells) left c.loop-i.invariant.room);
    }
