use Rattle.std.proofs.Common.{◌+◌, arith, refl}
use Rattle.cgs_board.proofs.slot.Stage.child.Goals as goal

pub overflow_add-result : goal.overflow_add-result
overflow_add-result g c =
    let fits = c.requires (c.in-Closed.first + c.args.number) (c.in-Closed.first, c.in-Closed.children, c.in-Closed.is, c.if-number-children.true, refl) in
    omega (arith, fits)
