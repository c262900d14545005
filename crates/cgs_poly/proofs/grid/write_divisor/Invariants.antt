use Rattle.std.proofs.Common.{◌≡◌, ◌++◌, take, drop}
use Rattle.cgs_poly.specs.Grid.{divisor_at}
use Rattle.cgs_poly.proofs.grid.write_divisor.Given as goal

abbrev pub invariant-loop-i : goal.invariant-loop-i
invariant-loop-i l = take l.i l.out ++ divisor_at (drop l.i l.strides) l.rest ≡ divisor_at l.strides l.number
