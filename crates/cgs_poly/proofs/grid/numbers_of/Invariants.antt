use Rattle.std.proofs.Common.{◌≡◌, take}
use Rattle.cgs_poly.specs.Grid.{numbers_of}
use Rattle.cgs_poly.proofs.grid.numbers_of.Given as goal

abbrev pub invariant-loop-i : goal.invariant-loop-i
invariant-loop-i l = l.numbers.items ≡ numbers_of l.strides (take l.i l.f)
