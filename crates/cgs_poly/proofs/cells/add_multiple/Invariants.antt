use Rattle.std.proofs.Common.{◌≡◌, ◌-◌, length, drop}
use Rattle.cgs_poly.specs.Grid.{with_multiple, HasRoom}
use Rattle.cgs_poly.proofs.cells.add_multiple.Given as goal

abbrev pub invariant-loop-i : goal.invariant-loop-i
invariant-loop-i l = record {
  so_far : with_multiple l.c l.from (drop l.i l.coefficients) (drop l.i l.numbers) l.cells
      ≡ with_multiple l.c l.from l.coefficients l.numbers l.initial.cells;
  room : HasRoom (length l.numbers - l.i) l.cells;
}
