use Rattle.std.proofs.Common.{◌≡◌, ◌++◌, drop}
use Rattle.cgs_poly.specs.Grid.{count_divisors, strides}
use Rattle.cgs_poly.proofs.grid.strides.Given as goal

abbrev pub invariant-loop-i : goal.invariant-loop-i
invariant-loop-i l = record {
  stride : l.stride ≡ count_divisors (drop l.i l.m);
  so_far : l.strides.items ++ strides (drop l.i l.m) ≡ strides l.m;
}
