use Rattle.std.proofs.Common.{◌≡◌, ◌*◌, drop}
use Rattle.cgs_poly.specs.Grid.{count_divisors}
use Rattle.cgs_poly.proofs.grid.count_divisors.Given as goal

abbrev pub invariant-loop-i : goal.invariant-loop-i
invariant-loop-i l = l.count * count_divisors (drop l.i l.m) ≡ count_divisors l.m
