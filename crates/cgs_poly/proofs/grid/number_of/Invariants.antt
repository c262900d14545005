use Rattle.std.proofs.Common.{◌≡◌, ◌+◌, drop}
use Rattle.cgs_poly.specs.Grid.{number_of}
use Rattle.cgs_poly.proofs.grid.number_of.Given as goal

abbrev pub invariant-loop-i : goal.invariant-loop-i
invariant-loop-i l = l.number + number_of (drop l.i l.strides) (drop l.i l.m) ≡ number_of l.strides l.m
