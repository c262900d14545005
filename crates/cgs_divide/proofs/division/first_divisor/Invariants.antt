use Rattle.std.proofs.Common.{◌≤◌}
use Rattle.cgs_divide.specs.DivisionRun as run
use Rattle.cgs_divide.proofs.division.first_divisor.Given as goal

abbrev pub invariant-loop-i : goal.invariant-loop-i
invariant-loop-i l = l.i ≤ run.first_divisor l.divisors l.m
