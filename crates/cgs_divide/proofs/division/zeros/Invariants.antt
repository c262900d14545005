use Rattle.std.proofs.Common.{◌≡◌, [], replicate}
use Rattle.cgs_divide.proofs.division.zeros.Given as goal

abbrev pub invariant-loop : goal.invariant-loop
invariant-loop l = l.zeros.items ≡ replicate l.counter []
