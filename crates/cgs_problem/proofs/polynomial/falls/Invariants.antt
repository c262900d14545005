use Rattle.std.proofs.Common.{◌↔◌, ◌-◌, drop}
use Rattle.cgs_problem.specs.Terms.{Falls}
use Rattle.cgs_problem.proofs.polynomial.falls.Given as goal

abbrev pub invariant-loop-i : goal.invariant-loop-i
invariant-loop-i l = Falls l.ring (drop (l.i - 1) l.f) ↔ Falls l.ring l.f
