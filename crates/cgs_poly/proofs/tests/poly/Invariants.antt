use Rattle.std.specs.List.{AllByRecursion}
use Rattle.cgs_poly.specs.Polynomial.{IsTerm}
use Rattle.cgs_poly.proofs.tests.poly.Given as goal

abbrev pub invariant-loop-c : goal.invariant-loop-c
invariant-loop-c l = AllByRecursion (IsTerm l.ring) l.sum
