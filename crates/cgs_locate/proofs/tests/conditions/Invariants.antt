use Rattle.std.specs.List.{AllByRecursion}
use Rattle.cgs_poly.specs.Parameters.{IsCondition}
use Rattle.cgs_locate.proofs.tests.conditions.Given as goal

abbrev pub invariant-loop-m : goal.invariant-loop-m
invariant-loop-m l = AllByRecursion (IsCondition l.ring) l.list
