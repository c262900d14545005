use Rattle.std.proofs.Common.{◌↔◌, drop}
use Rattle.std.specs.List.{AllByRecursion}
use Rattle.cgs_problem.specs.Terms.{IsTermOf}
use Rattle.cgs_problem.proofs.polynomial.has_terms_of.Given as goal

abbrev pub invariant-loop-i : goal.invariant-loop-i
invariant-loop-i l = AllByRecursion (IsTermOf l.ring) (drop l.i l.f) ↔ AllByRecursion (IsTermOf l.ring) l.f
