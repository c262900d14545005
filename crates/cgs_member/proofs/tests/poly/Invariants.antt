use Rattle.cgs_poly.specs.Polynomial.{IsPoly}
use Rattle.cgs_member.proofs.tests.poly.Given as goal

abbrev pub invariant-loop-c : goal.invariant-loop-c
invariant-loop-c l = IsPoly l.ring l.f
