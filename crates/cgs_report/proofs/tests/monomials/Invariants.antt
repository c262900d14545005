use Rattle.cgs_poly.specs.Polynomial.{ArePolys}
use Rattle.cgs_report.proofs.tests.monomials.Given as goal

abbrev pub invariant-loop-m : goal.invariant-loop-m
invariant-loop-m l = ArePolys l.ring l.polys
