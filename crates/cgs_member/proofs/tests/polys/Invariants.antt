use Rattle.cgs_poly.specs.Polynomial.{ArePolys}
use Rattle.cgs_member.proofs.tests.polys.Given as goal

abbrev pub invariant-loop-terms : goal.invariant-loop-terms
invariant-loop-terms l = ArePolys l.ring l.list
