use Rattle.std.proofs.Common.{drop}
use Rattle.cgs_poly.specs.Polynomial.{IsCanonical}
use Rattle.cgs_poly.proofs.sum.are_canonical.Given as goal

abbrev pub invariant-loop-i : goal.invariant-loop-i
invariant-loop-i l = IsCanonical l.ring (drop l.i l.terms)
