use Rattle.std.proofs.Common.{drop}
use Rattle.cgs_canonical.specs.Printing.{polynomial_text}
use Rattle.cgs_canonical.proofs.PrintLemmas.{Leaves}
use Rattle.cgs_canonical.proofs.PrintedPolynomialLemmas.{following_terms}
use Rattle.cgs_canonical.proofs.polynomial.polynomial_text.Given as goal

abbrev pub invariant-loop-i : goal.invariant-loop-i
invariant-loop-i l = Leaves l.fn.out l.out (polynomial_text l.ring l.names l.f) (following_terms l.ring l.names (drop l.i l.f))
