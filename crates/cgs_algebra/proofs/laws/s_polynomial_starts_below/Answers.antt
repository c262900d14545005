use Rattle.cgs_algebra.proofs.SPolynomialLemmas.{s_terms_below}
use Rattle.cgs_algebra.proofs.laws.s_polynomial_starts_below.Goals as goal

pub returns : goal.returns
returns c ring f g pos h k cf cg = s_terms_below ring pos f g h k cf cg
