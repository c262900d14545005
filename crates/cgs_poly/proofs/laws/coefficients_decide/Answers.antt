use Rattle.cgs_poly.proofs.SumLemmas.{alike_from_coefficients}
use Rattle.cgs_poly.proofs.CanonicalLemmas.{same_canonical}
use Rattle.cgs_poly.proofs.RingLemmas.{ring_positive}
use Rattle.cgs_poly.proofs.laws.coefficients_decide.Goals as goal

pub returns : goal.returns
returns c = λ ring f g r h k s. same_canonical ring f g h k (alike_from_coefficients (ring_positive ring r) s)
