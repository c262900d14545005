use Rattle.cgs_poly.proofs.CanonicalLemmas.{is_canonical, coefficient_canonical}
use Rattle.cgs_poly.proofs.laws.canonical_keeps_coefficients.Goals as goal

pub returns : goal.returns
returns c = λ ring f pos h. (is_canonical ring f pos h, record { at = λ m. coefficient_canonical ring f m pos h })
