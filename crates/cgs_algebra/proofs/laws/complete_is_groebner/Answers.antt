use Rattle.cgs_algebra.proofs.GroebnerLemmas.{complete_groebner}
use Rattle.cgs_algebra.proofs.laws.complete_is_groebner.Goals as goal

pub returns : goal.returns
returns c = complete_groebner
