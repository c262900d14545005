use Rattle.cgs_algebra.proofs.GroebnerLemmas.{criterion}
use Rattle.cgs_algebra.proofs.laws.buchbergers_criterion.Goals as goal

pub returns : goal.returns
returns c = criterion
