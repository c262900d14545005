use Rattle.cgs_algebra.proofs.UniquenessLemmas.{reduced_unique}
use Rattle.cgs_algebra.proofs.laws.reduced_is_unique.Goals as goal

pub returns : goal.returns
returns c = reduced_unique
