use Rattle.cgs_algebra.proofs.OneLemmas.{one_is_reduced}
use Rattle.cgs_algebra.proofs.laws.one_is_reduced.Goals as goal

pub returns : goal.returns
returns c ring F two = one_is_reduced ring two F
