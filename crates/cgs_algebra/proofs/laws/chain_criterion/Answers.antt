use Rattle.cgs_algebra.proofs.CriterionLemmas.{chain_criterion}
use Rattle.cgs_algebra.proofs.laws.chain_criterion.Goals as goal

pub returns : goal.returns
returns c = chain_criterion
