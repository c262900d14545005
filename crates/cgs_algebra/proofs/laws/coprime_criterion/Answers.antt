use Rattle.cgs_algebra.proofs.CriterionLemmas.{coprime_criterion}
use Rattle.cgs_algebra.proofs.laws.coprime_criterion.Goals as goal

pub returns : goal.returns
returns c = λ ring G i j pos ok hi hj. coprime_criterion ring G i j pos ok hi hj
