use Rattle.cgs_system.proofs.ExactTreeLemmas.{tested_agree}
use Rattle.cgs_system.proofs.laws.tested_lists_agree.Goals as goal

pub returns : goal.returns
returns c = tested_agree
