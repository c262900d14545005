use Rattle.cgs_system.proofs.ExactTreeLemmas.{tested_exact}
use Rattle.cgs_system.proofs.laws.tested_list_is_exact.Goals as goal

pub returns : goal.returns
returns c = tested_exact
