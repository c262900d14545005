use Rattle.cgs_system.proofs.ExactTreeLemmas.{tested_join_exact}
use Rattle.cgs_system.proofs.laws.tested_join_is_exact.Goals as goal

pub returns : goal.returns
returns c = tested_join_exact
