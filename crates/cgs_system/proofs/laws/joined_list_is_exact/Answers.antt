use Rattle.cgs_system.proofs.ExactTreeLemmas.{joined_exact}
use Rattle.cgs_system.proofs.laws.joined_list_is_exact.Goals as goal

pub returns : goal.returns
returns c = joined_exact
