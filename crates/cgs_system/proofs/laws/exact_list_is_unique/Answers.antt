use Rattle.cgs_system.proofs.UniquenessLemmas.{exact_unique}
use Rattle.cgs_system.proofs.laws.exact_list_is_unique.Goals as goal

pub returns : goal.returns
returns c = exact_unique
