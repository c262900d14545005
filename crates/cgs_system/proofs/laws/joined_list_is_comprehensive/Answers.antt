use Rattle.cgs_system.proofs.JoiningLemmas.{joined_comprehensive}
use Rattle.cgs_system.proofs.laws.joined_list_is_comprehensive.Goals as goal

pub returns : goal.returns
returns c = joined_comprehensive
