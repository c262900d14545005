use Rattle.cgs_system.proofs.ComprehensiveLemmas.{exact_comprehensive}
use Rattle.cgs_system.proofs.laws.exact_list_is_comprehensive.Goals as goal

pub returns : goal.returns
returns c = exact_comprehensive
