use Rattle.cgs_algebra.proofs.GrowthLemmas.{member_more}
use Rattle.cgs_algebra.proofs.laws.more_generators_keep_members.Goals as goal

pub returns : goal.returns
returns c = member_more
