use Rattle.cgs_algebra.proofs.GrowthLemmas.{representation_more}
use Rattle.cgs_algebra.proofs.laws.more_members_keep_representations.Goals as goal

pub returns : goal.returns
returns c = representation_more
