use Rattle.cgs_algebra.proofs.OneLemmas.{one_is_member}
use Rattle.cgs_algebra.proofs.laws.one_is_member.Goals as goal

pub returns : goal.returns
returns c ring F G two reduced = one_is_member ring two F G reduced
