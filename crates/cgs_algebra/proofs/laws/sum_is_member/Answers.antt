use Rattle.cgs_algebra.proofs.MemberLemmas.{sum_member}
use Rattle.cgs_algebra.proofs.laws.sum_is_member.Goals as goal

pub returns : goal.returns
returns c ring F f g pos h k = sum_member ring F pos f g h k
