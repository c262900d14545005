use Rattle.cgs_algebra.proofs.MemberLemmas.{product_member, member_product}
use Rattle.cgs_algebra.proofs.laws.product_is_member.Goals as goal

pub returns : goal.returns
returns c ring F f g pos h m = (product_member ring F pos f g h m, member_product ring F pos f g h m)
