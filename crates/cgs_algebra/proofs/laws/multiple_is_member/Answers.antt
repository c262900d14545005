use Rattle.cgs_algebra.proofs.MemberLemmas.{multiple_member}
use Rattle.cgs_algebra.proofs.laws.multiple_is_member.Goals as goal

pub returns : goal.returns
returns c ring F d t f pos l h = multiple_member ring F pos d t f l h
