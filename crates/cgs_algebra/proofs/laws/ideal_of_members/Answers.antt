use Rattle.cgs_algebra.proofs.MemberLemmas.{member_of_members}
use Rattle.cgs_algebra.proofs.laws.ideal_of_members.Goals as goal

pub returns : goal.returns
returns c ring F G f pos inside h = member_of_members ring F G pos inside f h
