use Rattle.cgs_print.proofs.ToldListLemmas.{bases_are_told}
use Rattle.cgs_print.proofs.laws.printed_bases_tell_members.Goals as goal

pub returns : goal.returns
returns c = bases_are_told
