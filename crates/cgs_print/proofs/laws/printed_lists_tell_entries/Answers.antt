use Rattle.cgs_print.proofs.ToldListLemmas.{lists_are_told}
use Rattle.cgs_print.proofs.laws.printed_lists_tell_entries.Goals as goal

pub returns : goal.returns
returns c = lists_are_told
