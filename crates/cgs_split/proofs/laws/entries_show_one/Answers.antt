use Rattle.cgs_split.proofs.ShowingLemmas as tree
use Rattle.cgs_split.proofs.laws.entries_show_one.Goals as goal

pub returns : goal.returns
returns c = tree.entries_show_one
