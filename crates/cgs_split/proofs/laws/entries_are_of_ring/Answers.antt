use Rattle.cgs_split.proofs.OfRingLemmas as tree
use Rattle.cgs_split.proofs.laws.entries_are_of_ring.Goals as goal

pub returns : goal.returns
returns c = tree.entries_are_of_ring
