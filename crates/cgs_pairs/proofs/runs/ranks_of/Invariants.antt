use Rattle.std.proofs.Common.{take}
use Rattle.cgs_pairs.specs.Runs.{AreRanks}
use Rattle.cgs_pairs.proofs.runs.ranks_of.Given as goal

abbrev pub invariant-loop-smaller : goal.invariant-loop-smaller
invariant-loop-smaller l = AreRanks l.order l.leads l.larger (take l.smaller-index l.places) l.ranks.items
