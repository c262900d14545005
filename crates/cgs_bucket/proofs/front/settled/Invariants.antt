use Rattle.std.proofs.Common.{length}
use Rattle.cgs_bucket.specs.Levels.{all_terms, SameSum}
use Rattle.cgs_bucket.proofs.front.settled.Given as goal

abbrev pub invariant-loop-k : goal.invariant-loop-k
invariant-loop-k l = SameSum l.ring l.fn.levels.items l.levels.items

abbrev pub decreases-loop-k : goal.decreases-loop-k
decreases-loop-k l = length (all_terms l.levels.items)
