use Rattle.std.proofs.Common.{length}
use Rattle.cgs_bucket.specs.Levels.{SameSum}
use Rattle.cgs_bucket.proofs.levels.compact.Given as goal

abbrev pub invariant-loop-alloc : goal.invariant-loop-alloc
invariant-loop-alloc l = SameSum l.ring l.fn.levels.items l.levels.items

abbrev pub decreases-loop-alloc : goal.decreases-loop-alloc
decreases-loop-alloc l = length l.levels.items
