use Rattle.cgs_bucket.proofs.FrontLemmas.{SoFar}
use Rattle.cgs_bucket.proofs.front.found_front.Given as goal

abbrev pub invariant-loop-k : goal.invariant-loop-k
invariant-loop-k l = SoFar l.ring l.levels l.k l.best
