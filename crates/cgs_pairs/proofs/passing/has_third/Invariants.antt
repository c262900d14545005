use Rattle.std.proofs.Common.{ℕ, ◌*◌, ◌<◌}
use Rattle.cgs_pairs.specs.Passed.{IsThirdPlace}
use Rattle.cgs_pairs.proofs.passing.has_third.Given as goal

abbrev pub invariant-loop-block : goal.invariant-loop-block
invariant-loop-block l = (k : ℕ) → k < 64 * l.block → IsThirdPlace l.pair l.members l.taken k → ⊥
