use Rattle.std.proofs.Common.{ℕ, ◌≡◌, ◌+◌, ◌*◌, ◌<◌}
use Rattle.std.specs.Int.{bit_at}
use Rattle.cgs_pairs.specs.Passed.{IsThirdPlace}
use Rattle.cgs_pairs.proofs.passing.has_third_in.Given as goal

abbrev pub invariant-loop-rest : goal.invariant-loop-rest
invariant-loop-rest l = (i : ℕ) → i < 64 → IsThirdPlace l.pair l.members l.taken (64 * l.block + i) → bit_at l.rest i ≡ 1

abbrev pub decreases-loop-rest : goal.decreases-loop-rest
decreases-loop-rest l = l.rest
