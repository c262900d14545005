use Rattle.std.proofs.Common.{◌/◌, ◌%◌, ◌==◌, ap}
use Rattle.std.specs.Int.{bit_at}
use Rattle.cgs_pairs.proofs.marks.Marks.reach.Goals as goal

pub returns-clause-same : goal.returns-clause-same
returns-clause-same c i = ap (λ w. bit_at w (i % 64) == 1) (c.loop-self.invariant.same (i / 64))
