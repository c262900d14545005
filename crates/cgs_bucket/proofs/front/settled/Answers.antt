use Rattle.std.proofs.Common.{subst}
use Rattle.cgs_bucket.specs.Levels.{IsFound}
use Rattle.cgs_bucket.proofs.LevelLemmas.{all_empty}
use Rattle.cgs_bucket.proofs.front.settled.Goals as goal

pub returns-in-Nothing-clause-none : goal.returns-in-Nothing-clause-none
returns-in-Nothing-clause-none c = λ e.
    all_empty c.loop-k.levels.items (rw (← c.deref.ensures.value) (subst
    (λ k. IsFound c.args.ring.now c.deref.result.now k) c.in-Nothing.is c.found_front.ensures))
