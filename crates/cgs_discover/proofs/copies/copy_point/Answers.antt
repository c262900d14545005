use Rattle.cgs_discover.proofs.PartLemmas.{copied_point}
use Rattle.cgs_discover.proofs.copies.copy_point.Goals as goal

pub returns-in-Ok : goal.returns-in-Ok
returns-in-Ok c =
    copied_point c.args.ring.now.modulus c.loop-x.x-index c.in-Ok.copy c.deref.result.now c.loop-x.values.items c.args.point.now c.in-Ok.ensures.reduced
    c.deref.ensures.value c.loop-x.invariant (rw c.as_slice-x-items.ensures at c.loop-x-test.false) c.requires.point.below
