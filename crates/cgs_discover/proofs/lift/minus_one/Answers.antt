use Rattle.std.proofs.Common.{◌∙◌}
use Rattle.cgs_discover.proofs.PartLemmas.{minus_one_is}
use Rattle.cgs_discover.proofs.lift.minus_one.Goals as goal

pub returns-clause-term : goal.returns-clause-term
returns-clause-term c =
    let one = minus_one_is c.args.ring.now c.opposite_of_one.result c.places.result c.requires.ring c.opposite_of_one.ensures.number c.places.ensures in
    c.in_ok-push.ensures.ok ∙ rw c.zero-f.ensures one
