use Rattle.std.proofs.Common.{Err, ap, ◌∙◌}
use Rattle.cgs_discover.proofs.PartLemmas.{difference_is, difference_low}
use Rattle.cgs_discover.proofs.lift.y_thesis.Goals as goal

pub returns-in-Ok : goal.returns-in-Ok
returns-in-Ok c =
    difference_is c.args.ring.now c.args.wide.now c.args.thesis.now c.in_ok-start.start c.in_ok-lifted.lifted c.in-Ok.f c.opposite_of_one-c.result
    c.places.result c.requires.valid c.requires.wide c.opposite_of_one-c.ensures.number c.places.ensures c.in_ok-start.ensures.term
    c.in_ok-lifted.ensures.recast c.in-Ok.ensures.difference

pub unreachable-requires : goal.unreachable-requires
unreachable-requires c =
    c.sub_multiple.ensures.degree.0 (c.in-Err-Degree.is ∙ ap Err c.in-Err-Degree.field-0-is)
    (difference_low c.args.ring.now c.args.wide.now c.args.thesis.now c.in_ok-lifted.lifted c.opposite_of_one-c.result c.places.result c.requires.valid
    c.requires.wide c.places.ensures c.in_ok-lifted.ensures.recast c.requires.thesis)
