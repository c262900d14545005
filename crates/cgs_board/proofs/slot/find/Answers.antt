use Rattle.cgs_board.proofs.Finding.{place_below, goes_on, ends}
use Rattle.cgs_board.proofs.slot.find.Goals as goal

pub child-requires : goal.child-requires
child-requires g c place is =
    place_below c.args.slots.now c.requires.tree c.args.path.now c.loop-number.number-index c.loop-number.at c.index-slots-at.result c.loop-number.invariant
    _ _ place c.requires.size is

pub returns-in_default : goal.returns-in_default
returns-in_default g c =
    ends c.args.slots.now c.requires.tree c.args.path.now c.loop-number.number-index c.loop-number.at c.index-slots-at.result c.loop-number.invariant
    c.loop-number-test.true c.in_default.ensures

pub loop-number-preserved : goal.loop-number-preserved
loop-number-preserved g c =
    goes_on c.args.slots.now c.requires.tree c.args.path.now c.loop-number.number-index c.loop-number.at c.index-slots-at.result c.loop-number.invariant
    c.loop-number-test.true c.in-Some.below c.in-Some.ensures
