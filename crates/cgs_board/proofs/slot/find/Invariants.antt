use Rattle.std.proofs.Common.{take}
use Rattle.cgs_board.specs.Slots.{StandsAt}
use Rattle.cgs_board.proofs.slot.find.Given as goal

abbrev pub invariant-loop-number : goal.invariant-loop-number
invariant-loop-number g l = StandsAt l.slots l.at (take l.number-index l.path)
