use Rattle.std.proofs.Common.{◌≡◌, take}
use Rattle.cgs_entry.proofs.growing.GrowingList.new.Given as goal

abbrev pub invariant-loop-i : goal.invariant-loop-i
invariant-loop-i l = l.list ≡ take l.i l.start
