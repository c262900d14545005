use Rattle.std.proofs.Common.{◌≡◌, take}
use Rattle.cgs_discover.proofs.copies.copy_point.Given as goal

abbrev pub invariant-loop-x : goal.invariant-loop-x
invariant-loop-x l = l.values.items ≡ take l.x-index l.point
