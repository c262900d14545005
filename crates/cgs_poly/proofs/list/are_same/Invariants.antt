use Rattle.std.proofs.Common.{◌≡◌, take}
use Rattle.cgs_poly.proofs.list.are_same.Given as goal

abbrev pub invariant-loop-i : goal.invariant-loop-i
invariant-loop-i l = take l.i l.list ≡ take l.i l.other
