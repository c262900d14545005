use Rattle.std.proofs.Common.{◌≡◌, map, take}
use Rattle.cgs_divide.specs.DivisionRun.{lead_mask}
use Rattle.cgs_divide.proofs.division.lead_masks.Given as goal

abbrev pub invariant-loop-i : goal.invariant-loop-i
invariant-loop-i l = l.masks.items ≡ map lead_mask (take l.i l.divisors)
