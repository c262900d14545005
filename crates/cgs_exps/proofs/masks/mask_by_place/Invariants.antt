use Rattle.std.proofs.Common.{◌≡◌, drop}
use Rattle.cgs_exps.specs.Mask as masks
use Rattle.cgs_exps.proofs.masks.mask_by_place.Given as goal

abbrev pub invariant-loop-i : goal.invariant-loop-i
invariant-loop-i l = l.mask ≡ masks.mask (drop l.i l.a)
