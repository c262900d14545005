use mir.Val.{bool_byte}
use Rattle.std.proofs.Common.{◌≤◌, Bool, true, false, arith, drop, length-drop}
use Rattle.cgs_exps.proofs.MaskLemmas.{mask_small}
use Rattle.cgs_exps.proofs.masks.mask_by_place.Goals as goal

bit_small : (bit : Bool) → bool_byte bit ≤ 1
bit_small true = omega arith
bit_small false = omega arith

pub overflow_mul-mask : goal.overflow_mul-mask
overflow_mul-mask c = grind (arith, mask_small (drop c.loop-i.i c.args.a.now) 16 (omega (arith, length-drop c.loop-i.i c.args.a.now)))

pub overflow_add-mask : goal.overflow_add-mask
overflow_add-mask c = grind (arith, bit_small, mask_small (drop c.loop-i.i c.args.a.now) 16 (omega (arith, length-drop c.loop-i.i c.args.a.now)))
