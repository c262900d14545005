use Rattle.std.proofs.Common.{◌≡◌, ◌-◌, ◌+◌, ◌*◌, length, take, drop, length-drop, ap, ◌∙◌, arith}
use Rattle.std.proofs.lemmas.List.{take_all}
use Rattle.cgs_exps.specs.Mask.{mask}
use Rattle.cgs_exps.proofs.MaskLemmas.{mask_small, mask_parts}
use Rattle.cgs_exps.proofs.masks.mask.Goals as goal
use Rattle.cgs_exps.proofs.masks.mask.Goals.{After-mask_in_lanes}

-- what the two calls give
both : (c : After-mask_in_lanes) → c.mask_by_place-2.result * 65536 + c.mask_in_lanes.result ≡ mask c.args.a.now
both c =
    let rest : take (length c.args.a.now - 16) (drop 16 c.args.a.now) ≡ drop 16 c.args.a.now
    = take_all (length c.args.a.now - 16) (drop 16 c.args.a.now) (omega (arith, length-drop 16 c.args.a.now)) in
    let high : c.mask_by_place-2.result ≡ mask (drop 16 c.args.a.now) = c.mask_by_place-2.ensures ∙ ap mask rest in
    let low : c.mask_in_lanes.result ≡ mask (take 16 c.args.a.now) = c.mask_in_lanes.ensures ∙ ap mask c.lanes.ensures in
    rw (high, low) (mask_parts 16 c.args.a.now (omega arith))

pub overflow_add-result : goal.overflow_add-result
overflow_add-result c = grind (arith, both c, mask_small c.args.a.now 17 (omega arith))

pub returns : goal.returns
returns c = both c
