use mir.Syntax.{w32}
use mir.Val.{Fits}
use Rattle.std.proofs.Common.{subst, sym, arith}
use Rattle.cgs_exps.specs.Mask.{mask}
use Rattle.cgs_exps.proofs.LaneLemmas.{mask_of_lanes}
use Rattle.cgs_exps.proofs.MaskLemmas.{mask_small}
use Rattle.cgs_exps.proofs.lanes.mask_in_lanes.Goals as goal

pub overflow_cast-result : goal.overflow_cast-result
overflow_cast-result c =
    let small : Fits w32 (mask c.args.a) = grind (arith, mask_small c.args.a 16 (omega arith)) in
    subst (Fits w32) (sym (mask_of_lanes c.args.a (omega arith))) small

pub returns : goal.returns
returns c = mask_of_lanes c.args.a (omega arith)
