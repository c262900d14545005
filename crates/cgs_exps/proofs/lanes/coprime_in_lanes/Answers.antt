use Rattle.cgs_exps.proofs.MaskLemmas.{masks_coprime}
use Rattle.cgs_exps.proofs.lanes.coprime_in_lanes.Goals as goal

pub returns : goal.returns
returns c = rw (c.mask_in_lanes.ensures, c.mask_in_lanes-2.ensures) (masks_coprime c.args.a c.args.b)
