use Rattle.cgs_exps.proofs.LaneLemmas.{mask_bits}
use Rattle.cgs_exps.proofs.laws.mask_has_bits.Goals as goal

pub returns : goal.returns
returns c = mask_bits
