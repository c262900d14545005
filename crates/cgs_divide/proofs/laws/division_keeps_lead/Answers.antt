use Rattle.std.proofs.Common.{◌<◌, arith}
use Rattle.cgs_divide.proofs.AutoreductionLemmas.{division_keeps_lead}
use Rattle.cgs_divide.proofs.laws.division_keeps_lead.Goals as goal

pub returns : goal.returns
returns c ring D f remainder quotients two ok h one d none =
    let pos : 0 < ring.modulus = omega arith in
    division_keeps_lead ring pos D ok two f remainder quotients h one d none
