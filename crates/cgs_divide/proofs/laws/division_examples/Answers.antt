use Rattle.std.proofs.Common.{refl}
use Rattle.cgs_order.specs.TermOrder.{key, compared}
use Rattle.cgs_divide.specs.DivisionRun.{divided}
use Rattle.cgs_divide.proofs.laws.division_examples.Goals as goal

pub returns : goal.returns
unfolding key compared divided
returns c = (refl, refl, refl, refl, refl, refl, refl)
