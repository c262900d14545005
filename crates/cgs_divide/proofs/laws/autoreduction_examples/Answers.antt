use Rattle.std.proofs.Common.{refl}
use Rattle.cgs_field.specs.Inverse.{inverse}
use Rattle.cgs_order.specs.TermOrder.{key, compared}
use Rattle.cgs_poly.specs.Monic.{monic_of}
use Rattle.cgs_divide.specs.DivisionRun.{divided}
use Rattle.cgs_divide.specs.AutoreductionRun.{autoreduction}
use Rattle.cgs_divide.proofs.laws.autoreduction_examples.Goals as goal

pub returns : goal.returns
unfolding key compared inverse monic_of divided autoreduction
returns c = (refl, refl)
