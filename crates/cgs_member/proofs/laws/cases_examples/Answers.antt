use Rattle.std.proofs.Common.{refl}
use Rattle.cgs_order.specs.TermOrder.{key, compared}
use Rattle.cgs_field.specs.Inverse.{inverse}
use Rattle.cgs_poly.specs.Monic.{monic_of}
use Rattle.cgs_member.specs.ReductionRun.{reduction}
use Rattle.cgs_member.proofs.laws.cases_examples.Goals as goal

pub returns : goal.returns
unfolding key compared inverse monic_of reduction
returns c = (refl, refl, refl, refl, refl, refl, refl, refl, refl, refl, refl, refl)
