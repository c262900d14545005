use Rattle.std.proofs.Common.{refl}
use Rattle.cgs_order.specs.TermOrder.{key, compared}
use Rattle.cgs_divide.specs.DivisionRun.{divided}
use Rattle.cgs_field.specs.Inverse.{inverse}
use Rattle.cgs_poly.specs.Monic.{monic_of}
use Rattle.cgs_divide.specs.AutoreductionRun.{autoreduction}
use Rattle.cgs_basis.specs.BasisRun.{completion, basis_run}
use Rattle.cgs_radical.proofs.laws.emptiness_examples.Goals as goal

pub returns : goal.returns
unfolding key compared divided inverse monic_of autoreduction completion basis_run
returns c = record {
  nothing = (refl, refl);
  zero = (refl, refl);
  zero_and_not = (refl, refl);
  one_among_zero = (refl, refl);
  zero_among_nonzero = (refl, refl);
  product = (refl, refl, refl, refl);
  greatest_power = (refl, refl);
}
