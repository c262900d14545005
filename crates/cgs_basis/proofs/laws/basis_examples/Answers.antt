use Rattle.std.proofs.Common.{refl}
use Rattle.cgs_order.specs.TermOrder.{key, compared}
use Rattle.cgs_divide.specs.DivisionRun.{divided}
use Rattle.cgs_field.specs.Inverse.{inverse}
use Rattle.cgs_poly.specs.Monic.{monic_of}
use Rattle.cgs_divide.specs.AutoreductionRun.{autoreduction}
use Rattle.cgs_basis.specs.BasisRun.{completion, basis_run}
use Rattle.cgs_basis.specs.Examples.{ParametricRuns, PlainRuns, ShortRuns, RunsWithY, SteepRuns, ThirdPlaces, CircleRuns}
use Rattle.cgs_basis.proofs.laws.basis_examples.Goals as goal

parametric : ParametricRuns
unfolding key compared divided inverse monic_of autoreduction completion basis_run
parametric = ((refl, refl), refl)

plain : PlainRuns
unfolding key compared divided inverse monic_of autoreduction completion basis_run
plain = (refl, (refl, refl))

short : ShortRuns
unfolding key compared divided inverse monic_of autoreduction completion basis_run
short = (refl, (refl, refl), (refl, refl), (refl, refl), (refl, refl))

with_y : RunsWithY
unfolding key compared divided inverse monic_of autoreduction completion basis_run
with_y = ((refl, refl), (refl, refl), (refl, refl), (refl, refl))

steep : SteepRuns
unfolding key compared divided inverse monic_of autoreduction completion basis_run
steep = ((refl, refl), refl, refl)

thirds : ThirdPlaces
unfolding key compared divided inverse monic_of autoreduction completion basis_run
thirds = (refl, refl)

circles : CircleRuns
unfolding key compared divided inverse monic_of autoreduction completion basis_run
circles = (refl, refl)

pub returns : goal.returns
returns c = (parametric, plain, short, with_y, steep, thirds, circles)
