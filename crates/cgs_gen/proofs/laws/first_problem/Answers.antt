use Rattle.std.proofs.Common.{refl}
use Rattle.cgs_order.specs.TermOrder.{key, compared}
use Rattle.cgs_gen.proofs.laws.first_problem.Goals as goal

pub returns : goal.returns
unfolding key compared
returns c = refl
