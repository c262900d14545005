use Rattle.cgs_divide.proofs.DivisionLemmas.{divided_divides}
use Rattle.cgs_divide.proofs.laws.division_divides.Goals as goal

pub returns : goal.returns
returns c ring G units left f remainder quotients pos ok h e = divided_divides ring G pos ok units left f remainder quotients h e
