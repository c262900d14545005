use Rattle.cgs_poly.proofs.ProductOrderLemmas.{one_least}
use Rattle.cgs_poly.proofs.laws.one_is_least.Goals as goal

pub returns : goal.returns
returns c = one_least
