use Rattle.cgs_order.proofs.OrderLemmas.{compared_trans}
use Rattle.cgs_order.proofs.laws.compared_is_transitive.Goals as goal

pub returns : goal.returns
returns c = compared_trans
