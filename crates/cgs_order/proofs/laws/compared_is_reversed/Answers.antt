use Rattle.cgs_order.proofs.OrderLemmas.{compared_total}
use Rattle.cgs_order.proofs.laws.compared_is_reversed.Goals as goal

pub returns : goal.returns
returns c order a b = (compared_total order).antisymm b a
