use Rattle.cgs_order.specs.Laws.{IsReached, above}
use Rattle.cgs_order.proofs.OrderLemmas.{compared_induction}
use Rattle.cgs_order.proofs.laws.compared_is_well_founded.Goals as goal

pub returns : goal.returns
returns c order = compared_induction order (IsReached order) (λ a p smaller. above a smaller)
