use Rattle.cgs_poly.proofs.ProductOrderLemmas.{compared_shift}
use Rattle.cgs_poly.proofs.laws.product_keeps_order.Goals as goal

pub returns : goal.returns
returns c = compared_shift
