use Rattle.std.proofs.Common.{◌-◌}
use Rattle.cgs_poly.proofs.product.+product_of.Given as goal

abbrev pub decreases-product_of : goal.decreases-product_of
decreases-product_of l = l.to - l.from
