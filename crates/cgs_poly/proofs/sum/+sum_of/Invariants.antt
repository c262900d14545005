use Rattle.std.proofs.Common.{◌-◌}
use Rattle.cgs_poly.proofs.sum.+sum_of.Given as goal

abbrev pub decreases-sum_of : goal.decreases-sum_of
decreases-sum_of l = l.to - l.from
