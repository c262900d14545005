use Rattle.std.proofs.Common.{subst}
use Rattle.std.proofs.Common.{ℕ, List, ◌≡◌}
use Rattle.std.specs.declared.cmp.Ordering.TheVariants.{Equal}
use Rattle.cgs_order.specs.TermOrder.{compared}
use Rattle.cgs_order.proofs.OrderLemmas.{compared_equal, compared_self}
use Rattle.cgs_order.proofs.laws.equal_is_same.Goals as goal

pub returns : goal.returns
returns c order a b p = (compared_equal order a b p, λ e. subst (λ (m : List ℕ). compared order a m ≡ Equal) e (compared_self order a))
