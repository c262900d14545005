use Rattle.std.proofs.Common.{◌≡◌, ◌++◌, ◌*◌, ◌≤◌, drop}
use Rattle.cgs_order.specs.TermOrder.{partial_sums}
use Rattle.cgs_pairs.proofs.key.push_sums.Given as goal

abbrev pub invariant-loop-x : goal.invariant-loop-x
invariant-loop-x l = record {
  so_far : l.list.items ++ partial_sums l.sum (drop l.x-index l.block) ≡ l.fn.list.items ++ partial_sums 0 l.block;
  small : l.sum ≤ 65535 * l.x-index;
}
