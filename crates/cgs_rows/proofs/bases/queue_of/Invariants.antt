use Rattle.std.proofs.Common.{◌≡◌, ◌+◌, ◌≤◌, length}
use Rattle.cgs_pairs.specs.declared.pair.Pair.{Pair}
use Rattle.cgs_pairs.specs.PairOrder.{IsWaiting}
use Rattle.cgs_rows.proofs.bases.queue_of.Given as goal

abbrev pub invariant-loop-i : goal.invariant-loop-i
invariant-loop-i l = record {
  places : l.queue.order.head + l.queue.order.tail ≡ 2;
  before : (q : Pair) → IsWaiting q l.queue.pairs → length l.rows ≤ q.smaller + l.i;
}
