use Rattle.std.proofs.Common.{◌≡◌, ◌+◌}
use Rattle.cgs_rows.proofs.bases.waiting_of.Given as goal

abbrev pub invariant-loop-lead : goal.invariant-loop-lead
invariant-loop-lead l = l.waiting.order.head + l.waiting.order.tail ≡ 2
