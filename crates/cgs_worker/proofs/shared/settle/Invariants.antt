use Rattle.std.proofs.Common.{◌≡◌, ◌+◌}
use Rattle.std.specs.Prelude.{sum_by}
use Rattle.cgs_worker.proofs.shared.settle.Given as goal

abbrev pub invariant-loop-seat : goal.invariant-loop-seat
invariant-loop-seat g l = record {
  parts : l.whole.parts + sum_by (λ seat. seat.parts) l.seats.items ≡ sum_by (λ seat. seat.parts) l.fn.seats.items;
  amount : l.whole.amount + sum_by (λ seat. seat.amount) l.seats.items ≡ sum_by (λ seat. seat.amount) l.fn.seats.items;
}

abbrev pub decreases-loop-seat : goal.decreases-loop-seat
decreases-loop-seat g l = goal.left-loop-seat g l
