use Rattle.std.proofs.Common.{◌≡◌, ◌+◌, ◌<◌, ℕ, get_or, vec_len}
use Rattle.std.specs.Prelude.{sum_by}
use Rattle.cgs_worker.proofs.seat.seats_of.Given as goal

abbrev pub invariant-loop-worker : goal.invariant-loop-worker
invariant-loop-worker g l = record {
  parts : l.share.parts + l.worker ≡ l.workers;
  amount : l.share.amount ≡ 0;
  len : vec_len l.seats ≡ l.worker;
  numbers : (i : ℕ) (d : _) → i < l.worker → (get_or l.seats.items i d).worker ≡ i;
  whole : sum_by (λ seat. seat.parts) l.seats.items ≡ l.worker;
}
