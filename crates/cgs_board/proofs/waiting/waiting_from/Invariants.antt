use Rattle.std.proofs.Common.{◌≡◌, ℕ}
use Rattle.std.specs.Prelude.{sum_by}
use Rattle.std.specs.BinaryHeap.{heap_items}
use Rattle.cgs_board.specs.Waiting.{names, names_within}
use Rattle.cgs_board.proofs.waiting.waiting_from.Given as goal

abbrev pub invariant-loop-number : goal.invariant-loop-number
invariant-loop-number g l = (i : ℕ) → sum_by (names i) (heap_items l.heap) ≡ names_within i l.first l.number
