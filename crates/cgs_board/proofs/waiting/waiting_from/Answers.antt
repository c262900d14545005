use Rattle.std.proofs.Common.{◌≡◌, ◌+◌, ap, arith, rules}
use Rattle.std.specs.Prelude.{sum_by}
use Rattle.std.specs.BinaryHeap.{heap_items}
use Rattle.std.proofs.lemmas.List.Sorted.{sum_by_pushed}
use Rattle.cgs_board.specs.Waiting.{same, names}
use Rattle.cgs_board.proofs.OpenSlots.{names_within-push}
use Rattle.cgs_board.proofs.waiting.waiting_from.Goals as goal

pub loop-number-preserved : goal.loop-number-preserved
loop-number-preserved g c i =
    let place : c.in_ok-place.place ≡ c.args.first + c.loop-number.number = search rules in
    let pushed : sum_by (names i) (heap_items c.push.new.self) ≡ same c.in_ok-place.place i + sum_by (names i) (heap_items c.loop-number.heap)
    = sum_by_pushed (names i) _ _ _ c.in_ok-push.ensures.permutation in
    let moved : same c.in_ok-place.place i ≡ same (c.args.first + c.loop-number.number) i = ap (λ n. same n i) place in
    omega (arith, pushed, moved, names_within-push i c.args.first c.loop-number.number, c.loop-number.invariant i)
