use Rattle.std.proofs.Common.{◌≡◌, ◌++◌, arith, ap, ◌∙◌, length}
use Rattle.cgs_board.specs.Slots.{open_slots as open_all}
use Rattle.std.specs.Prelude.{sum_by}
use Rattle.std.specs.BinaryHeap.{heap_items}
use Rattle.std.proofs.lemmas.List.Sorted.{sum_by-IsPermutation}
use Rattle.std.proofs.lemmas.List.Sums.{sum_by-append}
use Rattle.cgs_board.specs.Waiting.{names, names_within}
use Rattle.cgs_board.proofs.fields.store.Goals as goal

pub returns-clause-waiting : goal.returns-clause-waiting
returns-clause-waiting g c i =
    let children : c.outcome.inside.children.items ≡ c.args.done.outcome.1 = ap (λ p. p.1) c.outcome.view_is in
    let fresh : length c.in-Ok.fresh.items ≡ length (open_all c.args.done.path 0 c.args.done.outcome.1)
    = ap length (c.in-Ok.ensures.slots ∙ ap (λ cs. open_all c.args.done.path 0 cs) children) in
    let first : c.len.result ≡ length c.args.slots.now.items = omega (arith, c.len.ensures, c.args.slots.now.ok.0) in
    let offered : sum_by (names i) (heap_items c.in-Ok.offered)
    ≡ names_within i (length c.args.slots.now.items) (length (open_all c.args.done.path 0 c.args.done.outcome.1))
    = c.in-Ok.ensures.waiting i
    ∙ (ap (λ n. names_within i n (length c.in-Ok.fresh.items)) first ∙ ap (names_within i (length c.args.slots.now.items)) fresh) in
    let joined : sum_by (names i) (heap_items c.close.new.waiting) ≡ sum_by (names i) (heap_items c.args.waiting.now ++ heap_items c.in-Ok.offered)
    = sum_by-IsPermutation (names i) _ _ c.in-Ok-close.ensures.waiting in
    omega (arith, joined, offered, sum_by-append (names i) (heap_items c.args.waiting.now) (heap_items c.in-Ok.offered))

pub returns-clause-room : goal.returns-clause-room
returns-clause-room g c =
    let children : c.outcome.inside.children.items ≡ c.args.done.outcome.1 = ap (λ p. p.1) c.outcome.view_is in
    let fresh : length c.in-Ok.fresh.items ≡ length (open_all c.args.done.path 0 c.args.done.outcome.1)
    = ap length (c.in-Ok.ensures.slots ∙ ap (λ cs. open_all c.args.done.path 0 cs) children) in
    omega (
      arith,
      fresh,
      c.in-Ok.fresh.ok.0,
      c.args.slots.now.ok.0,
      c.len.ensures,
      c.len-2.ensures,
      c.in-Ok-reserve.ensures.ok.1,
      c.push_reserved.ensures.capacity,
    )
