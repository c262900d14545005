use Rattle.std.proofs.Common.{◌≡◌, ◌<◌, ◌+◌, arith, ap, sym, refl, ◌∙◌, subst, length, length-append}
use Rattle.std.specs.Prelude.{Some, slice_get}
use Rattle.std.proofs.lemmas.Option.{slice_get_within}
use Rattle.std.specs.Prelude.{sum_by}
use Rattle.std.specs.BinaryHeap.{heap_items}
use Rattle.std.proofs.lemmas.List.Elements.{Contains-append_left}
use Rattle.cgs_board.specs.declared.event.Event.TheVariants.{Quit}
use Rattle.cgs_board.specs.Slots.{out_slot, open_slots, is_open, is_closed, count_stages, staying}
use Rattle.cgs_board.specs.Waiting.{names}
use Rattle.cgs_board.proofs.SlotLists.{open_slots-open, count-le, close_room, close_count, closes_to}
use Rattle.cgs_board.proofs.OpenSlots.{waits_closed}
use Rattle.cgs_board.proofs.Finding.{leads_closed, is_tree}
use Rattle.cgs_board.proofs.BoardLemmas.{quit_before_give}
use Rattle.cgs_board.proofs.Staying.{staying-le}
use Rattle.cgs_board.proofs.Answering.{held, not_held, follows_closed}
use Rattle.cgs_board.proofs.Gathering.{gives_most}
use Rattle.cgs_board.proofs.board.Board.give.Goals as goal

pub find_out-requires : goal.find_out-requires
find_out-requires g c = record {
  tree = rw c.as_slice.ensures.value (is_tree g.J.Job.node _ _ _ _ _ c.self.invariant.follows c.self.invariant.leads);
  size = rw c.as_slice.ensures.value (omega (arith, c.self.inside.slots.ok, c.self.inside.slots.small));
}

pub returns-in_default-clause-answer : goal.returns-in_default-clause-answer
returns-in_default-clause-answer g c =
    let none = not_held g.J.Job.node _ _ _ _ _ c.self.invariant.follows c.args.worker c.args.done.path c.args.done.branch
    (rw c.as_slice.ensures.value at c.in_default.ensures) in
    (rw (← c.self.view_is) none, refl, refl)

pub store-requires : goal.store-requires
store-requires g c = slice_get_within c.self.inside.slots.items c.in-Some.at _ (rw c.as_slice.ensures.value at c.in-Some.ensures)

pub returns-in-Err-clause-answer : goal.returns-in-Err-clause-answer
returns-in-Err-clause-answer g c =
    let out : slice_get c.self.inside.slots.items c.in-Some.at ≡ Some (out_slot c.args.done.path c.args.worker c.args.done.branch) =
    rw c.as_slice.ensures.value at c.in-Some.ensures in
    let has = held g.J.Job.node _ _ _ _ _ c.self.invariant.follows c.in-Some.at c.args.worker c.args.done.path c.args.done.branch out in
    (rw (← c.self.view_is) has, c.in-Err.ensures.back, rw (← c.self.view_is, c.in-Err.ensures.same.3) refl)

pub invariant_of-self : goal.invariant_of-self
invariant_of-self g c =
    let same = c.in-Err.ensures.same in
    let open_slots : count_stages is_open c.store.new.slots.items ≡ count_stages is_open c.self.inside.slots.items = ap (count_stages is_open) same.0 in
    let stay : staying c.self.inside.workers c.store.new.history.items ≡ staying c.self.inside.workers c.self.inside.history.items
    = ap (staying c.self.inside.workers) same.3 in
    let long : length c.store.new.history.items ≡ length c.self.inside.history.items = ap length same.3 in
    record {
      follows = rw (same.0, same.2, same.3) c.self.invariant.follows;
      leads = rw same.0 c.self.invariant.leads;
      waits = rw same.0 (λ i. ap (sum_by (names i)) same.1 ∙ c.self.invariant.waits i);
      count = rw same.0 c.self.invariant.count;
      quits = rw same.3 c.self.invariant.quits;
      room = omega (
        arith,
        c.self.invariant.room,
        open_slots,
        stay,
        long,
        c.in-Err.ensures.capacity,
        c.store.new.history.ok.0,
        c.self.inside.history.ok.0,
      );
    }

pub overflow_add-self : goal.overflow_add-self
overflow_add-self g c =
    let out : slice_get c.self.inside.slots.items c.in-Some.at ≡ Some (out_slot c.args.done.path c.args.worker c.args.done.branch) =
    rw c.as_slice.ensures.value at c.in-Some.ensures in
    let more = close_count c.self.inside.slots.items (open_slots c.args.done.path 0 c.args.done.outcome.1) c.store.new.slots.items c.in-Some.at c.args.worker
    c.args.done.path c.args.done.branch out (open_slots-open c.args.done.path 0 c.args.done.outcome.1) c.in_default-store.ensures.slots in
    omega (arith, more, c.self.invariant.count, count-le is_closed c.store.new.slots.items, c.store.new.slots.ok, c.store.new.slots.small)

pub invariant_of-self-2 : goal.invariant_of-self-2
invariant_of-self-2 g c =
    let out : slice_get c.self.inside.slots.items c.in-Some.at ≡ Some (out_slot c.args.done.path c.args.worker c.args.done.branch) =
    rw c.as_slice.ensures.value at c.in-Some.ensures in
    let below : c.args.worker < c.self.inside.workers = subst (λ v. c.args.worker < v.workers) (sym c.self.view_is) c.requires in
    let e = c.in_default-store.ensures in
    let fits = close_room c.self.inside.slots.items (open_slots c.args.done.path 0 c.args.done.outcome.1) c.store.new.slots.items c.in-Some.at c.args.worker
    c.args.done.path c.args.done.branch out e.slots in
    let more_closed = close_count c.self.inside.slots.items (open_slots c.args.done.path 0 c.args.done.outcome.1) c.store.new.slots.items c.in-Some.at
    c.args.worker c.args.done.path c.args.done.branch out (open_slots-open c.args.done.path 0 c.args.done.outcome.1) e.slots in
    let more : length c.store.new.history.items ≡ length c.self.inside.history.items + 1 = ap length e.history ∙ length-append c.self.inside.history.items _ in
    record {
      follows = follows_closed g.J.Job.node _ _ _ _ _ c.self.invariant.follows c.in-Some.at c.args.worker c.args.done.path c.args.done.branch
          c.args.done.outcome _ _ _ out below c.args.done.is_node e.slots e.found e.history;
      leads = rw (closes_to c.self.inside.slots.items c.store.new.slots.items c.in-Some.at c.args.worker c.args.done.path c.args.done.branch
          c.args.done.outcome.1 out e.slots)
          (leads_closed c.self.inside.slots.items c.self.invariant.leads c.in-Some.at c.args.done.path c.args.worker c.args.done.branch
          c.args.done.outcome.1 out);
      waits = rw e.slots.2
          (waits_closed c.self.inside.slots.items (open_slots c.args.done.path 0 c.args.done.outcome.1) (heap_items c.self.inside.waiting)
          (heap_items c.store.new.waiting) c.in-Some.at _ _ c.self.invariant.waits
          (open_slots-open c.args.done.path 0 c.args.done.outcome.1) e.waiting out refl refl);
      count = omega (arith, more_closed, c.self.invariant.count);
      quits = rw e.history (
        λ is. let q = c.self.invariant.quits.0 is in (q.0, Contains-append_left c.self.inside.history.items _ (Quit q.0) q.1),
        λ q. c.self.invariant.quits.1 (quit_before_give c.self.inside.history.items c.args.worker c.args.done.path _ _ q),
      );
      room = omega (
        arith,
        fits,
        more,
        e.room,
        c.store.new.history.ok.0,
        c.self.inside.history.ok.0,
        staying-le c.self.inside.workers c.store.new.history.items,
      );
    }

pub returns-clause-answer : goal.returns-clause-answer
returns-clause-answer g c =
    let out : slice_get c.self.inside.slots.items c.in-Some.at ≡ Some (out_slot c.args.done.path c.args.worker c.args.done.branch) =
    rw c.as_slice.ensures.value at c.in-Some.ensures in
    let has = held g.J.Job.node _ _ _ _ _ c.self.invariant.follows c.in-Some.at c.args.worker c.args.done.path c.args.done.branch out in
    (rw (← c.self.view_is) has, rw (← c.self.view_is, c.in_default-store.ensures.history) refl)

pub returns-clause-most : goal.returns-clause-most
returns-clause-most g c =
    let out : slice_get c.self.inside.slots.items c.in-Some.at ≡ Some (out_slot c.args.done.path c.args.worker c.args.done.branch) =
    rw c.as_slice.ensures.value at c.in-Some.ensures in
    let below : c.args.worker < c.self.inside.workers = subst (λ v. c.args.worker < v.workers) (sym c.self.view_is) c.requires in
    let e = c.in_default-store.ensures in
    let f = follows_closed g.J.Job.node _ _ _ _ _ c.self.invariant.follows c.in-Some.at c.args.worker c.args.done.path c.args.done.branch c.args.done.outcome
    c.store.new.slots.items c.store.new.found.items c.store.new.history.items out below c.args.done.is_node e.slots e.found e.history in
    gives_most g.J.Job.node g.J.Job.height g.met.J.Job.falls _ _ _ f.legal

pub returns-in-Err-clause-most : goal.returns-in-Err-clause-most
returns-in-Err-clause-most g c = rw c.in-Err.ensures.same.3 (gives_most g.J.Job.node g.J.Job.height g.met.J.Job.falls _ _ _ c.self.invariant.follows.legal)

pub returns-in_default-clause-most : goal.returns-in_default-clause-most
returns-in_default-clause-most g c = rw (← c.self.view_is) (gives_most g.J.Job.node g.J.Job.height g.met.J.Job.falls _ _ _ c.self.invariant.follows.legal)
