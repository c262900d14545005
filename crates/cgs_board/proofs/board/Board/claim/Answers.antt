use Rattle.std.proofs.Common.{◌≡◌, ◌<◌, ◌+◌, ℕ, arith, ap, refl, sym, subst, ◌∙◌, length}
use Rattle.std.specs.Prelude.{sum_by}
use Rattle.std.specs.BinaryHeap.{heap_items}
use Rattle.std.proofs.lemmas.Bool.{false≢true}
use Rattle.cgs_board.specs.History.{HasQuit}
use Rattle.cgs_board.specs.Slots.{out_slot, is_open, is_closed, count_stages, staying}
use Rattle.cgs_board.specs.Waiting.{names, open_at}
use Rattle.cgs_board.proofs.SlotLists.{count-set, count-le}
use Rattle.cgs_board.proofs.Staying.{staying_other}
use Rattle.cgs_board.proofs.OpenSlots.{none_waits, waited_open, waits_claimed}
use Rattle.cgs_board.proofs.Finding.{leads_claimed}
use Rattle.cgs_board.proofs.Answering.{none_open, some_is_out, finished_where, handed_open, handed_branch, handed_path, follows_handed}
use Rattle.cgs_board.proofs.BoardLemmas.{none_quit_claim, exact_claim}
use Rattle.cgs_board.proofs.board.Board.claim.Goals as goal
use Rattle.cgs_board.proofs.board.Board.claim.Goals.{then-self-len, else-self-len}

pub returns-then-self-clause-answer : goal.returns-then-self-clause-answer
returns-then-self-clause-answer g c = (rw (← c.self.view_is) (c.self.invariant.quits.0 c.if-self.true), refl)

pub returns-in_default-clause-answer : goal.returns-in_default-clause-answer
returns-in_default-clause-answer g c =
    let f = c.self.invariant.follows in
    let stays : HasQuit c.self.inside.history.items → ⊥ = λ has. false≢true (sym c.if-self.false ∙ c.self.invariant.quits.1 has) in
    let empty : length (heap_items c.self.inside.waiting) ≡ 0 = omega (arith, c.in_default.ensures.none, c.self.inside.waiting.data.ok.0) in
    let none : (i : ℕ) → open_at c.self.inside.slots.items i ≡ 0
    = none_waits c.self.inside.slots.items (heap_items c.self.inside.waiting) c.self.invariant.waits empty in
    rw (← c.self.view_is)
    (elim c.if-self-len.branch [
      | then-self-len w ↦
          let below : count_stages is_closed c.self.inside.slots.items < length c.self.inside.slots.items
          = omega (arith, w.if-self-len.true, c.len.ensures, c.self.invariant.count, c.self.inside.slots.ok.0) in
          rw w.result-is (stays, none_open g.J.Job.node _ _ _ _ _ f none, some_is_out g.J.Job.node _ _ _ _ _ f none below, refl)
      | else-self-len w ↦
          let all : count_stages is_closed c.self.inside.slots.items ≡ length c.self.inside.slots.items
          = omega (
            arith,
            w.if-self-len.false,
            c.len.ensures,
            c.self.invariant.count,
            c.self.inside.slots.ok.0,
            count-le is_closed c.self.inside.slots.items,
          ) in
          rw w.result-is (stays, finished_where g.J.Job.node _ _ _ _ _ f all, refl)
    ])

pub invariant_of-self : goal.invariant_of-self
invariant_of-self g c = record {
  follows = c.self.invariant.follows;
  leads = c.self.invariant.leads;
  waits = λ i. ap (sum_by (names i)) c.in_default.ensures.unchanged.0 ∙ c.self.invariant.waits i;
  count = c.self.invariant.count;
  quits = c.self.invariant.quits;
  room = c.self.invariant.room;
}

pub hand_out-piece-requires : goal.hand_out-piece-requires
hand_out-piece-requires g c = waited_open c.self.inside.slots.items _ _ _ c.self.invariant.waits c.in-Some.ensures.permutation

pub push_reserved-requires : goal.push_reserved-requires
push_reserved-requires g c =
    let h = c.hand_out-piece.ensures in
    let fewer = count-set is_open c.self.inside.slots.items c.in-Some.field-0-1.0 _ (out_slot h.0 c.args.worker h.1) h.2 in
    omega (arith, c.self.invariant.room, fewer)

pub invariant_of-self-2 : goal.invariant_of-self-2
invariant_of-self-2 g c =
    let below : c.args.worker < c.self.inside.workers = subst (λ v. c.args.worker < v.workers) (sym c.self.view_is) c.requires in
    let stays : HasQuit c.self.inside.history.items → ⊥ = λ has. false≢true (sym c.if-self.false ∙ c.self.invariant.quits.1 has) in
    let h = c.hand_out-piece.ensures in
    let fewer = count-set is_open c.self.inside.slots.items c.in-Some.field-0-1.0 _ (out_slot h.0 c.args.worker h.1) h.2 in
    let shut = count-set is_closed c.self.inside.slots.items c.in-Some.field-0-1.0 _ (out_slot h.0 c.args.worker h.1) h.2 in
    let slots : count_stages is_open c.hand_out-piece.new.slots.items + 1 ≡ count_stages is_open c.self.inside.slots.items
    = rw h.3 (omega (arith, fewer)) in
    let closed : c.self.inside.closed ≡ count_stages is_closed c.hand_out-piece.new.slots.items = rw h.3 (omega (arith, shut, c.self.invariant.count)) in
    let same : staying c.self.inside.workers c.push_reserved.new.self.items ≡ staying c.self.inside.workers c.self.inside.history.items
    = ap (staying c.self.inside.workers) c.push_reserved.ensures.items ∙ staying_other c.self.inside.workers c.self.inside.history.items _ (λ w. refl) in
    record {
      follows = rw c.push_reserved.ensures.items
          (follows_handed g.J.Job.node _ _ _ _ _ c.self.invariant.follows c.in-Some.field-0-1.0 c.args.worker c.hand_out-piece.result.0
          c.hand_out-piece.result.1 _ h below stays);
      leads = rw h.3 (leads_claimed c.self.inside.slots.items c.self.invariant.leads c.in-Some.field-0-1.0 _ (out_slot h.0 c.args.worker h.1) h.2 refl refl);
      waits = rw h.3
          (waits_claimed c.self.inside.slots.items _ _ _ c.self.invariant.waits c.in-Some.ensures.permutation _ (out_slot h.0 c.args.worker h.1) h.2 refl);
      count = closed;
      quits = rw c.push_reserved.ensures.items (
        λ is. absurd (false≢true (sym c.if-self.false ∙ is)),
        λ q. absurd (none_quit_claim c.self.inside.history.items c.args.worker c.hand_out-piece.result.1 stays q),
      );
      room = omega (arith, c.self.invariant.room, slots, same, c.push_reserved.ensures.len, c.push_reserved.ensures.capacity);
    }

pub returns-clause-answer : goal.returns-clause-answer
returns-clause-answer g c =
    let stays : HasQuit c.self.inside.history.items → ⊥ = λ has. false≢true (sym c.if-self.false ∙ c.self.invariant.quits.1 has) in
    let h = c.hand_out-piece.ensures in
    let f = c.self.invariant.follows in
    let path = handed_path g.J.Job.node _ _ _ _ _ f c.in-Some.field-0-1.0 c.args.worker c.hand_out-piece.result.0 c.hand_out-piece.result.1 _ h in
    rw (← c.self.view_is) (
      stays,
      handed_open g.J.Job.node _ _ _ _ _ f c.in-Some.field-0-1.0 c.args.worker c.hand_out-piece.result.0 c.hand_out-piece.result.1 _ h,
      handed_branch g.J.Job.node _ _ _ _ _ f c.in-Some.field-0-1.0 c.args.worker c.hand_out-piece.result.0 c.hand_out-piece.result.1 _ h,
      rw (c.push_reserved.ensures.items, path) refl,
    )

pub returns-then-self-clause-exact : goal.returns-then-self-clause-exact
returns-then-self-clause-exact g c = exact_claim g.J.Job.node c.args.worker _ _ _ (returns-then-self-clause-answer g c)

pub returns-in_default-clause-exact : goal.returns-in_default-clause-exact
returns-in_default-clause-exact g c = exact_claim g.J.Job.node c.args.worker _ _ _ (returns-in_default-clause-answer g c)

pub returns-clause-exact : goal.returns-clause-exact
returns-clause-exact g c = exact_claim g.J.Job.node c.args.worker _ _ _ (returns-clause-answer g c)
