use Rattle.std.proofs.Common.{refl, ◌∙◌, take_all}
use Rattle.cgs_board.proofs.SlotLists.{open_slots_step}
use Rattle.cgs_board.proofs.slot.open_slots.Goals as goal

pub loop-number-preserved : goal.loop-number-preserved
loop-number-preserved g c = record {
  children = c.loop-number.invariant.children;
  slots = rw (open_slots_step c.args.path.now c.deref-child-items.result.now c.loop-number.number c.child-item.result c.loop-number-test.true c.child-item.is)
      (c.in_ok-push.ensures.items ∙ rw (c.loop-number.invariant.slots, c.in_ok-open_slot.ensures, c.in_ok-child.ensures.value, c.in_ok-copy.ensures) refl);
}

pub returns : goal.returns
returns g c = rw (← c.loop-number.invariant.children, ← take_all c.loop-number.number c.deref-child-items.result.now c.loop-number-test.false)
    c.loop-number.invariant.slots
