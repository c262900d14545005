use Rattle.std.proofs.Common.{◌≡◌, ◌++◌, ◌∷◌, [], take, take_all, ap, sym, ◌∙◌}
use Rattle.std.proofs.lemmas.List.{take_more}
use Rattle.cgs_board.proofs.fields.all_events.Goals as goal

pub loop-event-preserved : goal.loop-event-preserved
loop-event-preserved c =
    let is : c.in_ok-copy.field-0 ≡ c.event-item.result = c.in_ok-copy.ensures in
    c.in_ok-push.ensures.ok ∙ (rw (c.loop-event.invariant, is) (ap (λ x. take c.loop-event.event-index c.args.history.now ++ x ∷ []) c.event-item.is
    ∙ sym (take_more c.args.history.now c.loop-event.event-index c.event-item.result c.loop-event-test.true)))

pub returns : goal.returns
returns c = c.loop-event.invariant ∙ take_all c.loop-event.event-index c.args.history.now c.loop-event-test.false
