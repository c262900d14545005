use Rattle.std.proofs.Common.{◌≡◌, ◌++◌, List, ℕ, [], get_or, ap, ◌∙◌, sym, subst}
use Rattle.std.proofs.lemmas.List.{append-nil}
use Rattle.cgs_canonical.specs.Printing.{AppendsFront}
use Rattle.cgs_print.specs.History.{event_line}
use Rattle.cgs_canonical.proofs.PrintLemmas.{leaves_all, leaves_equal, leaves_item, leaves_no_item, leaves_none, front_of_item, at_exit}
use Rattle.cgs_print.proofs.history.event_lines.Goals as goal

pub loop-event-init : goal.loop-event-init
loop-event-init c = leaves_equal _ (leaves_all _ _) (sym (append-nil _))

pub returns-in_err-event_line : goal.returns-in_err-event_line
returns-in_err-event_line c =
    let item = get_or c.args.events.now c.loop-event.event-index c.event-item.result in
    let printed : event_line c.event-item.result ≡ event_line item = ap event_line c.event-item.is in
    at_exit _ _ _ _ c.from_residual.ensures.0
    (front_of_item event_line c.args.events.now c.loop-event.event-index c.event-item.result [] c.loop-event-test.true c.loop-event.invariant
    (subst (AppendsFront c.loop-event.out c.event_line.new.out) printed c.in_err-event_line.ensures))

pub loop-event-preserved : goal.loop-event-preserved
loop-event-preserved c =
    let item = get_or c.args.events.now c.loop-event.event-index c.event-item.result in
    let printed : event_line c.event-item.result ≡ event_line item = ap event_line c.event-item.is in
    leaves_item event_line c.args.events.now c.loop-event.event-index c.event-item.result [] c.loop-event-test.true c.loop-event.invariant
    (c.in_ok-event_line.ensures ∙ ap (λ (xs : List ℕ). c.loop-event.out ++ xs) printed)

pub returns : goal.returns
returns c = leaves_none (leaves_no_item event_line c.args.events.now c.loop-event.event-index [] c.loop-event-test.false c.loop-event.invariant)
