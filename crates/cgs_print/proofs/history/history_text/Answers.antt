use Rattle.std.proofs.Common.{length}
use Rattle.std.specs.List.{flat_map}
use Rattle.cgs_print.specs.History.{event_line, history_line}
use Rattle.cgs_canonical.proofs.PrintLemmas.{front_first, last_part, at_exit}
use Rattle.cgs_print.proofs.history.history_text.Goals as goal

pub returns-in_err-history_line : goal.returns-in_err-history_line
returns-in_err-history_line c =
    let first = history_line (length c.args.events.now) in
    let lines = flat_map event_line c.args.events.now in
    at_exit _ _ _ _ c.from_residual.ensures.0
    (front_first c.args.out.now c.history_line.new.out first lines (rw (← c.len.ensures) c.in_err-history_line.ensures))

pub returns : goal.returns
returns c =
    let first = history_line (length c.args.events.now) in
    let lines = flat_map event_line c.args.events.now in
    last_part c.event_lines.result c.args.out.now c.history_line.new.out c.event_lines.new.out first lines
    (rw (← c.len.ensures) c.in_ok-history_line.ensures) (rw (← c.as_slice.ensures) c.event_lines.ensures)
