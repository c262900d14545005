use Rattle.std.specs.List.{flat_map}
use Rattle.cgs_print.specs.Printing.{entry_text, count_line}
use Rattle.cgs_canonical.proofs.PrintLemmas.{front_first, last_part, at_exit}
use Rattle.cgs_print.proofs.list.list_text.Goals as goal

pub returns-in_err-entry_lines : goal.returns-in_err-entry_lines
returns-in_err-entry_lines c =
    let lines = flat_map (entry_text c.args.problem.now.ring c.args.problem.now.names) c.args.entries.now in
    at_exit _ _ _ _ c.from_residual.ensures.0
    (front_first c.args.out.now c.entry_lines.new.out lines (count_line c.args.entries.now)
    (rw (← c.as_slice.ensures, ← c.as_slice-2.ensures) c.in_err-entry_lines.ensures))

pub returns : goal.returns
returns c =
    let lines = flat_map (entry_text c.args.problem.now.ring c.args.problem.now.names) c.args.entries.now in
    last_part c.count_line.result c.args.out.now c.entry_lines.new.out c.count_line.new.out lines (count_line c.args.entries.now)
    (rw (← c.as_slice.ensures, ← c.as_slice-2.ensures) c.in_ok-entry_lines.ensures) (rw (← c.as_slice-3.ensures) c.count_line.ensures)
