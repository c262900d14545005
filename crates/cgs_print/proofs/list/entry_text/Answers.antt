use Rattle.std.proofs.Common.{◌++◌}
use Rattle.cgs_print.specs.Printing.{head_line, conditions_text, found_text}
use Rattle.cgs_canonical.proofs.PrintLemmas.{front_first, front_second, both_parts, last_part, at_exit}
use Rattle.cgs_print.proofs.list.entry_text.Goals as goal

pub returns-in_err-head_line : goal.returns-in_err-head_line
returns-in_err-head_line c =
    let entry = c.args.entry.now in
    let conditions = conditions_text c.args.ring.now c.args.names.now entry.conditions in
    let found = found_text c.args.ring.now c.args.names.now entry.kind in
    at_exit _ _ _ _ c.from_residual.ensures.0
    (front_first _ _ (head_line entry ++ conditions) found (front_first _ _ (head_line entry) conditions c.in_err-head_line.ensures))

pub returns-in_err-conditions_text : goal.returns-in_err-conditions_text
returns-in_err-conditions_text c =
    let entry = c.args.entry.now in
    let conditions = conditions_text c.args.ring.now c.args.names.now entry.conditions in
    let found = found_text c.args.ring.now c.args.names.now entry.kind in
    at_exit _ _ _ _ c.from_residual-in_err-conditions_text.ensures.0
    (front_first _ _ (head_line entry ++ conditions) found
    (front_second _ _ _ (head_line entry) conditions c.in_ok-head_line.ensures c.in_err-conditions_text.ensures))

pub returns : goal.returns
returns c =
    let entry = c.args.entry.now in
    let conditions = conditions_text c.args.ring.now c.args.names.now entry.conditions in
    let found = found_text c.args.ring.now c.args.names.now entry.kind in
    last_part _ _ _ _ (head_line entry ++ conditions) found
    (both_parts _ _ _ (head_line entry) conditions c.in_ok-head_line.ensures c.in_ok-conditions_text.ensures) c.found_text.ensures
