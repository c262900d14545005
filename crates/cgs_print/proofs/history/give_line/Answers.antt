use Rattle.std.proofs.Common.{codes}
use Rattle.cgs_print.specs.History.{event_head, node_numbers}
use Rattle.cgs_canonical.proofs.PrintLemmas.{front_first, last_part, at_exit}
use Rattle.cgs_print.proofs.history.give_line.Goals as goal

pub returns-in_err-event_head : goal.returns-in_err-event_head
returns-in_err-event_head c =
    let first = event_head (codes "give") c.args.worker c.args.path.now in
    let rest = node_numbers c.args.children c.args.entries in
    at_exit _ _ _ _ c.from_residual.ensures.0 (front_first c.args.out.now c.event_head.new.out first rest c.in_err-event_head.ensures)

pub returns : goal.returns
returns c =
    let first = event_head (codes "give") c.args.worker c.args.path.now in
    let rest = node_numbers c.args.children c.args.entries in
    last_part c.node_numbers.result c.args.out.now c.event_head.new.out c.node_numbers.new.out first rest c.in_ok-event_head.ensures c.node_numbers.ensures
