use Rattle.std.proofs.Common.{codes}
use Rattle.cgs_print.specs.History.{event_head}
use Rattle.cgs_canonical.proofs.PrintLemmas.{front_first, last_part, extended, at_exit}
use Rattle.cgs_print.proofs.history.claim_line.Goals as goal

pub returns-in_err-event_head : goal.returns-in_err-event_head
returns-in_err-event_head c =
    let first = event_head (codes "claim") c.args.worker c.args.path.now in
    at_exit _ _ _ _ c.from_residual.ensures.0 (front_first c.args.out.now c.event_head.new.out first (codes "\n") c.in_err-event_head.ensures)

pub returns : goal.returns
returns c =
    let first = event_head (codes "claim") c.args.worker c.args.path.now in
    let end = c.extend_from_slice in
    last_part end.result c.args.out.now c.event_head.new.out end.new.self first (codes "\n") c.in_ok-event_head.ensures
    (extended end.result c.event_head.new.out end.new.self (codes "\n") end.ensures.ok end.ensures.err)
