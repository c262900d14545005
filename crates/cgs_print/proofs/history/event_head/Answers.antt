use Rattle.cgs_print.specs.Printing.{path_text}
use Rattle.cgs_print.specs.History.{worker_text}
use Rattle.cgs_canonical.proofs.PrintLemmas.{front_first, last_part, at_exit}
use Rattle.cgs_print.proofs.history.event_head.Goals as goal

pub returns-in_err-worker_text : goal.returns-in_err-worker_text
returns-in_err-worker_text c =
    let first = worker_text c.args.word.now c.args.worker in
    at_exit _ _ _ _ c.from_residual.ensures.0 (front_first c.args.out.now c.worker_text.new.out first (path_text c.args.path.now) c.in_err-worker_text.ensures)

pub returns : goal.returns
returns c =
    let first = worker_text c.args.word.now c.args.worker in
    let path = path_text c.args.path.now in
    last_part c.path_text.result c.args.out.now c.worker_text.new.out c.path_text.new.out first path c.in_ok-worker_text.ensures c.path_text.ensures
