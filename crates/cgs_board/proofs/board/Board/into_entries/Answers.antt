use Rattle.std.proofs.Common.{◌≡◌, [], sym, subst}
use Rattle.cgs_board.specs.History.{IsFinished}
use Rattle.cgs_board.specs.Tree.{entries_of}
use Rattle.cgs_board.proofs.HistoryLemmas.{finished_came_back}
use Rattle.cgs_board.proofs.Gathering.{sorted_entries}
use Rattle.cgs_board.proofs.board.Board.into_entries.Goals as goal

pub returns : goal.returns
returns g c =
    let f = c.self.invariant.follows in
    let done : IsFinished c.self.inside.history.items = subst (λ v. IsFinished v.history) (sym c.self.view_is) c.requires in
    let sorted : c.in_ok-entries.entries.items ≡ entries_of g.J.Job.node g.J.Job.height c.self.inside.root []
    = sorted_entries g.J.Job.node g.J.Job.height g.met.J.Job.falls c.self.inside.root c.self.inside.workers c.self.inside.history.items f.legal
    (finished_came_back c.self.inside.history.items done) c.in_ok-entries.entries.items (rw (← f.entries) c.in_ok-entries.ensures.same)
    c.in_ok-entries.ensures.order in
    rw (← c.self.view_is) sorted
