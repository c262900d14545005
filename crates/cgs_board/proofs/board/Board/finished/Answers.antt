use Rattle.std.proofs.Common.{◌≡◌, arith, sym, subst, length}
use Rattle.std.proofs.lemmas.Bool.{eqb-true, eq-eqb}
use Rattle.cgs_board.specs.History.{IsFinished, HasQuit}
use Rattle.cgs_board.specs.Slots.{is_closed, count_stages}
use Rattle.cgs_board.proofs.HistoryLemmas.{finished_came_back}
use Rattle.cgs_board.proofs.Answering.{finished_where, closed_where}
use Rattle.cgs_board.proofs.Gathering.{finished_is_complete, all_given, gives_all}
use Rattle.cgs_board.proofs.board.Board.finished.Goals as goal

pub returns-clause-value : goal.returns-clause-value
returns-clause-value g c =
    let f = c.self.invariant.follows in (
      λ is.
          let same : c.self.inside.closed ≡ c.len.result = eqb-true c.self.inside.closed c.len.result is in
          let all : count_stages is_closed c.self.inside.slots.items ≡ length c.self.inside.slots.items
          = omega (arith, same, c.len.ensures, c.self.invariant.count, c.self.inside.slots.ok.0) in
          rw (← c.self.view_is) (finished_where g.J.Job.node _ _ _ _ _ f all),
      λ done.
          let all = closed_where g.J.Job.node _ _ _ _ _ f (subst (λ v. IsFinished v.history) (sym c.self.view_is) done) in
          eq-eqb c.self.inside.closed c.len.result (omega (arith, all, c.len.ensures, c.self.invariant.count, c.self.inside.slots.ok.0)),
    )

pub returns-clause-complete : goal.returns-clause-complete
returns-clause-complete g c is stay =
    let f = c.self.invariant.follows in
    let none : HasQuit c.self.inside.history.items → ⊥ = rw (← c.self.view_is) at stay in
    let done : IsFinished c.self.inside.history.items = subst (λ v. IsFinished v.history) (sym c.self.view_is) ((returns-clause-value g c).0 is) in
    rw (← c.self.view_is) (finished_is_complete g.J.Job.node _ _ _ f.legal done none)

pub returns-clause-gives : goal.returns-clause-gives
returns-clause-gives g c is =
    let f = c.self.invariant.follows in
    let done : IsFinished c.self.inside.history.items = subst (λ v. IsFinished v.history) (sym c.self.view_is) ((returns-clause-value g c).0 is) in
    let given = all_given g.J.Job.node _ _ _ f.legal (finished_came_back _ done) in
    rw (← c.self.view_is) (gives_all g.J.Job.node g.J.Job.height g.met.J.Job.falls _ _ _ f.legal given)
