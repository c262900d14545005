use Rattle.std.proofs.Common.{◌≡◌, refl, rules, sym, ◌∙◌}
use Rattle.cgs_board.specs.History.{HasQuit}
use Rattle.cgs_worker.proofs.joined.found.Goals as goal
use Rattle.cgs_worker.proofs.joined.found.Goals.{in-Stopped, in-Finished+then-finished+then-same+then-workers, in-Finished+else-finished, in_default}

pub returns-clause-complete : goal.returns-clause-complete
returns-clause-complete g c = elim c.match-claim.branch [
  | in-Stopped w ↦ search rules
  | in-Finished+then-finished+then-same+then-workers w ↦
      let old = w.in-Finished.ensures.answer in
      let root : c.claim.new.self.root ≡ c.args.root.now = sym w.root.ensures ∙ w.if-same.ensures.0 refl in
      let workers : c.claim.new.self.workers ≡ c.args.workers = sym w.workers.ensures ∙ w.if-workers.true in
      let none : HasQuit c.claim.new.self.history → ⊥ = rw old.2 old.0 in
      λ is. rw (root, workers, old.2) at (w.if-finished.ensures.complete refl none)
  | in-Finished+else-finished w ↦ search rules
  | in_default w ↦ search rules
]
