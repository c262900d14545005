use Rattle.std.proofs.Common.{sym, ◌∙◌}
use Rattle.std.proofs.lemmas.Result.{IfOk-weaker}
use Rattle.cgs_divide.proofs.EndingLemmas.{stops}
use Rattle.cgs_basis.specs.BasisRun.{basis_run}
use Rattle.cgs_radical.specs.EmptinessRun.{emptiness_from, emptiness_run}
use Rattle.cgs_split.proofs.CodeLemmas.{deep_node, run_node, node_made_sound}
use Rattle.cgs_split.proofs.node.BranchJob.node.Goals as goal

pub returns-then-is_too_deep : goal.returns-then-is_too_deep
returns-then-is_too_deep c =
    let is = deep_node c.args.self.now c.args.path.now (sym c.is_too_deep.ensures ∙ c.if-is_too_deep.true) in
    let value = IfOk-weaker c.settled.result _ _ (λ o e. e ∙ is) c.settled.ensures in
    record { value = value; sound = node_made_sound c.args.self.now _ c.args.path.now c.self.view_is c.self.invariant.0 c.settled.result value }

pub returns-in-Ok : goal.returns-in-Ok
returns-in-Ok c =
    let is = run_node c.args.self.now c.args.path.now (sym c.is_too_deep.ensures ∙ c.if-is_too_deep.false) in
    let value = IfOk-weaker c.tested.result _ _ (λ o e. e ∙ is) c.tested.ensures in
    record { value = value; sound = node_made_sound c.args.self.now _ c.args.path.now c.self.view_is c.self.invariant.0 c.tested.result value }

pub returns-in-Err : goal.returns-in-Err
returns-in-Err c =
    let is = run_node c.args.self.now c.args.path.now (sym c.is_too_deep.ensures ∙ c.if-is_too_deep.false) in
    let branch = c.args.self.now in
    let ran = stops _ (emptiness_from basis_run branch.ring branch.nonzero) c.vanishing_basis.new.fuel c.in-Err.stop c.in-Err.ensures.ends in
    let made = c.stopped.ensures (emptiness_run branch.ring branch.zero branch.nonzero branch.limits.budget) c.vanishing_basis.new.fuel ran in
    let value = IfOk-weaker c.stopped.result _ _ (λ o e. e ∙ is) made in
    record { value = value; sound = node_made_sound branch _ c.args.path.now c.self.view_is c.self.invariant.0 c.stopped.result value }
