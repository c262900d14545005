use Rattle.std.proofs.Common.{◌++◌, [], ◌∷◌, ap, sym, ◌∙◌}
use Rattle.cgs_split.proofs.PreparedLemmas.{parametric_next, parametric_skip}
use Rattle.cgs_split.proofs.lists.parametric_members.Goals as goal
use Rattle.cgs_split.proofs.lists.parametric_members.Goals.{then-has_no_variables+in_ok-copy+in_ok-push, else-has_no_variables}

pub loop-i-preserved : goal.loop-i-preserved
loop-i-preserved c =
    let test = sym c.has_no_variables.ensures.test in
    elim c.if-has_no_variables.branch [
      | then-has_no_variables+in_ok-copy+in_ok-push w ↦
          w.kept-is ∙ (w.in_ok-push.ensures.ok ∙ (ap (λ h. c.loop-i.kept ++ h ∷ []) w.in_ok-copy.ensures
          ∙ (ap (λ L. L ++ c.get-g.result.now ∷ []) c.loop-i.invariant
          ∙ parametric_next c.args.ring.now c.args.list.now c.loop-i.i c.get-g.result.now c.get-g.ensures (test ∙ w.if-has_no_variables.true))))
      | else-has_no_variables w ↦
          w.kept-is ∙ (c.loop-i.invariant
          ∙ parametric_skip c.args.ring.now c.args.list.now c.loop-i.i c.get-g.result.now c.get-g.ensures (test ∙ w.if-has_no_variables.false))
    ]
