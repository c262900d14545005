use Rattle.std.proofs.Common.{◌++◌, [], ◌∷◌, take, sym, ap, ◌∙◌}
use Rattle.cgs_list.proofs.ListLemmas.{take_next}
use Rattle.cgs_poly.proofs.list.are_same.Goals as goal

pub loop-i-preserved : goal.loop-i-preserved
loop-i-preserved c =
    take_next c.args.list.now c.loop-i.i c.get.result.now c.get.ensures
    ∙ (ap (λ L. L ++ c.get.result.now ∷ []) c.loop-i.invariant
    ∙ (ap (λ f. take c.loop-i.i c.args.other.now ++ f ∷ []) (c.same.ensures.0 c.if-not-same.false)
    ∙ sym (take_next c.args.other.now c.loop-i.i c.get-in-loop-i.result.now c.get-in-loop-i.ensures)))
