use Rattle.std.proofs.Common.{◌≡◌, [], ◌∷◌, ◌++◌, sym, ap, ◌∙◌, subst}
use Rattle.std.specs.List.{AllByRecursion}
use Rattle.cgs_poly.specs.Polynomial.{IsPoly, ArePolys}
use Rattle.cgs_dickson.proofs.KeptLemmas.{stays, filter_passed, filter_failed, each_kept}
use Rattle.cgs_dickson.proofs.dickson.minimal_dickson.Goals as goal
use Rattle.cgs_dickson.proofs.dickson.minimal_dickson.Goals.{then-is_kept+in_ok-copy+in_ok-push, else-is_kept}

pub loop-i-preserved : goal.loop-i-preserved
loop-i-preserved c =
    elim c.if-is_kept.branch [
      | then-is_kept+in_ok-copy+in_ok-push w ↦
          let next = filter_passed (stays c.args.ring.now c.args.members.now) c.args.members.now c.loop-i.i
          c.get-g.result.now c.get-g.ensures (sym c.is_kept.ensures ∙ w.if-is_kept.true) in
          let more = w.kept-is ∙ (w.in_ok-push.ensures.ok ∙ ap (λ h. c.loop-i.kept ++ h ∷ []) w.in_ok-copy.ensures) in
          record {
            kept = more ∙ (ap (λ L. L ++ c.get-g.result.now ∷ []) c.loop-i.invariant.kept ∙ next);
            polys = each_kept (IsPoly c.args.ring.now) c.args.members.now c.loop-i.kept _ c.loop-i.i
                c.get-g.result.now c.get-g.ensures c.requires.polys more c.loop-i.invariant.polys;
            nonzero = each_kept (λ g. ¬ (g ≡ [])) c.args.members.now c.loop-i.kept _ c.loop-i.i
                c.get-g.result.now c.get-g.ensures c.requires.nonzero more c.loop-i.invariant.nonzero;
          }
      | else-is_kept w ↦
          let next = filter_failed (stays c.args.ring.now c.args.members.now) c.args.members.now c.loop-i.i
          c.get-g.result.now c.get-g.ensures (sym c.is_kept.ensures ∙ w.if-is_kept.false) in
          record {
            kept = w.kept-is ∙ (c.loop-i.invariant.kept ∙ next);
            polys = subst (λ L. ArePolys c.args.ring.now L) (sym w.kept-is) c.loop-i.invariant.polys;
            nonzero = subst (λ L. AllByRecursion (λ g. ¬ (g ≡ [])) L) (sym w.kept-is) c.loop-i.invariant.nonzero;
          }
    ]
