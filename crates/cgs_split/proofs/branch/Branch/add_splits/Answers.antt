use Rattle.std.proofs.Common.{◌+◌, length, drop, sym, ap, ◌∙◌, subst}
use Rattle.std.specs.List.{AllByRecursion}
use Rattle.cgs_poly.specs.Parameters.{IsCondition}
use Rattle.cgs_entry.specs.Conditions.{with_member, with_members}
use Rattle.cgs_list.proofs.ListLemmas.{all_at}
use Rattle.cgs_split.specs.declared.kind.BranchKind.TheVariants.{Split}
use Rattle.cgs_split.specs.Cases.{case_like}
use Rattle.cgs_split.proofs.PrefixLemmas.{first_were_there, whole_after}
use Rattle.cgs_split.proofs.ChildLemmas.{split_step}
use Rattle.cgs_split.proofs.branch.Branch.add_splits.Goals as goal

pub add-requires-clause-poly : goal.add-requires-clause-poly
add-requires-clause-poly c = (all_at (IsCondition c.args.ring.now) c.args.coefficients.now c.loop-i.i c.get-h.result.now c.requires.coefficients
    c.get-h.ensures).poly

pub loop-i-preserved : goal.loop-i-preserved
loop-i-preserved c =
    let h = all_at (IsCondition c.args.ring.now) c.args.coefficients.now c.loop-i.i c.get-h.result.now c.requires.coefficients c.get-h.ensures in
    let kept = c.in_ok-stand.ensures
    ∙ first_were_there c.args.ring.now c.loop-i.before (drop c.loop-i.i c.args.coefficients.now) c.args.standing.now c.len.result c.loop-i.invariant.whole
    (c.len.ensures ∙ ap length c.members.ensures) in
    let made = c.child.ensures
    ∙ (ap (λ E. case_like c.args.self.now Split E c.in_ok-stand.stand c.in_ok-polys.polys) c.in_ok-vanish.ensures.added
    ∙ (ap (λ N. case_like c.args.self.now Split (with_member c.args.ring.now c.args.parametric.now c.get-h.result.now) N c.in_ok-polys.polys)
    kept
    ∙ ap (λ F. case_like c.args.self.now Split (with_member c.args.ring.now c.args.parametric.now c.get-h.result.now) c.loop-i.before F)
    c.in_ok-polys.ensures)) in
    record {
      made = split_step c.args.ring.now c.args.self.now c.loop-i.i c.loop-i.all.items c.push.new.self.items c.child.result c.in_ok-push.ensures.items
          c.args.parametric.now c.loop-i.before c.args.other.now c.args.coefficients.now c.add.new.self c.get-h.result.now c.get-h.ensures made
          c.in_ok-add.ensures.ok
          ∙ c.loop-i.invariant.made;
      whole = ap (λ L. with_members c.args.ring.now L (drop (c.loop-i.i + 1) c.args.coefficients.now)) c.in_ok-add.ensures.ok
          ∙ whole_after c.args.ring.now c.loop-i.before c.args.coefficients.now c.args.standing.now c.loop-i.i c.get-h.result.now c.get-h.ensures
          c.loop-i.invariant.whole;
      conditions = c.in_ok-add.ensures.conditions c.loop-i.invariant.conditions h;
    }

pub child-requires-clause-nonzero : goal.child-requires-clause-nonzero
child-requires-clause-nonzero c =
    let kept = c.in_ok-stand.ensures
    ∙ first_were_there c.args.ring.now c.loop-i.before (drop c.loop-i.i c.args.coefficients.now) c.args.standing.now c.len.result c.loop-i.invariant.whole
    (c.len.ensures ∙ ap length c.members.ensures) in
    subst (λ ring. AllByRecursion (IsCondition ring) c.in_ok-stand.stand) c.requires.ring
    (subst (λ L. AllByRecursion (IsCondition c.args.ring.now) L) (sym kept) c.loop-i.invariant.conditions)
