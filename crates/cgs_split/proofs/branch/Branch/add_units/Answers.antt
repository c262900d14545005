use Rattle.std.proofs.Common.{◌≡◌, ◌+◌, length, drop, sym, ap, ◌∙◌, subst}
use Rattle.std.specs.Prelude.{IfSome}
use Rattle.std.specs.List.{AllByRecursion}
use Rattle.cgs_poly.specs.Parameters.{IsCondition}
use Rattle.cgs_entry.specs.Conditions.{with_member, with_members}
use Rattle.cgs_list.proofs.ListLemmas.{all_at}
use Rattle.cgs_split.specs.declared.kind.BranchKind.TheVariants.{Unit as UnitKind}
use Rattle.cgs_split.specs.Cases.{case_like, IsVanishingBasis}
use Rattle.cgs_split.proofs.PrefixLemmas.{first_were_there, whole_after}
use Rattle.cgs_split.proofs.ChildLemmas.{unit_step}
use Rattle.cgs_split.proofs.branch.Branch.add_units.Goals as goal
use Rattle.cgs_split.proofs.branch.Branch.add_units.Goals.{In_ok-vanish}

pub add-requires-clause-poly : goal.add-requires-clause-poly
add-requires-clause-poly c = (all_at (IsCondition c.args.ring.now) c.args.parametric.now c.loop-i.i c.get-g.result.now c.requires.parametric
    c.get-g.ensures).poly

-- the conditions that have to vanish are those before
same : (c : In_ok-vanish) → c.in_ok-vanish.vanish ≡ c.loop-i.before
same c =
    c.in_ok-vanish.ensures
    ∙ first_were_there c.args.ring.now c.loop-i.before (drop c.loop-i.i c.args.parametric.now) c.args.longer.now c.len.result c.loop-i.invariant.whole
    (c.len.ensures ∙ ap length c.members.ensures)

conditions : (c : In_ok-vanish) → AllByRecursion (IsCondition c.args.self.now.ring) c.in_ok-vanish.vanish
conditions c =
    subst (λ ring. AllByRecursion (IsCondition ring) c.in_ok-vanish.vanish) c.requires.ring
    (subst (λ L. AllByRecursion (IsCondition c.args.ring.now) L) (sym (same c)) c.loop-i.invariant.conditions)

pub loop-i-preserved : goal.loop-i-preserved
loop-i-preserved c =
    let g = all_at (IsCondition c.args.ring.now) c.args.parametric.now c.loop-i.i c.get-g.result.now c.requires.parametric c.get-g.ensures in
    let made = c.child.ensures
    ∙ (ap (λ E. case_like c.args.self.now UnitKind E c.in_ok-stand.stand c.in_ok-polys.polys) (same (goal.at.loop-i-preserved c).In_ok-vanish)
    ∙ (ap (λ N. case_like c.args.self.now UnitKind c.loop-i.before N c.in_ok-polys.polys) c.in_ok-stand.ensures.added
    ∙ ap (λ F. case_like c.args.self.now UnitKind c.loop-i.before (with_member c.args.ring.now c.args.nonzero.now c.get-g.result.now) F)
    c.in_ok-polys.ensures.ok)) in
    record {
      made = unit_step c.args.ring.now c.args.self.now c.loop-i.i c.loop-i.all.items c.push.new.self.items c.child.result c.in_ok-push.ensures.items
          c.loop-i.before c.args.nonzero.now c.args.parametric.now c.add.new.self c.get-g.result.now c.get-g.ensures made c.in_ok-add.ensures.ok
          ∙ c.loop-i.invariant.made;
      whole = ap (λ L. with_members c.args.ring.now L (drop (c.loop-i.i + 1) c.args.parametric.now)) c.in_ok-add.ensures.ok
          ∙ whole_after c.args.ring.now c.loop-i.before c.args.parametric.now c.args.longer.now c.loop-i.i c.get-g.result.now c.get-g.ensures
          c.loop-i.invariant.whole;
      kept = subst (λ L. IfSome c.in_ok-own.next (λ v. IsVanishingBasis c.args.self.now.ring c.args.self.now.limits.budget L v.basis v.left))
          c.members-in-loop-i.ensures c.in_ok-own.ensures.1;
      conditions = c.in_ok-add.ensures.conditions c.loop-i.invariant.conditions g;
    }

pub child-requires-clause-zero : goal.child-requires-clause-zero
child-requires-clause-zero c = conditions (goal.at.child-requires-clause-zero c).In_ok-vanish

pub vanishing_of_next-requires-clause-zero : goal.vanishing_of_next-requires-clause-zero
vanishing_of_next-requires-clause-zero c = conditions (goal.at.vanishing_of_next-requires-clause-zero c).In_ok-vanish

pub vanishing_of_next-requires-clause-known : goal.vanishing_of_next-requires-clause-known
vanishing_of_next-requires-clause-known c =
    subst (λ L. IfSome c.loop-i.kept (λ v. IsVanishingBasis c.args.self.now.ring c.args.self.now.limits.budget L v.basis v.left))
    (sym (same (goal.at.vanishing_of_next-requires-clause-known c).In_ok-vanish)) c.loop-i.invariant.kept
