use Rattle.std.proofs.Common.{◌≡◌, ◌++◌, drop}
use Rattle.std.specs.Prelude.{IfSome}
use Rattle.std.specs.List.{AllByRecursion}
use Rattle.cgs_poly.specs.Parameters.{IsCondition}
use Rattle.cgs_entry.specs.Conditions.{with_members}
use Rattle.cgs_split.specs.Cases.{IsVanishingBasis}
use Rattle.cgs_split.specs.Nodes.{unit_children}
use Rattle.cgs_split.proofs.branch.Branch.add_units.Given as goal

abbrev pub invariant-loop-i : goal.invariant-loop-i
invariant-loop-i l = record {
  made : l.all.items ++ unit_children l.ring l.self l.before l.nonzero (drop l.i l.parametric) ≡ l.fn.all.items
      ++ unit_children l.ring l.self l.zero l.nonzero l.parametric;
  whole : with_members l.ring l.before (drop l.i l.parametric) ≡ l.longer;
  kept : IfSome l.kept (λ v. IsVanishingBasis l.self.ring l.self.limits.budget l.before v.basis v.left);
  conditions : AllByRecursion (IsCondition l.ring) l.before;
}
