use Rattle.std.proofs.Common.{◌≡◌, ◌++◌, drop}
use Rattle.std.specs.List.{AllByRecursion}
use Rattle.cgs_poly.specs.Parameters.{IsCondition}
use Rattle.cgs_entry.specs.Conditions.{with_members}
use Rattle.cgs_split.specs.Nodes.{split_children}
use Rattle.cgs_split.proofs.branch.Branch.add_splits.Given as goal

abbrev pub invariant-loop-i : goal.invariant-loop-i
invariant-loop-i l = record {
  made : l.all.items ++ split_children l.ring l.self l.parametric l.before l.other (drop l.i l.coefficients) ≡ l.fn.all.items
      ++ split_children l.ring l.self l.parametric l.nonzero l.other l.coefficients;
  whole : with_members l.ring l.before (drop l.i l.coefficients) ≡ l.standing;
  conditions : AllByRecursion (IsCondition l.ring) l.before;
}
