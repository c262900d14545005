use Rattle.std.proofs.Common.{◌≡◌, drop}
use Rattle.std.specs.List.{AllByRecursion}
use Rattle.cgs_poly.specs.Parameters.{IsCondition}
use Rattle.cgs_entry.specs.Conditions.{with_members}
use Rattle.cgs_split.proofs.lists.with_conditions.Given as goal

abbrev pub invariant-loop-i : goal.invariant-loop-i
invariant-loop-i l = record {
  same : with_members l.ring l.longer (drop l.i l.more) ≡ with_members l.ring l.initial.longer l.more;
  all : AllByRecursion (IsCondition l.ring) l.longer;
}
