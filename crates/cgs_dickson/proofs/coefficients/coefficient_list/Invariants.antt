use Rattle.std.proofs.Common.{◌≡◌, take}
use Rattle.std.specs.List.{AllByRecursion}
use Rattle.cgs_poly.specs.Parameters.{IsCondition}
use Rattle.cgs_dickson.specs.Dickson.{coefficient_list}
use Rattle.cgs_dickson.proofs.coefficients.coefficient_list.Given as goal

abbrev pub invariant-loop-i : goal.invariant-loop-i
invariant-loop-i l = record { list : l.list ≡ coefficient_list l.ring (take l.i l.members); conditions : AllByRecursion (IsCondition l.ring) l.list }
