use Rattle.std.proofs.Common.{◌≡◌, drop}
use Rattle.cgs_poly.specs.Parameters.{has_no_variables}
use Rattle.cgs_poly.proofs.poly.Poly.has_no_variables.Given as goal

abbrev pub invariant-loop-i : goal.invariant-loop-i
invariant-loop-i l = has_no_variables l.ring (drop l.i l.self) ≡ has_no_variables l.ring l.self
