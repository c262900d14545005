use Rattle.std.proofs.Common.{take}
use Rattle.cgs_poly.proofs.ParameterLemmas.{HoldsPart}
use Rattle.cgs_poly.proofs.poly.Poly.lc_x.Given as goal

abbrev pub invariant-loop-i : goal.invariant-loop-i
invariant-loop-i l = HoldsPart l.ring l.x (take l.i l.f) l.part
