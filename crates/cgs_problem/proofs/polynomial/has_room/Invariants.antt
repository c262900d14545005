use Rattle.std.proofs.Common.{◌↔◌, drop}
use Rattle.cgs_problem.specs.Terms.{HasRoom}
use Rattle.cgs_problem.proofs.polynomial.has_room.Given as goal

abbrev pub invariant-loop-i : goal.invariant-loop-i
invariant-loop-i l = HasRoom (drop l.i l.f) ↔ HasRoom l.f
