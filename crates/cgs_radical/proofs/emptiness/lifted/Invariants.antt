use Rattle.std.proofs.Common.{◌≡◌, take}
use Rattle.cgs_poly.specs.Polynomial.{ArePolys}
use Rattle.cgs_radical.specs.EmptinessRun.{with_y}
use Rattle.cgs_radical.proofs.emptiness.lifted.Given as goal

abbrev pub invariant-loop-i : goal.invariant-loop-i
invariant-loop-i l = record { lifted : l.polys ≡ with_y l.ring (take l.i l.list); polys : ArePolys l.above l.polys }
