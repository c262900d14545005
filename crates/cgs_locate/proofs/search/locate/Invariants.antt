use Rattle.std.proofs.Common.{◌≡◌, drop}
use Rattle.cgs_locate.specs.Located.{located, located_from}
use Rattle.cgs_locate.proofs.search.locate.Given as goal

abbrev pub invariant-loop-i : goal.invariant-loop-i
invariant-loop-i l = located_from l.i l.ring l.point (drop l.i l.entries) ≡ located l.ring l.point l.entries
