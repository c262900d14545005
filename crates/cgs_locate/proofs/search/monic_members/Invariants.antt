use Rattle.std.proofs.Common.{◌≡◌, take}
use Rattle.cgs_poly.specs.Polynomial.{ArePolys}
use Rattle.cgs_poly.specs.Parameters.{variables_ring}
use Rattle.cgs_locate.specs.Located.{basis_at}
use Rattle.cgs_locate.proofs.search.monic_members.Given as goal

abbrev pub invariant-loop-f : goal.invariant-loop-f
invariant-loop-f l = (l.list ≡ basis_at l.ring l.point (take l.f-index l.polys)) × ArePolys (variables_ring l.ring) l.list
