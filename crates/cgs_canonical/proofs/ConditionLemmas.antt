-- Conditions are polynomials of their ring.
use Rattle.std.proofs.Common.{List, [], ◌∷◌}
use Rattle.std.specs.List.{AllByRecursion}
use Rattle.cgs_poly.specs.Ring.{Ring}
use Rattle.cgs_poly.specs.Polynomial.{Term, ArePolys}
use Rattle.cgs_poly.specs.Parameters.{IsCondition}

pub conditions_polys : (ring : Ring) (list : List (List Term)) → AllByRecursion (IsCondition ring) list → ArePolys ring list
conditions_polys ring [] h = tt
conditions_polys ring (f ∷ list) h = (h.0.poly, conditions_polys ring list h.1)
