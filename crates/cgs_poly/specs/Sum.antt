-- Terms that stand in the order of a canonical list.
use Rattle.std.specs.Prelude.{ℕ, zero, suc, List, [], ◌∷◌}
use Rattle.cgs_poly.specs.Ring.{Ring}
use Rattle.cgs_poly.specs.Polynomial.{Term, StartsBelow}

-- the monomial behind a place is below the one at it
abbrev pub FallsAfter : Ring → ℕ → List Term → Type 0
FallsAfter ring i [] = Unit {0}
FallsAfter ring zero (x ∷ f) = StartsBelow ring x.exponents f
FallsAfter ring (suc i) (x ∷ f) = FallsAfter ring i f
