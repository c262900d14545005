-- The bounds of a monomial that is kept.
use Rattle.std.specs.Prelude.{ℕ, ◌≤◌, List, length}
use Rattle.cgs_exps.specs.declared.places.TheConstants.{MAX_DEGREE, MAX_PLACES}
use Rattle.cgs_exps.specs.Monomial.{degree}

-- at most 17 places, and a degree of at most 32767
pub record IsBounded (a : List ℕ) : Type 0 where
  pub places : length a ≤ MAX_PLACES
  pub small : degree a ≤ MAX_DEGREE
