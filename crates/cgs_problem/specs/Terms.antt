-- A polynomial term by term.
use Rattle.std.specs.Prelude.{◌≡◌, ◌<◌, ◌≤◌, List, [], ◌∷◌, length}
use Rattle.std.specs.List.{AllByRecursion}
use Rattle.cgs_exps.specs.Monomial.{degree}
use Rattle.cgs_poly.specs.Ring.{Ring}
use Rattle.cgs_poly.specs.Polynomial.{Term, StartsBelow, places, greatest_degree}
use Rattle.cgs_problem.specs.Problems.{greatest_thesis_degree}

-- a term that a polynomial of the ring may have
pub record IsTermOf (ring : Ring) (x : Term) : Type 0 where
  pub positive : 0 < x.coefficient
  pub below : x.coefficient < ring.modulus
  pub long : length x.exponents ≡ places ring
  pub low : degree x.exponents ≤ greatest_degree

-- each monomial is below the one before it
abbrev pub Falls : Ring → List Term → Type 0
Falls ring [] = Unit {0}
Falls ring (x ∷ f) = StartsBelow ring x.exponents f × Falls ring f

-- each degree leaves room for one more
abbrev pub HasRoom : List Term → Type 0
HasRoom f = AllByRecursion (λ (x : Term). degree x.exponents ≤ greatest_thesis_degree) f
