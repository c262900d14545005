-- What a problem may be.
use Rattle.std.specs.Prelude.{◌≡◌, ◌≤◌, ℕ, List, length, bytes_eq, IfSome}
use Rattle.std.specs.List.{AllByRecursion, IsDistinct}
use Rattle.cgs_exps.specs.Monomial.{degree}
use Rattle.cgs_poly.specs.Ring.{Ring}
use Rattle.cgs_poly.specs.Polynomial.{Term, IsRing, IsPoly, places, ArePolys}
use Rattle.cgs_poly.specs.Parameters.{IsCondition}
use Rattle.cgs_point.specs.Points.{IsPoint}
use Rattle.cgs_problem.specs.declared.problem.Problem.{Problem}

-- the greatest degree of a monomial that may be multiplied by one more variable
abbrev pub greatest_thesis_degree : ℕ
greatest_thesis_degree = 32766

-- a polynomial of the ring that leaves room for one more degree
pub record IsThesis (ring : Ring) (f : List Term) : Type 0 where
  pub poly : IsPoly ring f
  pub low : AllByRecursion (λ (x : Term). degree x.exponents ≤ greatest_thesis_degree) f

-- a ring, one name for each variable and then for each parameter, no two of them equal, and polynomials and points of the ring
pub record IsProblem (problem : Problem) : Type 0 where
  pub ring : IsRing problem.ring
  pub named : length problem.names ≡ places problem.ring
  pub distinct : IsDistinct bytes_eq problem.names
  pub zero : AllByRecursion (IsCondition problem.ring) problem.zero
  pub nonzero : AllByRecursion (IsCondition problem.ring) problem.nonzero
  pub polys : ArePolys problem.ring problem.polys
  pub thesis : IfSome problem.thesis (IsThesis problem.ring)
  pub points : AllByRecursion (IsPoint problem.ring) problem.points
