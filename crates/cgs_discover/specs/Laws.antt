-- What a refutation shows.
use Rattle.std.specs.Prelude.{ℕ, ◌≡◌, ◌%◌, Some, List}
use Rattle.std.specs.List.{AllByRecursion}
use Rattle.cgs_poly.specs.Ring.{Ring}
use Rattle.cgs_poly.specs.Polynomial.{Term, total, one}
use Rattle.cgs_poly.specs.Parameters.{power_at, variables_ring, specialised}
use Rattle.cgs_algebra.specs.Combination.{IsMember}
use Rattle.cgs_algebra.specs.Specialisation.{specialised_list}
use Rattle.cgs_problem.specs.declared.problem.Problem.{Problem}
use Rattle.cgs_problem.specs.Problems.{IsProblem}
use Rattle.cgs_discover.specs.Refutation.{refuted}

-- the value of a polynomial in the variables alone, at a number for each variable
abbrev pub value_of : Ring → List ℕ → List Term → ℕ
value_of ring x f = total (λ m. power_at m x) f % ring.modulus

-- 1 is in the ideal of what the polynomials become at a point
abbrev pub HasOneAt : Ring → List ℕ → List (List Term) → Type 0
HasOneAt ring point F = IsMember (variables_ring ring) (specialised_list ring point F) (one (variables_ring ring))

-- what the polynomial becomes at the point is 0 at x
abbrev pub IsZeroAt : Ring → List ℕ → List ℕ → List Term → Type 0
IsZeroAt ring point x f = value_of ring x (specialised ring point f) ≡ 0

-- at each point where 1 is in the ideal of a problem's refutation, its thesis is 0 at every common zero of its polynomials
abbrev pub ThesisFollows : Type 0
ThesisFollows =
    (problem : Problem) (T : List Term) (point x : List ℕ) → IsProblem problem → problem.thesis ≡ Some T
    → HasOneAt (refuted problem T).ring point (refuted problem T).polys → AllByRecursion (IsZeroAt problem.ring point x) problem.polys
    → IsZeroAt problem.ring point x T
