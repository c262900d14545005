-- What contracts see of a branch.
use Rattle.std.specs.Prelude.{ℕ, ◌≡◌, List}
use Rattle.cgs_poly.specs.Ring.{Ring}
use Rattle.std.specs.List.{AllByRecursion}
use Rattle.cgs_poly.specs.Polynomial.{Term, IsRing, ArePolys}
use Rattle.cgs_poly.specs.Parameters.{IsCondition}
use Rattle.cgs_algebra.specs.Groebner.{AreMonic}
use Rattle.cgs_divide.specs.Ending.{ended}
use Rattle.cgs_radical.specs.EmptinessRun.{y_ring, vanishing_run}
use Rattle.cgs_split.specs.declared.kind.BranchKind.{BranchKind}
use Rattle.cgs_split.specs.declared.kind.Limits.{Limits}

-- polynomials, under the conditions that those of one list vanish and none of another does
pub record Case : Type 0 where
  pub ring : Ring
  pub limits : Limits
  pub kind : BranchKind
  pub zero : List (List Term)
  pub nonzero : List (List Term)
  pub polys : List (List Term)

abbrev pub case_of : Ring → Limits → BranchKind → List (List Term) → List (List Term) → List (List Term) → Case
case_of ring limits kind zero nonzero polys = record { ring = ring; limits = limits; kind = kind; zero = zero; nonzero = nonzero; polys = polys }

-- polynomials as a program keeps them, and conditions in the parameters alone
pub record IsPrepared (ring : Ring) (E N F : List (List Term)) : Type 0 where
  pub valid : IsRing ring
  pub zero : AllByRecursion (IsCondition ring) E
  pub nonzero : AllByRecursion (IsCondition ring) N
  pub polys : ArePolys ring F

-- another case in the same ring under the same limits
abbrev pub case_like : Case → BranchKind → List (List Term) → List (List Term) → List (List Term) → Case
case_like branch kind zero nonzero polys = case_of branch.ring branch.limits kind zero nonzero polys

-- B is the basis of the conditions E that have to vanish, found in a branch's units, of which so many are left
pub record IsVanishingBasis (ring : Ring) (budget : ℕ) (E B : List (List Term)) (left : ℕ) : Type 0 where
  pub found : vanishing_run ring E budget ≡ ended B left
  pub monic : AreMonic (y_ring ring) B
  pub polys : ArePolys (y_ring ring) B
