-- The laws of the emptiness run, as facts.
use Rattle.std.specs.Prelude.{ℕ, ◌≡◌, ◌↔◌, Bool, true, IsTrue, List, [], ◌∷◌, ◌++◌}
use Rattle.std.specs.List.{AllByRecursion}
use Rattle.cgs_poly.specs.Ring.{Ring}
use Rattle.cgs_poly.specs.Polynomial.{one, Term, IsRing, IsCanonical}
use Rattle.cgs_poly.specs.Product.{all_products}
use Rattle.cgs_algebra.specs.Combination.{IsMember}
use Rattle.cgs_algebra.specs.Groebner.{IsReduced}
use Rattle.cgs_point.specs.Points.{IsPoint}
use Rattle.cgs_algebra.specs.Specialisation.{IsParametric}
use Rattle.cgs_entry.specs.Conditions.{IsInRegion}
use Rattle.cgs_divide.specs.Ending.{ended}
use Rattle.cgs_basis.specs.BasisRun.{basis_run}
use Rattle.cgs_radical.specs.EmptinessRun.{BasisRun, y_ring, with_y, y_times_less_one, emptiness_by, emptiness_run}

-- the run finds reduced Gröbner bases
pub record FindsBases (basis : BasisRun) : Type 0 where
  pub reduced : (ring : Ring) (units left : ℕ) (F G : List (List Term)) → IsRing ring
      → AllByRecursion (IsCanonical ring) F → basis ring F units ≡ ended G left → IsReduced ring G F

-- the product of a list
abbrev pub product_of : Ring → List (List Term) → List Term
product_of ring [] = one ring
product_of ring (n ∷ N) = all_products n (product_of ring N)

-- 1 is in the ideal of E and y*n1*..*nk - 1
abbrev pub Contradict : Ring → List (List Term) → List (List Term) → Type 0
Contradict ring E N =
    IsMember (y_ring ring) (with_y ring E ++ y_times_less_one (y_ring ring) (product_of (y_ring ring) (with_y ring N)) ∷ []) (one (y_ring ring))

-- conditions that contradict each other have no point
abbrev pub ContradictionHasNoPoint : Type 0
ContradictionHasNoPoint =
    (ring : Ring) (E N : List (List Term)) (a : List ℕ) → IsRing ring → AllByRecursion (IsParametric ring) E → AllByRecursion (IsParametric ring) N
    → Contradict ring E N → ¬ (IsInRegion ring E N a)

-- a run that ends with a result says whether they do
abbrev pub RunsDecide : BasisRun → Type 0
RunsDecide basis =
    (ring : Ring) (E N : List (List Term)) (units left : ℕ) (empty : Bool) → IsRing ring
    → AllByRecursion (IsParametric ring) E → AllByRecursion (IsParametric ring) N
    → emptiness_by basis ring E N units ≡ ended empty left → IsTrue empty ↔ Contradict ring E N

abbrev pub EmptyIsContradiction : Type 0
EmptyIsContradiction = RunsDecide basis_run

-- where it ends with true, the region has no point
abbrev pub EmptyHasNoPoint : Type 0
EmptyHasNoPoint =
    (ring : Ring) (E N : List (List Term)) (units left : ℕ) (a : List ℕ) → IsRing ring
    → AllByRecursion (IsParametric ring) E → AllByRecursion (IsParametric ring) N
    → emptiness_run ring E N units ≡ ended true left → IsPoint ring a → ¬ (IsInRegion ring E N a)
