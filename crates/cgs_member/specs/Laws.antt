-- The laws of the cases, as facts.
use Rattle.std.specs.Prelude.{ℕ, ◌≡◌, ◌%◌, ◌↔◌, false, List, [], ◌++◌, take}
use Rattle.std.specs.List.{AllByRecursion}
use Rattle.cgs_poly.specs.Ring.{Ring}
use Rattle.cgs_poly.specs.Polynomial.{Term, IsRing, IsPoly, ArePolys, SameCoefficients}
use Rattle.cgs_poly.specs.Product.{scaled}
use Rattle.cgs_poly.specs.Parameters.{variables_ring, specialised}
use Rattle.cgs_algebra.specs.Combination.{IsMember}
use Rattle.cgs_algebra.specs.Specialisation.{specialised_list, AllVanish}
use Rattle.cgs_point.specs.Points.{IsPoint}
use Rattle.cgs_divide.specs.Ending.{ended}
use Rattle.cgs_entry.specs.declared.entry.Entry.{Entry}
use Rattle.cgs_entry.specs.Bases.{basis_of}
use Rattle.cgs_entry.specs.Conditions.{IsInRegion}
use Rattle.cgs_entry.specs.Entries.{IsEntry, IsSound, IsBasisAt, is_refused}
use Rattle.cgs_member.specs.ReductionRun.{reduction, lead_divides}
use Rattle.cgs_member.specs.Cases.{cases_run}

-- no lead of B divides a monomial of r in the variables
abbrev pub IsUndivided : Ring → List (List Term) → List Term → Type 0
IsUndivided ring B r = AllByRecursion (λ x. AllByRecursion (λ b. lead_divides ring b (take ring.variables x.exponents) ≡ false) B) r

-- at the point, a multiple of f by a number other than 0 is r and a member of the ideal of P
pub record IsRemainderAt (ring : Ring) (a : List ℕ) (P : List (List Term)) (f r : List Term) : Type 0 where
  pub factor : ℕ
  pub some : ¬ (factor % ring.modulus ≡ 0)
  pub rest : List Term
  pub member : IsMember (variables_ring ring) (specialised_list ring a P) rest
  pub sum : SameCoefficients ring.modulus (scaled factor (specialised ring a f)) (specialised ring a r ++ rest)

-- where B becomes a basis of what P becomes, the reduction of f by B finds a remainder of f
abbrev pub ReductionReduces : Type 0
ReductionReduces =
    (ring : Ring) (B P : List (List Term)) (units left : ℕ) (f r : List Term) → IsRing ring → ArePolys ring B → IsPoly ring f
    → reduction ring B units f [] ≡ ended r left
    → IsUndivided ring B r × ((a : List ℕ) → IsBasisAt ring a P B → IsRemainderAt ring a P f r)

-- for each list of polynomials that an entry serves: at each point of its region f is a member of the specialised ideal exactly where all of
-- these polynomials are 0
abbrev pub DecideMembership : Ring → Entry → List Term → List (List Term) → Type 0
DecideMembership ring entry f cases =
    (polys : List (List Term)) (a : List ℕ) → IsSound ring polys entry → IsPoint ring a → IsInRegion ring entry.conditions.zero entry.conditions.nonzero a
    → IsMember (variables_ring ring) (specialised_list ring a polys) (specialised ring a f) ↔ AllVanish ring a cases

-- the cases of f over the basis of a solved entry do
abbrev pub CasesDecide : Type 0
CasesDecide =
    (ring : Ring) (entry : Entry) (units left : ℕ) (f : List Term) (cases : List (List Term))
    → IsRing ring → IsEntry ring entry → is_refused entry ≡ false → IsPoly ring f
    → cases_run ring (basis_of entry.kind) units f ≡ ended cases left → DecideMembership ring entry f cases
