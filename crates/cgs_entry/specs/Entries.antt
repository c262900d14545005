-- The entries of a comprehensive Gröbner system, and when a list of them is one (Weispfenning 1992; Kapur, Sun, Wang 2010). The points are those
-- whose numbers are in the prime field.
use Rattle.std.specs.Prelude.{ℕ, ◌≡◌, Bool, true, false, cond, List, map, count_by}
use Rattle.std.specs.List.{AllByRecursion}
use Rattle.cgs_poly.specs.Ring.{Ring}
use Rattle.cgs_poly.specs.Polynomial.{Term, IsCanonical, ArePolys}
use Rattle.cgs_poly.specs.Parameters.{lc_x, variables_ring, IsCondition}
use Rattle.cgs_algebra.specs.Groebner.{IsMinimal}
use Rattle.cgs_algebra.specs.Specialisation.{specialised_list, IsParametric, NoneVanishes}
use Rattle.cgs_point.specs.Points.{IsPoint}
use Rattle.cgs_entry.specs.declared.entry.Entry.{Entry}
use Rattle.cgs_entry.specs.declared.entry.EntryKind.{EntryKind}
use Rattle.cgs_entry.specs.declared.entry.EntryKind.TheVariants.{Solved, Refused}
use Rattle.cgs_entry.specs.Conditions.{IsInRegion, is_in_region}

-- the basis, where there is one, is of the ring
abbrev pub IsFound : Ring → EntryKind → Type 0
IsFound ring (Solved basis tested) = ArePolys ring basis
IsFound ring (Refused cause) = Unit {0}

-- an entry over a ring: its conditions are in the parameters alone, and its basis is of the ring
pub record IsEntry (ring : Ring) (entry : Entry) : Type 0 where
  pub zero : AllByRecursion (IsCondition ring) entry.conditions.zero
  pub nonzero : AllByRecursion (IsCondition ring) entry.conditions.nonzero
  pub found : IsFound ring entry.kind

-- whether an entry has no basis
abbrev pub is_refused : Entry → Bool
is_refused entry = elim entry.kind [ Solved basis tested ↦ false | Refused cause ↦ true ]

-- at the point no leading coefficient of B is 0, and B becomes a minimal Gröbner basis of what F becomes
pub record IsBasisAt (ring : Ring) (point : List ℕ) (F B : List (List Term)) : Type 0 where
  pub leading : NoneVanishes ring point (map (lc_x ring) B)
  pub minimal : IsMinimal (variables_ring ring) (specialised_list ring point B) (specialised_list ring point F)

-- polynomials of the ring that are such a basis at each point of a region
pub record IsBasisOver (ring : Ring) (zero nonzero F B : List (List Term)) : Type 0 where
  pub canonical : AllByRecursion (IsCanonical ring) B
  pub at : (point : List ℕ) → IsPoint ring point → IsInRegion ring zero nonzero point → IsBasisAt ring point F B

-- what is found for a region: where it is a basis, one of what the polynomials become
abbrev pub Serves : Ring → List (List Term) → List (List Term) → List (List Term) → EntryKind → Type 0
Serves ring zero nonzero polys (Solved basis tested) = IsBasisOver ring zero nonzero polys basis
Serves ring zero nonzero polys (Refused cause) = Unit {0}

-- the conditions are polynomials of the ring in the parameters alone, and what is found for their region serves there
pub record IsSound (ring : Ring) (polys : List (List Term)) (entry : Entry) : Type 0 where
  pub zero : AllByRecursion (IsParametric ring) entry.conditions.zero
  pub nonzero : AllByRecursion (IsParametric ring) entry.conditions.nonzero
  pub serves : Serves ring entry.conditions.zero entry.conditions.nonzero polys entry.kind

-- the number of entries whose region has the point
abbrev pub entries_at : Ring → List ℕ → List Entry → ℕ
entries_at ring point entries = count_by (λ (entry : Entry). is_in_region ring entry.conditions.zero entry.conditions.nonzero point) entries

-- each point that meets the given conditions lies in exactly one entry, any other in none, and each entry is sound
pub record IsComprehensive (ring : Ring) (zero nonzero polys : List (List Term)) (entries : List Entry) : Type 0 where
  pub cover : (point : List ℕ) → IsPoint ring point → entries_at ring point entries ≡ cond (is_in_region ring zero nonzero point) 1 0
  pub sound : AllByRecursion (IsSound ring polys) entries
