-- What locating a point tells, and more so in a comprehensive list.
use Rattle.std.specs.Prelude.{ℕ, ◌≡◌, ◌<◌, ◌↔◌, false, Some, None, List, slice_get}
use Rattle.cgs_poly.specs.Ring.{Ring}
use Rattle.cgs_poly.specs.Polynomial.{Term, IsRing}
use Rattle.cgs_poly.specs.Parameters.{variables_ring}
use Rattle.cgs_algebra.specs.Groebner.{AreMonic, IsMinimal}
use Rattle.cgs_algebra.specs.Specialisation.{specialised_list}
use Rattle.cgs_point.specs.Points.{IsPoint}
use Rattle.cgs_entry.specs.declared.entry.Entry.{Entry}
use Rattle.cgs_entry.specs.Bases.{basis_of}
use Rattle.cgs_entry.specs.Conditions.{IsInRegion}
use Rattle.cgs_entry.specs.Entries.{is_refused, IsComprehensive}
use Rattle.cgs_entry.specs.Laws.{LiesAt}
use Rattle.cgs_locate.specs.declared.search.Located.{Located}
use Rattle.cgs_locate.specs.Located.{basis_at, located}

-- the entry at the index has the point, none before it has, and the basis is the entry's at the point
pub record IsFirst (ring : Ring) (entries : List Entry) (point : List ℕ) (found : Located) : Type 0 where
  pub lies : LiesAt ring entries point found.index
  pub basis : found.basis ≡ basis_at ring point (basis_of lies.entry.kind)
  pub before : (place : ℕ) → place < found.index → ¬ LiesAt ring entries point place

-- so it is with what is found
abbrev pub FoundIsFirst : Type 0
FoundIsFirst =
    (ring : Ring) (entries : List Entry) (point : List ℕ) (found : Located)
    → located ring point entries ≡ Some found → IsFirst ring entries point found

-- and where nothing is found, no entry has the point
abbrev pub NoneHasPoint : Type 0
NoneHasPoint =
    (ring : Ring) (entries : List Entry) (point : List ℕ)
    → located ring point entries ≡ None → (place : ℕ) → ¬ LiesAt ring entries point place

-- in a comprehensive list a point is in no entry exactly where it violates the given conditions
abbrev pub NowhereOutside : Type 0
NowhereOutside =
    (ring : Ring) (zero nonzero polys : List (List Term)) (entries : List Entry) (point : List ℕ)
    → IsComprehensive ring zero nonzero polys entries → IsPoint ring point
    → (located ring point entries ≡ None) ↔ (¬ IsInRegion ring zero nonzero point)

-- a monic minimal Gröbner basis of what the polynomials become at the point
pub record IsMonicBasisAt (ring : Ring) (point : List ℕ) (polys basis : List (List Term)) : Type 0 where
  pub monic : AreMonic (variables_ring ring) basis
  pub minimal : IsMinimal (variables_ring ring) basis (specialised_list ring point polys)

-- what is found in a comprehensive list, unless its entry is refused, is one
abbrev pub BasisServes : Type 0
BasisServes =
    (ring : Ring) (zero nonzero polys : List (List Term)) (entries : List Entry) (point : List ℕ) (entry : Entry) (found : Located)
    → IsRing ring → IsComprehensive ring zero nonzero polys entries → IsPoint ring point
    → located ring point entries ≡ Some found → slice_get entries found.index ≡ Some entry → is_refused entry ≡ false
    → IsMonicBasisAt ring point polys found.basis
