-- What the printed lists, bases and places tell, as facts: no two of them have one text.
use Rattle.std.specs.Prelude.{ℕ, ◌≡◌, ◌<◌, ◌^◌, Option, Some, None, Ok, List, map, slice_get}
use Rattle.std.specs.List.{AllByRecursion}
use Rattle.cgs_poly.specs.Ring.{Ring}
use Rattle.cgs_poly.specs.Polynomial.{Term, ArePolys}
use Rattle.cgs_entry.specs.declared.entry.Cause.{Cause}
use Rattle.cgs_entry.specs.declared.entry.Entry.{Entry}
use Rattle.cgs_entry.specs.declared.entry.EntryKind.{EntryKind}
use Rattle.cgs_entry.specs.declared.entry.EntryKind.TheVariants.{Solved, Refused}
use Rattle.cgs_entry.specs.Bases.{basis_of}
use Rattle.cgs_entry.specs.Entries.{IsEntry}
use Rattle.cgs_locate.specs.declared.search.Located.{Located}
use Rattle.cgs_locate.specs.Located.{basis_at, located}
use Rattle.cgs_problem.specs.declared.problem.Problem.{Problem}
use Rattle.cgs_problem.specs.Reading.{problem_spelled}
use Rattle.cgs_print.specs.Printing.{basis_text, list_text}
use Rattle.cgs_print.specs.Locating.{located_text}

-- an entry of the ring, each number of its path one of a machine
pub record IsPrintable (ring : Ring) (entry : Entry) : Type 0 where
  pub of_ring : IsEntry ring entry
  pub path : AllByRecursion (λ number. number < 2 ^ 64) entry.path

abbrev pub ArePrintable : Ring → List Entry → Type 0
ArePrintable ring entries = AllByRecursion (IsPrintable ring) entries

-- two lists with one text are equal: paths, conditions, bases, what was tested, and causes
abbrev pub ListsAreTold : Type 0
ListsAreTold =
    (bytes : List ℕ) (problem : Problem) (entries others : List Entry) → problem_spelled bytes ≡ Ok problem
    → ArePrintable problem.ring entries → ArePrintable problem.ring others
    → list_text problem entries ≡ list_text problem others → entries ≡ others

-- so are two bases
abbrev pub BasesAreTold : Type 0
BasesAreTold =
    (bytes : List ℕ) (problem : Problem) (basis other : List (List Term)) → problem_spelled bytes ≡ Ok problem
    → ArePolys problem.ring basis → ArePolys problem.ring other
    → basis_text problem basis ≡ basis_text problem other → basis ≡ other

-- why an entry has no basis
abbrev pub cause_of : EntryKind → Option Cause
cause_of (Solved basis tested) = None
cause_of (Refused cause) = Some cause

-- where a point lies: the path of its entry, why that has no basis, and the basis at the point
pub record Place : Type 0 where
  pub path : List ℕ
  pub cause : Option Cause
  pub basis : List (List Term)

-- a point in an entry
abbrev pub place_in : Ring → List ℕ → Option Entry → Option Place
place_in ring point None = None
place_in ring point (Some entry) = Some (record { path = entry.path; cause = cause_of entry.kind; basis = basis_at ring point (basis_of entry.kind) })

-- in the entry that was found, if there is one
abbrev pub place_found : Ring → List ℕ → List Entry → Option Located → Option Place
place_found ring point entries None = None
place_found ring point entries (Some found) = place_in ring point (slice_get entries found.index)

-- in the first entry that has it
abbrev pub place_of : Ring → List Entry → List ℕ → Option Place
place_of ring entries point = place_found ring point entries (located ring point entries)

-- two lists of which one text tells where the points lie have them at the same places
abbrev pub PlacesAreTold : Type 0
PlacesAreTold =
    (bytes : List ℕ) (problem : Problem) (entries others : List Entry) → problem_spelled bytes ≡ Ok problem
    → ArePrintable problem.ring entries → ArePrintable problem.ring others
    → located_text problem entries ≡ located_text problem others
    → map (place_of problem.ring entries) problem.points ≡ map (place_of problem.ring others) problem.points
