-- A list whose refused entries were solved apart, each as the problem with the entry's conditions.
use Rattle.std.specs.Prelude.{ℕ, cond, IsTrue, List, [], ◌∷◌, ◌++◌, map}
use Rattle.cgs_poly.specs.Ring.{Ring}
use Rattle.cgs_poly.specs.Polynomial.{Term}
use Rattle.cgs_entry.specs.declared.entry.Entry.{Entry}
use Rattle.cgs_entry.specs.declared.entry.EntryKind.TheVariants.{Solved, Refused}
use Rattle.cgs_entry.specs.Entries.{is_refused, IsComprehensive}
use Rattle.cgs_system.specs.ExactList.{IsExactList}

-- an entry with its path put behind another
abbrev pub behind : List ℕ → Entry → Entry
behind path entry = record { path = path ++ entry.path; conditions = entry.conditions; kind = entry.kind }

-- each refused entry replaced by the list of its part, behind the entry's path
abbrev pub joined : (Entry → List Entry) → List Entry → List Entry
joined part [] = []
joined part (entry ∷ entries) = cond (is_refused entry) (map (behind entry.path) (part entry)) (entry ∷ []) ++ joined part entries

-- the part of an entry, if that is refused, is comprehensive for the polynomials under the entry's conditions
abbrev pub HasComprehensivePart : Ring → List (List Term) → (Entry → List Entry) → Entry → Type 0
HasComprehensivePart ring polys part entry =
    IsTrue (is_refused entry) → IsComprehensive ring entry.conditions.zero entry.conditions.nonzero polys (part entry)

-- no limit touched the entry, or it is refused and its part is the exact list of the polynomials under the entry's conditions
abbrev pub IsTestedOrHasExactPart : Ring → List (List Term) → (Entry → List Entry) → Entry → Type 0
IsTestedOrHasExactPart ring polys part entry =
    elim entry.kind [
      | Solved basis tested ↦ IsTrue tested
      | Refused cause ↦ IsExactList ring entry.conditions.zero entry.conditions.nonzero polys (part entry)
    ]
