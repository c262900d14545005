-- The laws of exact lists, as facts.
use Rattle.std.specs.Prelude.{◌≡◌, ℕ, List}
use Rattle.std.specs.List.{AllByRecursion}
use Rattle.cgs_poly.specs.Ring.{Ring}
use Rattle.cgs_poly.specs.Polynomial.{Term, IsRing, IsCanonical}
use Rattle.cgs_algebra.specs.Specialisation.{IsParametric}
use Rattle.cgs_entry.specs.declared.entry.Entry.{Entry}
use Rattle.cgs_entry.specs.Entries.{IsComprehensive}
use Rattle.cgs_split.specs.declared.kind.Limits.{Limits}
use Rattle.cgs_split.specs.Laws.{entry_list}
use Rattle.cgs_system.specs.ExactList.{IsExactList, IsTested}
use Rattle.cgs_system.specs.Joining.{joined, HasComprehensivePart, IsTestedOrHasExactPart}

-- a problem has at most one exact list
abbrev pub ExactListIsUnique : Type 0
ExactListIsUnique =
    (ring : Ring) (zero nonzero polys : List (List Term)) (first second : List Entry) → IsRing ring → IsExactList ring zero nonzero polys first
    → IsExactList ring zero nonzero polys second → first ≡ second

-- a list that no limit touched is the exact one
abbrev pub TestedListIsExact : Type 0
TestedListIsExact =
    (ring : Ring) (limits : Limits) (zero nonzero polys : List (List Term)) → IsRing ring → AllByRecursion (IsParametric ring) zero
    → AllByRecursion (IsParametric ring) nonzero → AllByRecursion (IsCanonical ring) polys
    → AllByRecursion IsTested (entry_list ring limits zero nonzero polys) → IsExactList ring zero nonzero polys (entry_list ring limits zero nonzero polys)

-- two lists that no limit touched are the same, whatever the limits were
abbrev pub TestedListsAgree : Type 0
TestedListsAgree =
    (ring : Ring) (these those : Limits) (zero nonzero polys : List (List Term)) → IsRing ring → AllByRecursion (IsParametric ring) zero
    → AllByRecursion (IsParametric ring) nonzero → AllByRecursion (IsCanonical ring) polys
    → AllByRecursion IsTested (entry_list ring these zero nonzero polys) → AllByRecursion IsTested (entry_list ring those zero nonzero polys)
    → entry_list ring these zero nonzero polys ≡ entry_list ring those zero nonzero polys

-- the exact list is comprehensive
abbrev pub ExactListIsComprehensive : Type 0
ExactListIsComprehensive =
    (ring : Ring) (zero nonzero polys : List (List Term)) (entries : List Entry) → IsRing ring → AllByRecursion (IsParametric ring) zero
    → AllByRecursion (IsParametric ring) nonzero → AllByRecursion (IsCanonical ring) polys → IsExactList ring zero nonzero polys entries
    → IsComprehensive ring zero nonzero polys entries

-- the list of the polynomials under an entry's conditions, within limits chosen by its path
abbrev pub part_of : Ring → (List ℕ → Limits) → List (List Term) → Entry → List Entry
part_of ring those polys entry = entry_list ring (those entry.path) entry.conditions.zero entry.conditions.nonzero polys

-- a comprehensive list, joined with comprehensive parts, is comprehensive
abbrev pub JoinedListIsComprehensive : Type 0
JoinedListIsComprehensive =
    (ring : Ring) (zero nonzero polys : List (List Term)) (part : Entry → List Entry) (entries : List Entry)
    → IsComprehensive ring zero nonzero polys entries → AllByRecursion (HasComprehensivePart ring polys part) entries
    → IsComprehensive ring zero nonzero polys (joined part entries)

-- a list within limits, joined with exact parts, is the exact one
abbrev pub JoinedListIsExact : Type 0
JoinedListIsExact =
    (ring : Ring) (limits : Limits) (zero nonzero polys : List (List Term)) (part : Entry → List Entry) → IsRing ring
    → AllByRecursion (IsParametric ring) zero → AllByRecursion (IsParametric ring) nonzero → AllByRecursion (IsCanonical ring) polys
    → AllByRecursion (IsTestedOrHasExactPart ring polys part) (entry_list ring limits zero nonzero polys)
    → IsExactList ring zero nonzero polys (joined part (entry_list ring limits zero nonzero polys))

-- so it is with lists within limits of their own, where no entry of the joined list is touched by one
abbrev pub TestedJoinIsExact : Type 0
TestedJoinIsExact =
    (ring : Ring) (limits : Limits) (those : List ℕ → Limits) (zero nonzero polys : List (List Term)) → IsRing ring
    → AllByRecursion (IsParametric ring) zero → AllByRecursion (IsParametric ring) nonzero → AllByRecursion (IsCanonical ring) polys
    → AllByRecursion IsTested (joined (part_of ring those polys) (entry_list ring limits zero nonzero polys))
    → IsExactList ring zero nonzero polys (joined (part_of ring those polys) (entry_list ring limits zero nonzero polys))
