-- The exact list of a*x - 1 modulo 7, in x with the parameter a, lists that are not exact, and lists that are joined.
use Rattle.std.specs.Prelude.{◌≡◌, true, List, [], ◌∷◌, map}
use Rattle.cgs_entry.specs.declared.entry.Cause.TheVariants.{Budget}
use Rattle.cgs_entry.specs.declared.entry.Entry.{Entry}
use Rattle.cgs_entry.specs.declared.entry.EntryKind.TheVariants.{Solved}
use Rattle.cgs_entry.specs.Entries.{IsComprehensive}
use Rattle.cgs_entry.specs.Examples.{seven, only_a, one, line, solved}
use Rattle.cgs_split.specs.Examples.{list_of, refused, untested}
use Rattle.cgs_system.specs.ExactList.{IsExactList}
use Rattle.cgs_system.specs.Joining.{behind, joined}

-- where a is not 0 the line itself, and where a is 0 the basis 1
abbrev pub where_a_stands : Entry
where_a_stands = solved 0 [] (only_a ∷ []) (line ∷ [])

abbrev pub where_a_vanishes : Entry
where_a_vanishes = solved 1 (only_a ∷ []) [] (one ∷ [])

-- the list is the exact one of the line under no condition
abbrev pub IsExactForLine : List Entry → Type 0
IsExactForLine entries = IsExactList seven [] [] (line ∷ []) entries

abbrev pub LineListIsExact : Type 0
LineListIsExact = IsExactForLine (where_a_stands ∷ where_a_vanishes ∷ [])

-- without the second entry
abbrev pub GapIsRefused : Type 0
GapIsRefused = ¬ (IsExactForLine (where_a_stands ∷ []))

-- the other way round, though comprehensive
abbrev pub OtherOrderIsRefused : Type 0
OtherOrderIsRefused = ¬ (IsExactForLine (where_a_vanishes ∷ where_a_stands ∷ []))

-- with an entry whose region may be empty
abbrev pub UntestedIsRefused : Type 0
UntestedIsRefused = ¬ (IsExactForLine (where_a_stands ∷ untested 1 (only_a ∷ []) [] (one ∷ []) ∷ []))

-- the list with six units, in which where a is 0 was refused, and the list where a is 0
abbrev pub cut : List Entry
cut = where_a_stands ∷ refused (1 ∷ []) (only_a ∷ []) [] Budget ∷ []

abbrev pub part : List Entry
part = record { path = []; conditions = record { zero = only_a ∷ []; nonzero = [] }; kind = Solved (one ∷ []) true } ∷ []

-- they are runs, and joined they are the exact list
abbrev pub PartIsJoined : Type 0
PartIsJoined =
    (list_of 6 64 [] [] (line ∷ []) ≡ cut) × (list_of 100 64 (only_a ∷ []) [] (line ∷ []) ≡ part)
    × (joined (λ entry. part) cut ≡ where_a_stands ∷ where_a_vanishes ∷ [])

-- the list is comprehensive for the line under no condition
abbrev pub IsComprehensiveForLine : List Entry → Type 0
IsComprehensiveForLine entries = IsComprehensive seven [] [] (line ∷ []) entries

-- without the part where a is 0 is in no entry
abbrev pub PartLeftOutIsRefused : Type 0
PartLeftOutIsRefused = ¬ (IsComprehensiveForLine (joined (λ entry. []) cut))

-- with the list where a is not 0 in its place, the points of that are in two entries
abbrev pub OtherConditionsAreRefused : Type 0
OtherConditionsAreRefused = ¬ (IsComprehensiveForLine (joined (λ entry. where_a_stands ∷ []) cut))

-- behind another path the part makes a list that is comprehensive and not exact
abbrev pub OtherPathIsRefused : Type 0
OtherPathIsRefused = ¬ (IsExactForLine (where_a_stands ∷ map (behind (2 ∷ [])) part))
