-- Worked examples: the entries of a*x - 1 modulo 7, in x with the parameter a, and lists that are none.
use Rattle.std.specs.Prelude.{ℕ, true, List, [], ◌∷◌}
use Rattle.cgs_order.specs.declared.kind.Kind.TheVariants.{Lex}
use Rattle.cgs_poly.specs.Ring.{Ring}
use Rattle.cgs_poly.specs.Polynomial.{Term, term}
use Rattle.cgs_entry.specs.declared.entry.Entry.{Entry}
use Rattle.cgs_entry.specs.declared.entry.EntryKind.TheVariants.{Solved}
use Rattle.cgs_entry.specs.Entries.{IsComprehensive}

abbrev pub seven : Ring
seven = record { modulus = 7; variables = 1; parameters = 1; kind = Lex }

-- a, x and 1
abbrev pub only_a : List Term
only_a = term 1 (0 ∷ 1 ∷ []) ∷ []

abbrev pub only_x : List Term
only_x = term 1 (1 ∷ 0 ∷ []) ∷ []

abbrev pub one : List Term
one = term 1 (0 ∷ 0 ∷ []) ∷ []

-- a*x - 1
abbrev pub line : List Term
line = term 1 (1 ∷ 1 ∷ []) ∷ term 6 (0 ∷ 0 ∷ []) ∷ []

-- a*(a*x - 1)
abbrev pub line_times_a : List Term
line_times_a = term 1 (1 ∷ 2 ∷ []) ∷ term 6 (0 ∷ 1 ∷ []) ∷ []

-- an entry with these conditions and this basis
abbrev pub solved : ℕ → List (List Term) → List (List Term) → List (List Term) → Entry
solved n zero nonzero basis = record { path = n ∷ []; conditions = record { zero = zero; nonzero = nonzero }; kind = Solved basis true }

-- where a is not 0 the line itself, and where a is 0 the basis 1
abbrev pub LineIsSolved : Type 0
LineIsSolved = IsComprehensive seven [] [] (line ∷ []) (solved 0 [] (only_a ∷ []) (line ∷ []) ∷ solved 1 (only_a ∷ []) [] (one ∷ []) ∷ [])

-- without the second entry the point 0 is in none
abbrev pub GapIsRefused : Type 0
GapIsRefused = ¬ (IsComprehensive seven [] [] (line ∷ []) (solved 0 [] (only_a ∷ []) (line ∷ []) ∷ []))

-- without its condition the second entry overlaps the first
abbrev pub OverlapIsRefused : Type 0
OverlapIsRefused = ¬ (IsComprehensive seven [] [] (line ∷ []) (solved 0 [] (only_a ∷ []) (line ∷ []) ∷ solved 1 [] [] (one ∷ []) ∷ []))

-- x is no Gröbner basis of the line at the point 0
abbrev pub WrongBasisIsRefused : Type 0
WrongBasisIsRefused = ¬ (IsComprehensive seven [] [] (line ∷ []) (solved 0 [] (only_a ∷ []) (line ∷ []) ∷ solved 1 (only_a ∷ []) [] (only_x ∷ []) ∷ []))

-- the line's leading coefficient is 0 at the point 0, so it does not serve everywhere
abbrev pub VanishingLeadIsRefused : Type 0
VanishingLeadIsRefused = ¬ (IsComprehensive seven [] [] (line ∷ []) (solved 0 [] [] (line ∷ []) ∷ []))

-- where a is not 0 the line times a has the same lead as the line, so that the two are not minimal
abbrev pub RepeatedLeadIsRefused : Type 0
RepeatedLeadIsRefused =
    ¬ (IsComprehensive seven [] [] (line ∷ []) (solved 0 [] (only_a ∷ []) (line ∷ line_times_a ∷ []) ∷ solved 1 (only_a ∷ []) [] (one ∷ []) ∷ []))

-- x*(a*x - 1)
abbrev pub line_times_x : List Term
line_times_x = term 1 (2 ∷ 1 ∷ []) ∷ term 6 (1 ∷ 0 ∷ []) ∷ []

-- nor are the line and the line times x: the first lead divides the second
abbrev pub DividedLeadIsRefused : Type 0
DividedLeadIsRefused =
    ¬ (IsComprehensive seven [] [] (line ∷ []) (solved 0 [] (only_a ∷ []) (line ∷ line_times_x ∷ []) ∷ solved 1 (only_a ∷ []) [] (one ∷ []) ∷ []))

-- the basis a*x + 6 + 7*x^9 where a is not 0, and 1 where a is 0: 7 is no coefficient modulo 7, and x^9 stands behind 1
abbrev pub line_with_zero : List Term
line_with_zero = term 1 (1 ∷ 1 ∷ []) ∷ term 6 (0 ∷ 0 ∷ []) ∷ term 7 (9 ∷ 0 ∷ []) ∷ []

abbrev pub NoCoefficientIsRefused : Type 0
NoCoefficientIsRefused =
    ¬ (IsComprehensive seven [] [] (line ∷ []) (solved 0 [] (only_a ∷ []) (line_with_zero ∷ []) ∷ solved 1 (only_a ∷ []) [] (one ∷ []) ∷ []))

-- the line with its terms the other way round: no point is a zero of 6, its first coefficient
abbrev pub line_turned : List Term
line_turned = term 6 (0 ∷ 0 ∷ []) ∷ term 1 (1 ∷ 1 ∷ []) ∷ []

abbrev pub TurnedTermsAreRefused : Type 0
TurnedTermsAreRefused = ¬ (IsComprehensive seven [] [] (line ∷ []) (solved 0 [] [] (line_turned ∷ []) ∷ []))

-- a*x, which has a variable, in the place of a among the conditions that stand, and among those that vanish
abbrev pub a_times_x : List Term
a_times_x = term 1 (1 ∷ 1 ∷ []) ∷ []

abbrev pub VariableInConditionIsRefused : Type 0
VariableInConditionIsRefused =
    ¬ (IsComprehensive seven [] [] (line ∷ []) (solved 0 [] (a_times_x ∷ []) (line ∷ []) ∷ solved 1 (only_a ∷ []) [] (one ∷ []) ∷ []))
    × ¬ (IsComprehensive seven [] [] (line ∷ []) (solved 0 [] (only_a ∷ []) (line ∷ []) ∷ solved 1 (a_times_x ∷ []) [] (one ∷ []) ∷ []))
