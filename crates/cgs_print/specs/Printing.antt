-- The printed text of bases, entries and faults.
use Rattle.std.specs.Prelude.{ℕ, ◌-◌, Bool, true, false, List, [], ◌∷◌, ◌++◌, length, count_by, codes, decimal}
use Rattle.std.specs.List.{flat_map, join_by}
use Rattle.cgs_poly.specs.Ring.{Ring}
use Rattle.cgs_poly.specs.Polynomial.{Term}
use Rattle.cgs_entry.specs.declared.conditions.Conditions.{Conditions}
use Rattle.cgs_entry.specs.declared.entry.Cause.{Cause}
use Rattle.cgs_entry.specs.declared.entry.Cause.TheVariants.{Budget, Degree, Depth}
use Rattle.cgs_entry.specs.declared.entry.Entry.{Entry}
use Rattle.cgs_entry.specs.declared.entry.EntryKind.{EntryKind}
use Rattle.cgs_entry.specs.declared.entry.EntryKind.TheVariants.{Solved, Refused}
use Rattle.cgs_entry.specs.Entries.{is_refused}
use Rattle.cgs_report.specs.declared.entry.Findings.{Findings}
use Rattle.cgs_report.specs.declared.standard.Standard.{Standard}
use Rattle.cgs_report.specs.declared.standard.Standard.TheVariants.{NotFinite, Many, Count}
use Rattle.cgs_report.specs.Report.{findings_of}
use Rattle.cgs_problem.specs.declared.problem.Problem.{Problem}
use Rattle.cgs_problem.specs.declared.fault.TextFault.{TextFault}
use Rattle.cgs_problem.specs.Faults as faults
use Rattle.cgs_canonical.specs.Printing.{polynomial_lines}

-- the line of the number of members
abbrev pub members_line : ℕ → List ℕ
members_line count = codes "members " ++ decimal count ++ codes "\n"

-- the lines of a basis, and the number of its members
abbrev pub basis_text : Problem → List (List Term) → List ℕ
basis_text problem basis = polynomial_lines (codes "basis") problem.ring problem.names basis ++ members_line (length basis)

-- the word of a cause
abbrev pub cause_word : Cause → List ℕ
cause_word Budget = codes "budget"
cause_word Degree = codes "degree"
cause_word Depth = codes "depth"

-- the line that tells why there is no basis
abbrev pub refusal_text : Cause → List ℕ
refusal_text cause = codes "refused " ++ cause_word cause ++ codes "\n"

-- the numbers of a path joined by full stops; a minus sign for the root's
abbrev pub path_text : List ℕ → List ℕ
path_text [] = codes "-"
path_text (number ∷ path) = join_by decimal (codes ".") (number ∷ path)

-- the first line of an entry: its path, and why it has no basis
abbrev pub head_line : Entry → List ℕ
head_line entry =
    elim entry.kind [
      | Solved basis tested ↦ codes "segment " ++ path_text entry.path ++ codes "\n"
      | Refused cause ↦ codes "refused " ++ path_text entry.path ++ codes " " ++ cause_word cause ++ codes "\n"
    ]

-- the lines of what has to vanish, and of what must not
abbrev pub conditions_text : Ring → List (List ℕ) → Conditions → List ℕ
conditions_text ring names conditions = polynomial_lines (codes "zero") ring names conditions.zero
    ++ polynomial_lines (codes "nonzero") ring names conditions.nonzero

-- the line that tells that the conditions were not tested to the end
abbrev pub untested_line : Bool → List ℕ
untested_line true = []
untested_line false = codes "untested\n"

-- the line of a keyword and a yes or a no
abbrev pub answer_line : List ℕ → Bool → List ℕ
answer_line keyword true = keyword ++ codes " yes\n"
answer_line keyword false = keyword ++ codes " no\n"

-- the line of the number of standard monomials
abbrev pub standard_line : Standard → List ℕ
standard_line NotFinite = codes "standard none\n"
standard_line Many = codes "standard many\n"
standard_line (Count count) = codes "standard " ++ decimal count ++ codes "\n"

-- the lines of what is told of a basis
abbrev pub findings_text : Findings → List ℕ
findings_text findings =
    answer_line (codes "solvable") findings.solvable ++ answer_line (codes "finite") findings.finite ++ standard_line findings.standard

-- the lines of a basis under conditions that were tested to the end or not
abbrev pub solved_text : Ring → List (List ℕ) → List (List Term) → Bool → List ℕ
solved_text ring names basis tested = untested_line tested ++ polynomial_lines (codes "basis") ring names basis

-- the lines of what was found
abbrev pub found_text : Ring → List (List ℕ) → EntryKind → List ℕ
found_text ring names (Solved basis tested) = solved_text ring names basis tested ++ findings_text (findings_of ring basis)
found_text ring names (Refused cause) = []

-- the lines of an entry
abbrev pub entry_text : Ring → List (List ℕ) → Entry → List ℕ
entry_text ring names entry = head_line entry ++ conditions_text ring names entry.conditions ++ found_text ring names entry.kind

-- the numbers of the entries with a basis and of those without
abbrev pub count_line : List Entry → List ℕ
count_line entries =
    codes "segments " ++ decimal (length entries - count_by is_refused entries) ++ codes " refused " ++ decimal (count_by is_refused entries) ++ codes "\n"

-- the lines of all entries in order, and their numbers
abbrev pub list_text : Problem → List Entry → List ℕ
list_text problem entries = flat_map (entry_text problem.ring problem.names) entries ++ count_line entries

-- the line that tells a fault
abbrev pub fault_text : TextFault → List ℕ
fault_text found = codes "fault line " ++ decimal found.line ++ codes " " ++ faults.word_of found.kind ++ codes "\n"
