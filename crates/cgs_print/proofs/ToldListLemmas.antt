-- A printed list of entries is read again, and so is a basis.
use Rattle.std.proofs.Common.{◌≡◌, ℕ, ◌-◌, ◌<◌, ◌^◌, Bool, true, false, List, [], ◌∷◌, ◌++◌, length, codes, decimal, flat_map}
use Rattle.std.proofs.Common.{Ok, refl, sym, ap, ◌∙◌, subst, arith, append_assoc, append-nil}
use Rattle.std.specs.List.{AllByRecursion, count_by}
use Rattle.cgs_poly.specs.Ring.{Ring}
use Rattle.cgs_poly.specs.Polynomial.{Term, ArePolys, greatest_degree}
use Rattle.cgs_entry.specs.declared.conditions.Conditions.{Conditions}
use Rattle.cgs_entry.specs.declared.entry.Cause.{Cause}
use Rattle.cgs_entry.specs.declared.entry.Cause.TheVariants.{Budget, Degree, Depth}
use Rattle.cgs_entry.specs.declared.entry.Entry.{Entry}
use Rattle.cgs_entry.specs.declared.entry.EntryKind.{EntryKind}
use Rattle.cgs_entry.specs.declared.entry.EntryKind.TheVariants.{Solved, Refused}
use Rattle.cgs_entry.specs.Bases.{basis_of}
use Rattle.cgs_entry.specs.Entries.{IsFound, is_refused}
use Rattle.cgs_report.specs.declared.entry.Findings.{Findings}
use Rattle.cgs_report.specs.declared.standard.Standard.{Standard}
use Rattle.cgs_report.specs.declared.standard.Standard.TheVariants.{NotFinite, Many, Count}
use Rattle.cgs_report.specs.Report.{findings_of}
use Rattle.cgs_problem.specs.declared.problem.Problem.{Problem}
use Rattle.cgs_problem.specs.Reading.{problem_spelled}
use Rattle.cgs_canonical.specs.Printing.{polynomial_lines}
use Rattle.cgs_print.specs.Printing.{cause_word, path_text, head_line, conditions_text, untested_line, answer_line, standard_line}
use Rattle.cgs_print.specs.Printing.{findings_text, found_text, entry_text, count_line, list_text, members_line, basis_text}
use Rattle.cgs_print.specs.Telling.{IsPrintable, ArePrintable, ListsAreTold, BasesAreTold}
use Rattle.cgs_canonical.proofs.ConditionLemmas.{conditions_polys}
use Rattle.cgs_canonical.proofs.LexemeLemmas.{Passes, passes_append, is_plain}
use Rattle.cgs_canonical.proofs.LineLemmas.{passing}
use Rattle.cgs_canonical.proofs.BodyLemmas.{reader_is, all_named}
use Rattle.cgs_canonical.proofs.SpelledLemmas.{spelled_valid}
use Rattle.cgs_print.proofs.ToldPathLemmas.{path_told, cause_told, path_plain, path_reads, cause_reads, decimal_plain}
use Rattle.cgs_print.proofs.ToldLineLemmas.{IsNamed, Told, fresh, headed, line_told, text_told, nothing_told, line_reads, zero_tells}
use Rattle.cgs_print.proofs.ToldLineLemmas.{nonzero_tells, basis_tells}

-- the first line of an entry

-- the kind of an entry, where its basis and what was tested are those that the lines after it tell
abbrev pub kind_told : EntryKind → Told → EntryKind
kind_told (Solved basis tested) told = Solved told.basis told.tested
kind_told (Refused cause) told = Refused cause

cause_plain : (cause : Cause) → Passes is_plain (cause_word cause)
cause_plain Budget = passing is_plain (codes "budget") refl
cause_plain Degree = passing is_plain (codes "degree") refl
cause_plain Depth = passing is_plain (codes "depth") refl

module _ (ring : Ring) (names : List (List ℕ)) where
  segment_tells : (path rest : List ℕ) → AllByRecursion (λ number. number < 2 ^ 64) path
      → text_told ring names (codes "segment " ++ path_text path ++ codes "\n" ++ rest)
      ≡ (let told = text_told ring names rest in headed told path (Solved told.basis told.tested))
  segment_tells path rest h =
      let told : Told = text_told ring names rest in
      let read : path_told (path_text path) ≡ path = ap path_told (sym (append-nil (path_text path))) ∙ path_reads path [] h tt in
      line_reads ring names (codes "segment " ++ path_text path) rest
      (passes_append is_plain (codes "segment ") (path_text path) (passing is_plain (codes "segment ") refl) (path_plain path))
      ∙ ap (λ p. headed told p (Solved told.basis told.tested)) read

  refused_tells : (path : List ℕ) (cause : Cause) (rest : List ℕ) → AllByRecursion (λ number. number < 2 ^ 64) path
      → text_told ring names (codes "refused " ++ path_text path ++ codes " " ++ cause_word cause ++ codes "\n" ++ rest)
      ≡ headed (text_told ring names rest) path (Refused cause)
  refused_tells path cause rest h =
      let told : Told = text_told ring names rest in
      let head : List ℕ = path_text path ++ codes " " ++ cause_word cause in
      let same : head ≡ path_text path ++ (32 ∷ cause_word cause) = append_assoc (path_text path) (codes " ") (cause_word cause) in
      line_reads ring names (codes "refused " ++ path_text path ++ codes " " ++ cause_word cause) rest
      (passes_append is_plain (codes "refused " ++ path_text path ++ codes " ") (cause_word cause)
      (passes_append is_plain (codes "refused " ++ path_text path) (codes " ")
      (passes_append is_plain (codes "refused ") (path_text path) (passing is_plain (codes "refused ") refl) (path_plain path))
      (passing is_plain (codes " ") refl))
      (cause_plain cause))
      ∙ ap (λ p. headed told p (Refused (cause_told head))) (ap path_told same ∙ path_reads path (32 ∷ cause_word cause) h refl)
      ∙ ap (λ k. headed told path (Refused k)) (ap cause_told same ∙ cause_reads path cause)

  pub head_tells : (path : List ℕ) (conditions : Conditions) (kind : EntryKind) (rest : List ℕ) → AllByRecursion (λ number. number < 2 ^ 64) path
      → text_told ring names (head_line (record { path = path; conditions = conditions; kind = kind }) ++ rest)
      ≡ (let told = text_told ring names rest in headed told path (kind_told kind told))
  head_tells path conditions (Solved basis tested) rest h = segment_tells path rest h
  head_tells path conditions (Refused cause) rest h = refused_tells path cause rest h

  -- what is told of a basis follows from it

  count_tells : (n : ℕ) (rest : List ℕ) → text_told ring names (codes "standard " ++ decimal n ++ codes "\n" ++ rest) ≡ text_told ring names rest
  count_tells n rest = line_reads ring names (codes "standard " ++ decimal n) rest
      (passes_append is_plain (codes "standard ") (decimal n) (passing is_plain (codes "standard ") refl) (decimal_plain n))

  standard_tells : (standard : Standard) (rest : List ℕ) → text_told ring names (standard_line standard ++ rest) ≡ text_told ring names rest
  standard_tells NotFinite rest = line_reads ring names (codes "standard none") rest (passing is_plain (codes "standard none") refl)
  standard_tells Many rest = line_reads ring names (codes "standard many") rest (passing is_plain (codes "standard many") refl)
  standard_tells (Count n) rest = count_tells n rest

  solvable_tells : (answer : Bool) (rest : List ℕ) → text_told ring names (answer_line (codes "solvable") answer ++ rest) ≡ text_told ring names rest
  solvable_tells true rest = line_reads ring names (codes "solvable yes") rest (passing is_plain (codes "solvable yes") refl)
  solvable_tells false rest = line_reads ring names (codes "solvable no") rest (passing is_plain (codes "solvable no") refl)

  finite_tells : (answer : Bool) (rest : List ℕ) → text_told ring names (answer_line (codes "finite") answer ++ rest) ≡ text_told ring names rest
  finite_tells true rest = line_reads ring names (codes "finite yes") rest (passing is_plain (codes "finite yes") refl)
  finite_tells false rest = line_reads ring names (codes "finite no") rest (passing is_plain (codes "finite no") refl)

  findings_tell : (findings : Findings) (rest : List ℕ) → text_told ring names (findings_text findings ++ rest) ≡ text_told ring names rest
  findings_tell findings rest =
      let solvable : List ℕ = answer_line (codes "solvable") findings.solvable in
      let finite : List ℕ = answer_line (codes "finite") findings.finite in
      let standard : List ℕ = standard_line findings.standard in
      ap (text_told ring names) (append_assoc (solvable ++ finite) standard rest ∙ append_assoc solvable finite (standard ++ rest))
      ∙ solvable_tells findings.solvable (finite ++ (standard ++ rest))
      ∙ finite_tells findings.finite (standard ++ rest)
      ∙ standard_tells findings.standard rest

  -- an entry

  abbrev tested_of : EntryKind → Bool
  tested_of (Solved basis tested) = tested
  tested_of (Refused cause) = true

  -- what the lines after the first tell of it
  abbrev inside : Conditions → EntryKind → List Entry → Told
  inside conditions kind entries = record (fresh entries []) {
    zero = conditions.zero;
    nonzero = conditions.nonzero;
    basis = basis_of kind;
    tested = tested_of kind;
  }

  abbrev unconditioned : List (List Term) → Bool → List Entry → Told
  unconditioned basis tested entries = record (fresh entries []) { basis = basis; tested = tested }

  untested_tells : (tested : Bool) (basis : List (List Term)) (entries : List Entry) (rest : List ℕ)
      → text_told ring names rest ≡ unconditioned basis true entries
      → text_told ring names (untested_line tested ++ rest) ≡ unconditioned basis tested entries
  untested_tells true basis entries rest e = e
  untested_tells false basis entries rest e =
      line_reads ring names (codes "untested") rest (passing is_plain (codes "untested") refl) ∙ ap (λ (told : Told). record told { tested = false }) e

  found_tells : (kind : EntryKind) (entries : List Entry) (rest : List ℕ) → IsNamed ring names → IsFound ring kind
      → text_told ring names rest ≡ fresh entries []
      → text_told ring names (found_text ring names kind ++ rest) ≡ unconditioned (basis_of kind) (tested_of kind) entries
  found_tells (Refused cause) entries rest n h e = e
  found_tells (Solved basis tested) entries rest n h e =
      let bases : List ℕ = polynomial_lines (codes "basis") ring names basis in
      let findings : List ℕ = findings_text (findings_of ring basis) in
      let told : text_told ring names (bases ++ (findings ++ rest)) ≡ unconditioned basis true entries =
      basis_tells ring names basis (findings ++ rest) n h
      ∙ ap (λ (told : Told). record told { basis = basis ++ told.basis }) (findings_tell (findings_of ring basis) rest ∙ e)
      ∙ ap (λ all. unconditioned all true entries) (append-nil basis) in
      ap (text_told ring names) (append_assoc (untested_line tested ++ bases) findings rest ∙ append_assoc (untested_line tested) bases (findings ++ rest))
      ∙ untested_tells tested basis entries (bases ++ (findings ++ rest)) told

  conditions_tell : (conditions : Conditions) (kind : EntryKind) (entries : List Entry) (rest : List ℕ) → IsNamed ring names
      → ArePolys ring conditions.zero → ArePolys ring conditions.nonzero
      → text_told ring names rest ≡ unconditioned (basis_of kind) (tested_of kind) entries
      → text_told ring names (conditions_text ring names conditions ++ rest) ≡ inside conditions kind entries
  conditions_tell conditions kind entries rest n h k e =
      let zeros : List ℕ = polynomial_lines (codes "zero") ring names conditions.zero in
      let nonzeros : List ℕ = polynomial_lines (codes "nonzero") ring names conditions.nonzero in
      ap (text_told ring names) (append_assoc zeros nonzeros rest)
      ∙ zero_tells ring names conditions.zero (nonzeros ++ rest) n h
      ∙ ap (λ (told : Told). record told { zero = conditions.zero ++ told.zero })
      (nonzero_tells ring names conditions.nonzero rest n k ∙ ap (λ (told : Told). record told { nonzero = conditions.nonzero ++ told.nonzero }) e)
      ∙ ap (λ all. record (inside conditions kind entries) { zero = all; nonzero = conditions.nonzero ++ [] }) (append-nil conditions.zero)
      ∙ ap (λ all. record (inside conditions kind entries) { nonzero = all }) (append-nil conditions.nonzero)

  headed_is : (path : List ℕ) (conditions : Conditions) (kind : EntryKind) (entries : List Entry)
      → headed (inside conditions kind entries) path (kind_told kind (inside conditions kind entries))
      ≡ fresh (record { path = path; conditions = conditions; kind = kind } ∷ entries) []
  headed_is path conditions (Solved basis tested) entries = refl
  headed_is path conditions (Refused cause) entries = refl

  entry_tells : (entry : Entry) (entries : List Entry) (rest : List ℕ) → IsNamed ring names → IsPrintable ring entry
      → text_told ring names rest ≡ fresh entries []
      → text_told ring names (entry_text ring names entry ++ rest) ≡ fresh (entry ∷ entries) []
  entry_tells entry entries rest n h e =
      let head : List ℕ = head_line entry in
      let conditions : List ℕ = conditions_text ring names entry.conditions in
      let found : List ℕ = found_text ring names entry.kind in
      ap (text_told ring names) (append_assoc (head ++ conditions) found rest ∙ append_assoc head conditions (found ++ rest))
      ∙ head_tells entry.path entry.conditions entry.kind (conditions ++ (found ++ rest)) h.path
      ∙ ap (λ told. headed told entry.path (kind_told entry.kind told))
      (conditions_tell entry.conditions entry.kind entries (found ++ rest) n
      (conditions_polys ring entry.conditions.zero h.of_ring.zero) (conditions_polys ring entry.conditions.nonzero h.of_ring.nonzero)
      (found_tells entry.kind entries rest n h.of_ring.found e))
      ∙ headed_is entry.path entry.conditions entry.kind entries

  -- whole texts

  entries_tell : (entries : List Entry) (rest : List ℕ) → IsNamed ring names → ArePrintable ring entries → text_told ring names rest ≡ fresh [] []
      → text_told ring names (flat_map (entry_text ring names) entries ++ rest) ≡ fresh entries []
  entries_tell [] rest n h e = e
  entries_tell (entry ∷ entries) rest n h e =
      ap (text_told ring names) (append_assoc (entry_text ring names entry) (flat_map (entry_text ring names) entries) rest)
      ∙ entry_tells entry entries (flat_map (entry_text ring names) entries ++ rest) n h.0 (entries_tell entries rest n h.1 e)

  -- the last line
  pub last_tells : (line : List ℕ) → Passes is_plain line → ((told : Told) → line_told ring names line told ≡ told)
      → text_told ring names (line ++ codes "\n") ≡ fresh [] []
  last_tells line plain same =
      ap (text_told ring names) (sym (append-nil (line ++ codes "\n"))) ∙ line_reads ring names line [] plain ∙ same (text_told ring names [])
      ∙ nothing_told ring names

  numbers_tell : (entries : List Entry) → text_told ring names (count_line entries) ≡ fresh [] []
  numbers_tell entries =
      let solved : List ℕ = decimal (length entries - count_by is_refused entries) in
      let refused : List ℕ = decimal (count_by is_refused entries) in
      last_tells (codes "segments " ++ solved ++ codes " refused " ++ refused)
      (passes_append is_plain (codes "segments " ++ solved ++ codes " refused ") refused
      (passes_append is_plain (codes "segments " ++ solved) (codes " refused ")
      (passes_append is_plain (codes "segments ") solved (passing is_plain (codes "segments ") refl) (decimal_plain _))
      (passing is_plain (codes " refused ") refl))
      (decimal_plain _))
      (λ told. refl)

  members_tell : (count : ℕ) → text_told ring names (members_line count) ≡ fresh [] []
  members_tell count = last_tells (codes "members " ++ decimal count)
      (passes_append is_plain (codes "members ") (decimal count) (passing is_plain (codes "members ") refl) (decimal_plain count)) (λ told. refl)

-- a problem that some bytes spell has names that are read
pub spelled_named : (bytes : List ℕ) (problem : Problem) → problem_spelled bytes ≡ Ok problem → IsNamed problem.ring problem.names
spelled_named bytes problem e =
    let s = spelled_valid bytes problem e in
    subst (λ (p : Problem). IsNamed p.ring p.names) s.same (record {
      modulus = s.header.modulus;
      words = all_named s.draft s.header;
      reader = reader_is s.draft 0 greatest_degree s.header (omega arith) (omega arith);
    })

list_tells : (problem : Problem) (entries : List Entry) → IsNamed problem.ring problem.names → ArePrintable problem.ring entries
    → text_told problem.ring problem.names (list_text problem entries) ≡ fresh entries []
list_tells problem entries n h =
    entries_tell problem.ring problem.names entries (count_line entries) n h (numbers_tell problem.ring problem.names entries)

pub lists_are_told : ListsAreTold
lists_are_told bytes problem entries others e h k same =
    let n = spelled_named bytes problem e in
    ap (λ (told : Told). told.entries)
    (sym (list_tells problem entries n h) ∙ ap (text_told problem.ring problem.names) same ∙ list_tells problem others n k)

members_told : (problem : Problem) (basis : List (List Term)) → IsNamed problem.ring problem.names → ArePolys problem.ring basis
    → (text_told problem.ring problem.names (basis_text problem basis)).basis ≡ basis
members_told problem basis n h =
    ap (λ (told : Told). told.basis) (basis_tells problem.ring problem.names basis (members_line (length basis)) n h
    ∙ ap (λ (told : Told). record told { basis = basis ++ told.basis }) (members_tell problem.ring problem.names (length basis)))
    ∙ append-nil basis

pub bases_are_told : BasesAreTold
bases_are_told bytes problem basis other e h k same =
    let n = spelled_named bytes problem e in
    sym (members_told problem basis n h) ∙ ap (λ text. (text_told problem.ring problem.names text).basis) same ∙ members_told problem other n k
