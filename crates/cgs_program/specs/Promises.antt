-- What the bytes written by each command but `check` are, in the words of the field. What is said of an entry names no run, no unit and no tree.
-- The limits and the tree stand here only to say of which tree the list is (`of_tree`), for every number of workers and every order in which they
-- work, and that the history is one of that tree (`followed`).
use Rattle.std.specs.Prelude.{◌≡◌, ◌<◌, ◌⊎◌, ◌↔◌, ◌||◌, ℕ, false, List, length, slice_get, Some, None, Ok}
use Rattle.std.specs.List.{AllByRecursion, list_any}
use Rattle.std.specs.Io.KnownBytes.{Keeps, Appends}
use Rattle.cgs_io.specs.Seen.{Seen}
use Rattle.cgs_poly.specs.Parameters.{variables_ring}
use Rattle.cgs_poly.specs.Polynomial.{Term}
use Rattle.cgs_algebra.specs.Groebner.{IsReduced, IsAscending}
use Rattle.cgs_algebra.specs.Specialisation.{specialised_list}
use Rattle.cgs_discover.specs.Refutation.{refuted, extended}
use Rattle.cgs_discover.specs.Laws.{HasOneAt, IsZeroAt}
use Rattle.cgs_point.specs.Points.{IsPoint}
use Rattle.cgs_entry.specs.declared.entry.Entry.{Entry}
use Rattle.cgs_entry.specs.Bases.{basis_of}
use Rattle.cgs_entry.specs.Conditions.{IsInRegion}
use Rattle.cgs_entry.specs.Entries.{IsComprehensive, IsEntry, is_refused}
use Rattle.cgs_gen.specs.Generator.{problem_of}
use Rattle.cgs_locate.specs.declared.search.Located.{Located}
use Rattle.cgs_locate.specs.Located.{located}
use Rattle.cgs_locate.specs.Laws.{IsFirst, IsMonicBasisAt}
use Rattle.cgs_report.specs.AtPoint.{IsTrueOf}
use Rattle.cgs_report.specs.Report.{findings_of}
use Rattle.cgs_problem.specs.declared.problem.Problem.{Problem}
use Rattle.cgs_problem.specs.Reading.{problem_spelled}
use Rattle.cgs_print.specs.Printing.{basis_text, list_text}
use Rattle.cgs_print.specs.Locating.{located_text}
use Rattle.cgs_print.specs.Discovery.{discovered_text}
use Rattle.cgs_print.specs.Summary.{summary_text}
use Rattle.cgs_split.specs.Laws.{IsConsistentIfTested}
use Rattle.cgs_split.specs.declared.kind.Limits.{Limits}
use Rattle.cgs_words.specs.declared.plan.Command.{Command}
use Rattle.cgs_words.specs.declared.plan.Command.TheVariants.{Basis, Solve, Locate, Discover, Stress}
use Rattle.cgs_words.specs.declared.plan.Plan.{Plan}
use Rattle.cgs_words.specs.Words.{plan_of}
use Rattle.cgs_program.specs.declared.status.Status.{Status}
use Rattle.cgs_program.specs.declared.status.Status.TheVariants as status
use Rattle.cgs_program.specs.Due.{whole, generators_of, status_of, limits_of, entries_within, root_within, IsFollowed}
use Rattle.cgs_program.specs.Run.{Took, IsRun, Completes}

-- the words ask for a command
pub record Asks (command : Command) (words : List (List ℕ)) : Type 0 where
  pub plan : Plan
  pub planned : plan_of words ≡ Ok plan
  pub asked : plan.command ≡ command

-- the bytes that the source had left, at most as many as the limit, spell the problem
pub record HasRead (source source_now : Seen) (problem : Problem) : Type 0 where
  pub bytes : List ℕ
  pub taken : Took (whole bytes) source source_now
  pub spelled : problem_spelled bytes ≡ Ok problem

-- The text of the reduced Gröbner basis of the ideal of the polynomials and of those that have to vanish was written.
pub record WritesBasis (source source_now sink sink_now : Seen) : Type 0 where
  pub problem : Problem
  pub read : HasRead source source_now problem
  pub basis : List (List Term)
  pub reduced : IsReduced problem.ring basis (generators_of problem)
  pub ascending : IsAscending problem.ring basis
  pub written : Appends sink.bytes sink_now.bytes (basis_text problem basis)

-- What is told of an entry that is not refused is so, at each point of its region, of the ideal of what the polynomials become: it is solvable
-- unless 1 is a member, and its standard monomials are those that lead no member but 0.
abbrev pub IsReported : Problem → Entry → Type 0
IsReported problem entry =
    is_refused entry ≡ false → (point : List ℕ) → IsPoint problem.ring point
    → IsInRegion problem.ring entry.conditions.zero entry.conditions.nonzero point
    → IsTrueOf (variables_ring problem.ring) (specialised_list problem.ring point problem.polys) (findings_of problem.ring (basis_of entry.kind))

-- The entries are those of the problem's tree, for every number of workers and every order in which they work. Their polynomials are of the
-- problem's ring, with no degree above the greatest, and the entries are comprehensive. What is told of each is so, and one that is not called
-- untested has conditions that do not contradict each other.
pub record IsSystemOf (limits : Limits) (problem : Problem) (entries : List Entry) : Type 0 where
  pub of_tree : entries ≡ entries_within limits problem
  pub of_ring : AllByRecursion (IsEntry problem.ring) entries
  pub comprehensive : IsComprehensive problem.ring problem.zero problem.nonzero problem.polys entries
  pub reported : AllByRecursion (IsReported problem) entries
  pub consistent : AllByRecursion (IsConsistentIfTested problem.ring) entries

-- The text of a comprehensive list of entries was written. Where it is asked, a history of the problem's tree by the workers follows it. The
-- status tells whether an entry is refused.
pub record WritesSystem (plan : Plan) (source source_now sink sink_now : Seen) (end : Status) : Type 0 where
  pub problem : Problem
  pub read : HasRead source source_now problem
  pub entries : List Entry
  pub system : IsSystemOf (limits_of plan) problem entries
  pub status : end ≡ status_of (list_any is_refused entries)
  pub text : List ℕ
  pub followed : IsFollowed plan.history (root_within (limits_of plan) problem) plan.workers (list_text problem entries) text
  pub written : Appends sink.bytes sink_now.bytes text

-- A point lies nowhere exactly where it violates the conditions of the problem. Else it lies in the first entry whose region has it, and
-- unless that one is refused, the basis there is a monic minimal Gröbner basis of what the polynomials become.
pub record IsPlaced (problem : Problem) (entries : List Entry) (point : List ℕ) : Type 0 where
  pub nowhere : (located problem.ring point entries ≡ None) ↔ (¬ IsInRegion problem.ring problem.zero problem.nonzero point)
  pub first : (found : Located) → located problem.ring point entries ≡ Some found → IsFirst problem.ring entries point found
  pub basis : (found : Located) (entry : Entry) → located problem.ring point entries ≡ Some found → slice_get entries found.index ≡ Some entry
      → is_refused entry ≡ false
      → IsMonicBasisAt problem.ring point problem.polys found.basis

-- The text of where the points lie was written, of which there are some: in the entries of the problem's tree, for every number of workers and
-- every order in which they work. The status tells whether an entry is refused, also one in which no point lies.
pub record WritesPlaces (plan : Plan) (source source_now sink sink_now : Seen) (end : Status) : Type 0 where
  pub problem : Problem
  pub read : HasRead source source_now problem
  pub pointed : 0 < length problem.points
  pub entries : List Entry
  pub of_tree : entries ≡ entries_within (limits_of plan) problem
  pub placed : AllByRecursion (IsPlaced problem entries) problem.points
  pub status : end ≡ status_of (list_any is_refused entries)
  pub written : Appends sink.bytes sink_now.bytes (located_text problem entries)

-- The texts of two comprehensive lists were written: that of the refutation of the problem's thesis, and that of the problem with its thesis.
-- At each point at which 1 is in the ideal of what the polynomials of the refutation become, the thesis is 0 wherever the polynomials of the
-- problem are. The status tells whether an entry of either is refused.
pub record WritesDiscovery (plan : Plan) (source source_now sink sink_now : Seen) (end : Status) : Type 0 where
  pub problem : Problem
  pub read : HasRead source source_now problem
  pub thesis : List Term
  pub given : problem.thesis ≡ Some thesis
  pub refuting : List Entry
  pub extending : List Entry
  pub refutation : IsSystemOf (limits_of plan) (refuted problem thesis) refuting
  pub extension : IsSystemOf (limits_of plan) (extended problem thesis) extending
  pub follows : (point x : List ℕ) → HasOneAt (refuted problem thesis).ring point (refuted problem thesis).polys
      → AllByRecursion (IsZeroAt problem.ring point x) problem.polys → IsZeroAt problem.ring point x thesis
  pub status : end ≡ status_of (list_any is_refused refuting || list_any is_refused extending)
  pub written : Appends sink.bytes sink_now.bytes (discovered_text (refuted problem thesis) refuting (extended problem thesis) extending)

-- Nothing was read, and the summary of a comprehensive list of entries was written, that of the problem that a number generates. The status
-- tells whether an entry is refused.
pub record WritesSummary (number : ℕ) (plan : Plan) (source source_now sink sink_now : Seen) (end : Status) : Type 0 where
  pub unread : Keeps source.bytes source_now.bytes
  pub entries : List Entry
  pub system : IsSystemOf (limits_of plan) (problem_of number) entries
  pub status : end ≡ status_of (list_any is_refused entries)
  pub written : Appends sink.bytes sink_now.bytes (summary_text number (problem_of number) entries)

-- what `basis` promises with status 0
abbrev pub KeepsBasis : List (List ℕ) → Seen → Seen → Seen → Seen → Status → Type 0
KeepsBasis words source source_now sink sink_now end = Asks Basis words → end ≡ status.Done → WritesBasis source source_now sink sink_now

-- what `solve` promises with the statuses 0 and 3
abbrev pub KeepsSystem : List (List ℕ) → Seen → Seen → Seen → Seen → Status → Type 0
KeepsSystem words source source_now sink sink_now end =
    (asks : Asks Solve words) → (end ≡ status.Done) ⊎ (end ≡ status.Partial) → WritesSystem asks.plan source source_now sink sink_now end

-- what `locate` promises with the statuses 0 and 3
abbrev pub KeepsLocated : List (List ℕ) → Seen → Seen → Seen → Seen → Status → Type 0
KeepsLocated words source source_now sink sink_now end =
    (asks : Asks Locate words) → (end ≡ status.Done) ⊎ (end ≡ status.Partial) → WritesPlaces asks.plan source source_now sink sink_now end

-- what `discover` promises with the statuses 0 and 3
abbrev pub KeepsDiscovered : List (List ℕ) → Seen → Seen → Seen → Seen → Status → Type 0
KeepsDiscovered words source source_now sink sink_now end =
    (asks : Asks Discover words) → (end ≡ status.Done) ⊎ (end ≡ status.Partial) → WritesDiscovery asks.plan source source_now sink sink_now end

-- what `stress` promises with the statuses 0 and 3
abbrev pub KeepsSummary : List (List ℕ) → Seen → Seen → Seen → Seen → Status → Type 0
KeepsSummary words source source_now sink sink_now end = (number : ℕ) (asks : Asks (Stress number) words)
    → (end ≡ status.Done) ⊎ (end ≡ status.Partial) → WritesSummary number asks.plan source source_now sink sink_now end

-- all that a run promises
pub record KeepsAll (words : List (List ℕ)) (source source_now sink sink_now : Seen) (end : Status) : Type 0 where
  pub run : IsRun words source source_now sink sink_now end
  pub complete : Completes words source source_now sink sink_now end
  pub basis : KeepsBasis words source source_now sink sink_now end
  pub system : KeepsSystem words source source_now sink sink_now end
  pub located : KeepsLocated words source source_now sink sink_now end
  pub discovered : KeepsDiscovered words source source_now sink sink_now end
  pub summary : KeepsSummary words source source_now sink sink_now end
