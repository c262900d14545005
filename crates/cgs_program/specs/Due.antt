-- The text that is due, and the status with which it is written.
use Rattle.std.specs.Prelude.{◌≡◌, ◌==◌, ◌||◌, if◌then◌else◌, ℕ, Bool, true, false, List, ◌++◌, length, codes, Option, Some, None, Result, Ok, Err}
use Rattle.std.specs.List.{list_any}
use Rattle.cgs_poly.specs.Polynomial.{Term}
use Rattle.cgs_divide.specs.Ending.{Ending, ended, out_of_budget, out_of_degree}
use Rattle.cgs_basis.specs.BasisRun.{basis_run}
use Rattle.cgs_entry.specs.declared.entry.Cause.TheVariants.{Budget, Degree}
use Rattle.cgs_entry.specs.declared.entry.Entry.{Entry}
use Rattle.cgs_entry.specs.Entries.{is_refused}
use Rattle.cgs_board.specs.declared.event.Event.{Event}
use Rattle.cgs_board.specs.History.{IsComplete}
use Rattle.cgs_split.specs.declared.kind.Limits.{Limits}
use Rattle.cgs_split.specs.Cases.{Case}
use Rattle.cgs_split.specs.Laws.{entry_list}
use Rattle.cgs_split.specs.NodeRun.{node_of}
use Rattle.cgs_split.specs.Trees.{root_case}
use Rattle.cgs_problem.specs.declared.problem.Problem.{Problem}
use Rattle.cgs_problem.specs.declared.fault.TextFault.{TextFault}
use Rattle.cgs_problem.specs.Problems.{IsProblem}
use Rattle.cgs_problem.specs.Reading.{problem_spelled}
use Rattle.cgs_canonical.specs.Printing.{problem_text}
use Rattle.cgs_print.specs.Printing.{basis_text, refusal_text, list_text, fault_text}
use Rattle.cgs_print.specs.History.{history_text}
use Rattle.cgs_print.specs.Locating.{located_text}
use Rattle.cgs_print.specs.Discovery.{discovered_text}
use Rattle.cgs_print.specs.Summary.{summary_text}
use Rattle.cgs_discover.specs.Refutation.{refuted, extended}
use Rattle.cgs_gen.specs.Generator.{problem_of}
use Rattle.cgs_words.specs.declared.plan.Command.{Command}
use Rattle.cgs_words.specs.declared.plan.Command.TheVariants.{Check, Basis, Solve, Locate, Discover, Stress}
use Rattle.cgs_words.specs.declared.plan.Plan.{Plan}
use Rattle.cgs_words.specs.declared.plan.WordFault.{WordFault}
use Rattle.cgs_words.specs.declared.plan.WordFault.TheVariants as word
use Rattle.cgs_program.specs.declared.status.Status.{Status}
use Rattle.cgs_program.specs.declared.status.Status.TheVariants as status

-- the exit code of a status
abbrev pub code_of : Status → ℕ
code_of status.Done = 0
code_of status.Words = 2
code_of status.Partial = 3
code_of status.Text = 4
code_of status.Source = 5
code_of status.Sink = 6
code_of status.Memory = 7

-- the most bytes of an input
abbrev pub limit : ℕ
limit = 1048576

-- what came of the source: nothing was read, all of it was, or one byte more than the limit
pub data Got : Type 0 where
  nothing_read : Got
  whole : List ℕ → Got
  too_long : Got

abbrev pub word_fault_text : WordFault → List ℕ
word_fault_text word.NoWord = codes "fault words none\n"
word_fault_text word.Command = codes "fault words command\n"
word_fault_text word.Option = codes "fault words option\n"
word_fault_text word.Repeat = codes "fault words repeat\n"
word_fault_text word.Value = codes "fault words value\n"

-- a text, and the status with which it is written
pub record Answer : Type 0 where
  pub text : List ℕ
  pub end : Status

abbrev pub answer : List ℕ → Status → Answer
answer text end = record { text = text; end = end }

-- the status of a text of which a part is a refusal, or none is
abbrev pub status_of : Bool → Status
status_of true = status.Partial
status_of false = status.Done

-- the polynomials of whose ideal `basis` prints the basis
abbrev pub generators_of : Problem → List (List Term)
generators_of problem = problem.polys ++ problem.zero

-- what `basis` answers where the run ends so
abbrev pub basis_answer : Problem → Ending (List (List Term)) → Answer
basis_answer problem (ended basis left) = answer (basis_text problem basis) status.Done
basis_answer problem (out_of_budget left) = answer (refusal_text Budget) status.Partial
basis_answer problem (out_of_degree left) = answer (refusal_text Degree) status.Partial

-- what `solve` answers where these are the entries
abbrev pub list_answer : Problem → List Entry → Answer
list_answer problem entries = answer (list_text problem entries) (status_of (list_any is_refused entries))

-- what `locate` answers where the problem has no point
abbrev pub no_point : Answer
no_point = answer (codes "fault line 0 no-point\n") status.Text

-- what `locate` answers where these are the entries
abbrev pub located_answer : Problem → List Entry → Answer
located_answer problem entries =
    if length problem.points == 0 then no_point else answer (located_text problem entries) (status_of (list_any is_refused entries))

abbrev pub limits_of : Plan → Limits
limits_of plan = record { budget = plan.budget; depth = plan.depth }

-- the entries of a problem's tree within the limits of a plan
abbrev pub entries_within : Limits → Problem → List Entry
entries_within limits problem = entry_list problem.ring limits problem.zero problem.nonzero problem.polys

-- the root of that tree
abbrev pub root_within : Limits → Problem → Case
root_within limits problem = root_case problem.ring limits problem.zero problem.nonzero problem.polys

-- what `discover` answers where the problem has no thesis
abbrev pub no_thesis : Answer
no_thesis = answer (codes "fault line 0 no-thesis\n") status.Text

-- what `discover` answers where these are the refutation and the problem with its thesis
abbrev pub pair_answer : Limits → Problem → Problem → Answer
pair_answer limits refutation extension =
    answer (discovered_text refutation (entries_within limits refutation) extension (entries_within limits extension))
    (status_of (list_any is_refused (entries_within limits refutation) || list_any is_refused (entries_within limits extension)))

-- what `discover` answers for a thesis, if there is one
abbrev pub discovered_answer : Limits → Problem → Option (List Term) → Answer
discovered_answer limits problem None = no_thesis
discovered_answer limits problem (Some thesis) = pair_answer limits (refuted problem thesis) (extended problem thesis)

-- what `stress` answers where these are the entries of the problem that the number makes
abbrev pub summary_answer : ℕ → Problem → List Entry → Answer
summary_answer number problem entries = answer (summary_text number problem entries) (status_of (list_any is_refused entries))

-- The answer for a problem, without a history. A further command is a further case.
abbrev pub answer_of : Plan → Problem → Answer
answer_of plan problem =
    elim plan.command [
      | Check ↦ answer (problem_text problem) status.Done
      | Basis ↦ basis_answer problem (basis_run problem.ring (generators_of problem) plan.budget)
      | Solve ↦ list_answer problem (entries_within (limits_of plan) problem)
      | Locate ↦ located_answer problem (entries_within (limits_of plan) problem)
      | Discover ↦ discovered_answer (limits_of plan) problem problem.thesis
      | Stress number ↦ summary_answer number problem (entries_within (limits_of plan) problem)
    ]

-- the text and the status of an answer
abbrev pub IsThe : Answer → List ℕ → Status → Type 0
IsThe wanted text end = (text ≡ wanted.text) × (end ≡ wanted.end)

-- the plan asks for the history of the tree
abbrev pub asks_history : Plan → Bool
asks_history plan =
    elim plan.command [ Check ↦ false | Basis ↦ false | Solve ↦ plan.history | Locate ↦ false | Discover ↦ false | Stress number ↦ false ]

-- After the first text comes, where it is asked, that of a history in which so many workers claim and give back each branch of a tree.
abbrev pub IsFollowed : Bool → Case → ℕ → List ℕ → List ℕ → Type 0
IsFollowed false root workers first text = text ≡ first
IsFollowed true root workers first text = (h : List Event) × IsComplete node_of root workers h × (text ≡ first ++ history_text h)

-- The text and the status of an answer, with a history of the problem's tree after the text where it is asked.
abbrev pub IsWhole : Bool → Plan → Problem → Answer → List ℕ → Status → Type 0
IsWhole asked plan problem wanted text end = IsFollowed asked (root_within (limits_of plan) problem) plan.workers wanted.text text × (end ≡ wanted.end)

-- The status and the text of the list are a function of the plan and the problem; the history depends on the workers.
abbrev pub IsAnswer : Plan → Problem → List ℕ → Status → Type 0
IsAnswer plan problem text end = IsWhole (asks_history plan) plan problem (answer_of plan problem) text end

-- the answer for what bytes spell
abbrev pub IsReply : Plan → Result Problem TextFault → List ℕ → Status → Type 0
IsReply plan (Ok problem) text end = IsAnswer plan problem text end
IsReply plan (Err fault) text end = (text ≡ fault_text fault) × (end ≡ status.Text)

-- the problem that a command makes by itself, without reading
abbrev pub own_problem : Plan → Option Problem
own_problem plan =
    elim plan.command [ Check ↦ None | Basis ↦ None | Solve ↦ None | Locate ↦ None | Discover ↦ None | Stress number ↦ Some (problem_of number) ]

-- What a plan asks of what was read.
abbrev pub IsDueTo : Plan → Got → List ℕ → Status → Type 0
IsDueTo plan nothing_read text end = (problem : Problem) × (own_problem plan ≡ Some problem) × IsProblem problem × IsAnswer plan problem text end
IsDueTo plan (whole bytes) text end = (own_problem plan ≡ None) × IsReply plan (problem_spelled bytes) text end
IsDueTo plan too_long text end = (own_problem plan ≡ None) × (text ≡ codes "fault line 0 long\n") × (end ≡ status.Text)

-- What the words ask of what was read.
abbrev pub IsDueFor : Result Plan WordFault → Got → List ℕ → Status → Type 0
IsDueFor (Ok plan) got text end = IsDueTo plan got text end
IsDueFor (Err fault) nothing_read text end = (text ≡ word_fault_text fault) × (end ≡ status.Words)
IsDueFor (Err fault) got text end = ⊥
