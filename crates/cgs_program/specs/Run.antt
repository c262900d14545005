-- How a run ends.
use denote.Ref.{Bor}
use denote.Param.Members.{Shared}
use Rattle.std.specs.Prelude.{◌≡◌, ◌<◌, ◌≤◌, ◌⊎◌, ℕ, ◌+◌, false, List, length, bytes_eq, Some, None, Result, Ok, Err, IsOk, IfOk}
use Rattle.std.specs.List.{AllByRecursion, list_any}
use Rattle.std.specs.Io.KnownBytes.{Consumes, IsAtEnd, Keeps, Appends}
use Rattle.cgs_io.specs.Causes.{Rose}
use Rattle.cgs_io.specs.Seen.{Seen, IsCalm}
use Rattle.cgs_io.specs.Streams.{AppendsPrefix}
use Rattle.cgs_board.specs.History.{IsComplete}
use Rattle.cgs_discover.specs.Refutation.{y_name}
use Rattle.cgs_entry.specs.Entries.{IsEntry}
use Rattle.cgs_problem.specs.declared.problem.Problem.{Problem}
use Rattle.cgs_problem.specs.Problems.{IsProblem}
use Rattle.cgs_problem.specs.Reading.{problem_spelled}
use Rattle.cgs_split.specs.NodeRun.{node_of}
use Rattle.cgs_system.specs.declared.solution.Solution.{Solution}
use Rattle.cgs_words.specs.declared.plan.Plan.{Plan}
use Rattle.cgs_words.specs.declared.plan.WordFault.{WordFault}
use Rattle.cgs_program.specs.declared.status.Status.{Status}
use Rattle.cgs_program.specs.declared.status.Status.TheVariants as status
use Rattle.cgs_program.specs.declared.reply.Reply.{Reply}
use Rattle.cgs_program.specs.declared.reply.Halt.{Halt}
use Rattle.cgs_program.specs.declared.reply.Halt.TheVariants as halt
use Rattle.cgs_words.specs.Words.{plan_of}
use Rattle.cgs_program.specs.Due.{Got, nothing_read, whole, too_long, limit, limits_of, entries_within, root_within, own_problem, IsDueFor, IsAnswer}

-- what was taken from the source
abbrev pub Took : Got → Seen → Seen → Type 0
Took nothing_read before now = Keeps before.bytes now.bytes
Took (whole read) before now = (length read ≤ limit) × Consumes before.bytes now.bytes read × IsAtEnd now.bytes
Took too_long before now = (read : List ℕ) × (length read ≡ limit + 1) × Consumes before.bytes now.bytes read

-- What was taken is a front of what was left, at most one byte more than the limit.
abbrev pub TookSome : Seen → Seen → Type 0
TookSome before now = (read : List ℕ) × (length read ≤ limit + 1) × Consumes before.bytes now.bytes read

-- The count of faults did not fall, and rose.
abbrev pub Fails : Seen → Seen → Type 0
Fails before now = (before.faults ≤ now.faults) × Rose before.faults now.faults

-- There is a plan, and it reads.
abbrev pub Reads : Result Plan WordFault → Type 0
Reads (Ok plan) = own_problem plan ≡ None
Reads (Err fault) = ⊥

-- The source came to an end that determines this text and status.
pub record Settles (plan : Result Plan WordFault) (before now : Seen) (text : List ℕ) (end : Status) : Type 0 where
  pub got : Got
  pub taken : Took got before now
  pub due : IsDueFor plan got text end
  pub calm : IsCalm before now

-- The text due was written, and the status is its own.
pub record Writes (plan : Result Plan WordFault) (source source_now sink sink_now : Seen) (end : Status) : Type 0 where
  pub text : List ℕ
  pub settles : Settles plan source source_now text end
  pub written : Appends sink.bytes sink_now.bytes text
  pub calm : IsCalm sink sink_now

-- A front of the text due was written, and the sink failed.
pub record WritesPart (plan : Result Plan WordFault) (source source_now sink sink_now : Seen) : Type 0 where
  pub text : List ℕ
  pub end : Status
  pub settles : Settles plan source source_now text end
  pub written : AppendsPrefix sink.bytes sink_now.bytes text
  pub rose : Fails sink sink_now

-- The source failed, and nothing was written.
pub record SourceFails (plan : Result Plan WordFault) (source source_now sink sink_now : Seen) : Type 0 where
  pub reads : Reads plan
  pub taken : TookSome source source_now
  pub rose : Fails source source_now
  pub written : Keeps sink.bytes sink_now.bytes
  pub calm : IsCalm sink sink_now

-- Memory was short, nothing failed and nothing was written.
pub record MemoryFails (plan : Result Plan WordFault) (source source_now sink sink_now : Seen) : Type 0 where
  pub planned : IsOk plan
  pub taken : TookSome source source_now
  pub written : Keeps sink.bytes sink_now.bytes
  pub source_calm : IsCalm source source_now
  pub sink_calm : IsCalm sink sink_now

-- How a run ends, by its status.
abbrev pub Ends : Result Plan WordFault → Seen → Seen → Seen → Seen → Status → Type 0
Ends plan source source_now sink sink_now status.Source = SourceFails plan source source_now sink sink_now
Ends plan source source_now sink sink_now status.Sink = WritesPart plan source source_now sink sink_now
Ends plan source source_now sink sink_now status.Memory = MemoryFails plan source source_now sink sink_now
Ends plan source source_now sink sink_now end = Writes plan source source_now sink sink_now end

abbrev pub IsRun : List (List ℕ) → Seen → Seen → Seen → Seen → Status → Type 0
IsRun words source source_now sink sink_now end = Ends (plan_of words) source source_now sink sink_now end

-- what is found of a problem within the limits of a plan
pub record IsFoundBy (plan : Plan) (problem : Problem) (found : Solution) : Type 0 where
  pub list : found.entries ≡ entries_within (limits_of plan) problem
  pub history : IsComplete node_of (root_within (limits_of plan) problem) plan.workers found.history
  pub of_ring : AllByRecursion (IsEntry problem.ring) found.entries

-- A way of solving problems may be called with workers and a valid problem, and finds what is found of it, unless memory is short.
module _ {F E : Type 0} (calls : Shared F (Plan × (Bor Problem × Unit {0})) (Result Solution E)) (solve : F) where
  abbrev pub MaySolve : Type 0
  MaySolve = (plan : Plan) (problem : Bor Problem) → 0 < plan.workers → IsProblem problem.now → calls.pre solve (plan, (problem, tt))

  abbrev pub Solves : Type 0
  Solves = (plan : Plan) (problem : Bor Problem) (found : Result Solution E) → calls.post solve (plan, (problem, tt)) found
      → IfOk found (IsFoundBy plan problem.now)

-- The problem has room for one more variable, and no name like its.
abbrev pub IsRefutable : Problem → Type 0
IsRefutable problem = (problem.ring.variables ≤ 8) × (list_any (bytes_eq y_name) problem.names ≡ false)

-- What making a reply leaves of the source.
abbrev pub RepliesTo : Plan → Seen → Seen → Result Reply Halt → Type 0
RepliesTo plan before now (Ok reply) = Settles (Ok plan) before now reply.text reply.status
RepliesTo plan before now (Err halt.Source) = Reads (Ok plan) × TookSome before now × Fails before now
RepliesTo plan before now (Err halt.Memory) = TookSome before now × IsCalm before now

-- What writing a text leaves of the sink.
abbrev pub Finishes : List ℕ → Status → Seen → Seen → Status → Type 0
Finishes text end before now result =
    ((result ≡ end) × Appends before.bytes now.bytes text × IsCalm before now)
    ⊎ ((result ≡ status.Sink) × AppendsPrefix before.bytes now.bytes text × Fails before now)

-- A reply was made as it should be, unless memory was short.
abbrev pub Makes : Result Reply Halt → (List ℕ → Status → Type 0) → Type 0
Makes (Ok reply) P = P reply.text reply.status
Makes (Err halt.Memory) P = Unit {0}
Makes (Err halt.Source) P = ⊥

-- What a reply, or the want of one, leaves of the sink, and the status.
abbrev pub Delivers : Result Reply Halt → Seen → Seen → Status → Type 0
Delivers (Ok reply) before now end = Finishes reply.text reply.status before now end
Delivers (Err halt.Source) before now end = (end ≡ status.Source) × (now ≡ before)
Delivers (Err halt.Memory) before now end = (end ≡ status.Memory) × (now ≡ before)

-- The bytes that the source has left, at most as many as the limit, spell the problem.
pub record Spells (source : Seen) (problem : Problem) : Type 0 where
  pub bytes : List ℕ
  pub told : source.bytes ≡ Some bytes
  pub fits : length bytes ≤ limit
  pub spelled : problem_spelled bytes ≡ Ok problem

-- The problem that has to be answered: the one that the command makes by itself, or else the one that the source spells.
abbrev pub HasProblem : Plan → Seen → Problem → Type 0
HasProblem plan source problem = (own_problem plan ≡ Some problem) ⊎ ((own_problem plan ≡ None) × Spells source problem)

-- Words, a problem and counts with which a run has to come to its answer.
pub record Accepts (words : List (List ℕ)) (source source_now sink sink_now : Seen) (plan : Plan) (problem : Problem) : Type 0 where
  pub planned : plan_of words ≡ Ok plan
  pub given : HasProblem plan source problem
  pub source_sound : Rose source.faults source_now.faults → ⊥
  pub sink_sound : Rose sink.faults sink_now.faults → ⊥

-- What is accepted is answered, unless memory is short.
abbrev pub Completes : List (List ℕ) → Seen → Seen → Seen → Seen → Status → Type 0
Completes words source source_now sink sink_now end =
    (plan : Plan) (problem : Problem) → Accepts words source source_now sink sink_now plan problem
    → (end ≡ status.Memory) ⊎ ((text : List ℕ) × IsAnswer plan problem text end × Appends sink.bytes sink_now.bytes text)
