-- What a text spells: line by line a problem, or the first fault with its line.
use Rattle.std.specs.Prelude.{ℕ, ◌+◌, List, [], ◌∷◌, if◌then◌else◌, Result, Ok, Err}
use Rattle.cgs_list.specs.Results.{and_then}
use Rattle.cgs_problem.specs.declared.problem.Problem.{Problem}
use Rattle.cgs_problem.specs.declared.fault.TextFault.{TextFault}
use Rattle.cgs_problem.specs.declared.fault.TextKind.{TextKind}
use Rattle.cgs_problem.specs.declared.fault.TextKind.TheVariants as fault
use Rattle.cgs_problem.specs.Lexemes.{line_lexemes}
use Rattle.cgs_problem.specs.Lines.{lines_of, without_cr, is_passed_over}
use Rattle.cgs_problem.specs.Drafts.{Stage, ended, PartialProblem, nothing, ring_of, names_of, line_said}

-- A line that is not passed over. After the end none may come, whatever it has.
abbrev pub line_read : Stage → PartialProblem → List ℕ → Result PartialProblem TextKind
line_read ended partial line = Err fault.After
line_read stage partial line = and_then (line_lexemes line) (line_said stage partial)

abbrev pub taken : PartialProblem → List ℕ → Result PartialProblem TextKind
taken partial line = if is_passed_over line then Ok partial else line_read partial.stage partial line

abbrev pub problem_of : PartialProblem → Problem
problem_of partial = record {
  ring = ring_of partial;
  names = names_of partial;
  zero = partial.zero;
  nonzero = partial.nonzero;
  polys = partial.polys;
  thesis = partial.thesis;
  points = partial.points;
}

abbrev pub fault_at : {A : Type 0} → ℕ → TextKind → Result A TextFault
fault_at line kind = Err (record { line = line; kind = kind })

-- At the end of the text the line `end` has to have been read.
abbrev pub ended_at : ℕ → PartialProblem → Stage → Result Problem TextFault
ended_at line partial ended = Ok (problem_of partial)
ended_at line partial stage = fault_at line fault.End

-- A fault gets the number of its line; else the text goes on.
abbrev pub at_line : ℕ → Result PartialProblem TextKind → (PartialProblem → Result Problem TextFault) → Result Problem TextFault
at_line line (Ok partial) more = more partial
at_line line (Err kind) more = fault_at line kind

-- the lines from that number on
unfoldable pub read_from : ℕ → PartialProblem → List (List ℕ) → Result Problem TextFault
read_from line partial [] = ended_at line partial partial.stage
read_from line partial (piece ∷ pieces) = at_line line (taken partial (without_cr piece)) (λ next. read_from (line + 1) next pieces)

abbrev pub problem_spelled : List ℕ → Result Problem TextFault
problem_spelled bytes = read_from 1 nothing (lines_of bytes)
