use Rattle.std.proofs.Common.{◌≡◌, ◌+◌, ◌≤◌, length}
use Rattle.cgs_problem.specs.Lines.{lines_of}
use Rattle.cgs_problem.specs.Reading.{read_from, problem_spelled}
use Rattle.cgs_text.specs.Stages.{meaning, IsProgress}
use Rattle.cgs_text.proofs.read.read_problem.Given as goal

abbrev pub invariant-loop-rest : goal.invariant-loop-rest
invariant-loop-rest l = record {
  progress : IsProgress l.progress;
  few : l.number + length l.rest ≤ 1 + length l.bytes;
  so_far : read_from l.number (meaning l.progress) (lines_of l.rest) ≡ problem_spelled l.bytes;
}

abbrev pub decreases-loop-rest : goal.decreases-loop-rest
decreases-loop-rest l = length l.rest
