-- The law of printing and reading, as a fact.
use Rattle.std.specs.Prelude.{ℕ, ◌≡◌, List, Ok}
use Rattle.cgs_problem.specs.declared.problem.Problem.{Problem}
use Rattle.cgs_problem.specs.Reading.{problem_spelled}
use Rattle.cgs_problem.specs.Problems.{IsProblem}
use Rattle.cgs_canonical.specs.Printing.{problem_text}

-- the text printed for a problem spells it, if some bytes spell it
abbrev pub IsReadBack : Problem → Type 0
IsReadBack problem = (bytes : List ℕ) → problem_spelled bytes ≡ Ok problem → problem_spelled (problem_text problem) ≡ Ok problem

-- so it is of all problems
abbrev pub ReadsBack : Type 0
ReadsBack = (problem : Problem) → IsReadBack problem

-- a text spells valid problems alone
abbrev pub SpellsValid : Type 0
SpellsValid = (bytes : List ℕ) (problem : Problem) → problem_spelled bytes ≡ Ok problem → IsProblem problem
