use Rattle.std.proofs.Common.{◌≡◌, ◌++◌, ℕ, length}
use Rattle.cgs_list.specs.Results.{mapped}
use Rattle.cgs_point.specs.Points.{reduced_modulo}
use Rattle.cgs_problem.specs.Drafts.{numbers_said}
use Rattle.cgs_text.proofs.body.read_numbers.Given as goal

abbrev pub invariant-loop-lexeme : goal.invariant-loop-lexeme
invariant-loop-lexeme l = (p : ℕ) → mapped (λ numbers. reduced_modulo p l.numbers ++ numbers) (numbers_said p l.rest) ≡ numbers_said p l.fn.line

abbrev pub decreases-loop-lexeme : goal.decreases-loop-lexeme
decreases-loop-lexeme l = length l.rest
