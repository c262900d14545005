-- A text line by line.
use Rattle.std.proofs.Common.{◌≡◌, ℕ, ◌+◌, List, [], ◌∷◌, length, Result, Ok, refl, sym, ap, ◌∙◌, arith}
use Rattle.cgs_list.specs.Results.{IsFault}
use Rattle.cgs_problem.specs.declared.problem.Problem.{Problem}
use Rattle.cgs_problem.specs.declared.fault.TextFault.{TextFault}
use Rattle.cgs_problem.specs.declared.fault.TextKind.{TextKind}
use Rattle.cgs_problem.specs.Drafts.{PartialProblem}
use Rattle.cgs_problem.specs.Lines.{lines_of, without_cr}
use Rattle.cgs_problem.specs.Reading.{taken, read_from, ended_at, at_line}
use Rattle.cgs_text.specs.declared.refusal.LineRefused.{LineRefused}
use Rattle.cgs_text.specs.declared.refusal.LineRefused.TheVariants.{Kind, OutOfMemory}
use Rattle.cgs_text.specs.Refusals.{kind_told, fault_told, refused_at}

abbrev and_so_on : ℕ → List (List ℕ) → Result PartialProblem TextKind → Result Problem TextFault
and_so_on number pieces read = at_line number read (λ next. read_from (number + 1) next pieces)

step : (number : ℕ) (d : PartialProblem) (line : List ℕ) (lines pieces : List (List ℕ)) → lines ≡ line ∷ pieces
    → read_from number d lines ≡ and_so_on number pieces (taken d (without_cr line))
unfolding read_from
step number d line lines pieces e = rw e refl

-- a line was taken
pub goes_on : (number : ℕ) (d next : PartialProblem) (line : List ℕ) (lines pieces : List (List ℕ)) (total : Result Problem TextFault)
    → lines ≡ line ∷ pieces → taken d (without_cr line) ≡ Ok next
    → read_from number d lines ≡ total → read_from (number + 1) next pieces ≡ total
goes_on number d next line lines pieces total e t so_far =
    sym (step number d line lines pieces e ∙ ap (and_so_on number pieces) t) ∙ so_far

-- a line was refused
pub is_refused : (number : ℕ) (d : PartialProblem) (line : List ℕ) (refused : LineRefused) (lines pieces : List (List ℕ)) (total : Result Problem TextFault)
    → lines ≡ line ∷ pieces → IsFault (kind_told refused) (taken d (without_cr line))
    → read_from number d lines ≡ total → IsFault (fault_told (refused_at number refused)) total
is_refused number d line (Kind kind) lines pieces total e t so_far =
    sym so_far ∙ step number d line lines pieces e ∙ ap (and_so_on number pieces) t
is_refused number d line OutOfMemory lines pieces total e t so_far = tt

-- no line is left
pub ends : (number : ℕ) (d : PartialProblem) (lines : List (List ℕ)) (total : Result Problem TextFault) → lines ≡ []
    → read_from number d lines ≡ total → ended_at number d d.stage ≡ total
unfolding read_from
ends number d lines total e so_far = rw e at so_far

pub no_lines : (bytes : List ℕ) → length bytes ≡ 0 → lines_of bytes ≡ []
no_lines [] e = refl
no_lines (byte ∷ bytes) e = absurd (omega arith)
