-- The text printed for a problem that some bytes spell spells that problem.
use Rattle.std.proofs.Common.{◌≡◌, ℕ, List, ◌++◌, codes, Ok, ap, ◌∙◌, append_assoc, subst}
use Rattle.cgs_problem.specs.declared.problem.Problem.{Problem}
use Rattle.cgs_problem.specs.Lines.{lines_of}
use Rattle.cgs_problem.specs.Drafts.{PartialProblem, nothing}
use Rattle.cgs_problem.specs.Reading.{problem_of, read_from, problem_spelled}
use Rattle.cgs_canonical.specs.Printing.{header_text, body_text, problem_text}
use Rattle.cgs_canonical.proofs.HeaderLemmas.{HasHeader, header_reads}
use Rattle.cgs_canonical.proofs.BodyLemmas.{IsBody, body_reads}
use Rattle.cgs_canonical.proofs.SpelledLemmas.{IsSpelled, spelled_valid}

draft_reads : (d : PartialProblem) → HasHeader d → IsBody d → problem_spelled (problem_text (problem_of d)) ≡ Ok (problem_of d)
draft_reads d h b =
    ap (λ text. read_from 1 nothing (lines_of text)) (append_assoc (header_text (problem_of d)) (body_text (problem_of d)) (codes "end\n"))
    ∙ header_reads d (body_text (problem_of d) ++ codes "end\n") h
    ∙ body_reads 5 d h b

pub reads_back : (bytes : List ℕ) (problem : Problem) → problem_spelled bytes ≡ Ok problem → problem_spelled (problem_text problem) ≡ Ok problem
reads_back bytes problem e =
    let s : IsSpelled problem = spelled_valid bytes problem e in
    subst (λ p. problem_spelled (problem_text p) ≡ Ok p) s.same (draft_reads s.draft s.header s.body)
