use Rattle.std.proofs.Common.{◌++◌, ℕ, List, codes, append_assoc}
use Rattle.cgs_problem.specs.declared.problem.Problem.{Problem}
use Rattle.cgs_canonical.specs.Printing.{header_text, body_text, problem_text}
use Rattle.cgs_canonical.proofs.PrintLemmas.{Leaves, leaves_all, leaves_equal, leaves_rest, front_of_piece, at_exit, ends, extended}
use Rattle.cgs_canonical.proofs.RoundTripLemmas.{reads_back}
use Rattle.cgs_canonical.proofs.problem.problem_text.Goals as goal

all_left : (problem : Problem) (old : List ℕ) → Leaves old old (problem_text problem) (header_text problem ++ (body_text problem ++ codes "end\n"))
all_left problem old = leaves_equal _ (leaves_all old _) (append_assoc (header_text problem) (body_text problem) (codes "end\n"))

pub returns-in_err-header_text-clause-text : goal.returns-in_err-header_text-clause-text
returns-in_err-header_text-clause-text c =
    let problem : Problem = c.args.problem.now in
    at_exit _ _ _ _ c.from_residual.ensures.0
    (front_of_piece (header_text problem) (body_text problem ++ codes "end\n") (all_left problem c.args.out.now) c.in_err-header_text.ensures)

pub returns-in_err-body_text-clause-text : goal.returns-in_err-body_text-clause-text
returns-in_err-body_text-clause-text c =
    let problem : Problem = c.args.problem.now in
    at_exit _ _ _ _ c.from_residual-in_err-body_text.ensures.0
    (front_of_piece (body_text problem) (codes "end\n")
    (leaves_rest (header_text problem) (body_text problem ++ codes "end\n") (all_left problem c.args.out.now) c.in_ok-header_text.ensures)
    c.in_err-body_text.ensures)

pub returns-clause-text : goal.returns-clause-text
returns-clause-text c =
    let problem : Problem = c.args.problem.now in
    ends _ _ (codes "end\n")
    (leaves_rest (body_text problem) (codes "end\n")
    (leaves_rest (header_text problem) (body_text problem ++ codes "end\n") (all_left problem c.args.out.now) c.in_ok-header_text.ensures)
    c.in_ok-body_text.ensures)
    (extended _ _ _ _ c.extend_from_slice.ensures.ok c.extend_from_slice.ensures.err)

pub returns-in_err-header_text-clause-reads_back : goal.returns-in_err-header_text-clause-reads_back
returns-in_err-header_text-clause-reads_back c = λ bytes e. reads_back bytes c.args.problem.now e

pub returns-in_err-body_text-clause-reads_back : goal.returns-in_err-body_text-clause-reads_back
returns-in_err-body_text-clause-reads_back c = λ bytes e. reads_back bytes c.args.problem.now e

pub returns-clause-reads_back : goal.returns-clause-reads_back
returns-clause-reads_back c = λ bytes e. reads_back bytes c.args.problem.now e
