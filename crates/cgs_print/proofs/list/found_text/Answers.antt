use Rattle.std.proofs.Common.{◌≡◌, subst}
use Rattle.cgs_report.specs.Report.{findings_of}
use Rattle.cgs_canonical.specs.Printing.{Prints}
use Rattle.cgs_print.specs.Printing.{solved_text, findings_text}
use Rattle.cgs_canonical.proofs.PrintLemmas.{front_first, last_part, at_exit}
use Rattle.cgs_print.proofs.list.found_text.Goals as goal

pub returns-in_err-solved_text-in-Solved : goal.returns-in_err-solved_text-in-Solved
returns-in_err-solved_text-in-Solved c =
    let basis = c.in-Solved.basis in
    let solved = solved_text c.args.ring.now c.args.names.now basis c.in-Solved.tested in
    rw c.in-Solved.is
    (at_exit _ _ _ _ c.from_residual.ensures.0
    (front_first _ _ solved (findings_text (findings_of c.args.ring.now basis)) c.in_err-solved_text-in-Solved.ensures))

pub returns-in_ok-solved_text-in-Solved : goal.returns-in_ok-solved_text-in-Solved
returns-in_ok-solved_text-in-Solved c =
    let basis = c.in-Solved.basis in
    let solved = solved_text c.args.ring.now c.args.names.now basis c.in-Solved.tested in
    let exact : c.report.result ≡ findings_of c.args.ring.now basis = rw c.in-Solved.is at c.report.ensures.exact in
    rw c.in-Solved.is
    (last_part _ _ _ _ solved (findings_text (findings_of c.args.ring.now basis)) c.in_ok-solved_text-in-Solved.ensures
    (subst (λ found. Prints c.findings_text.result c.solved_text.new.out c.findings_text.new.out (findings_text found)) exact c.findings_text.ensures))
