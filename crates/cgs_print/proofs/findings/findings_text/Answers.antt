use Rattle.std.proofs.Common.{ℕ, List, ◌++◌, codes}
use Rattle.cgs_report.specs.declared.entry.Findings.{Findings}
use Rattle.cgs_print.specs.Printing.{answer_line, standard_line}
use Rattle.cgs_canonical.proofs.PrintLemmas.{front_first, front_second, both_parts, last_part, at_exit}
use Rattle.cgs_print.proofs.findings.findings_text.Goals as goal

abbrev solvable : Findings → List ℕ
solvable findings = answer_line (codes "solvable") findings.solvable

abbrev finite : Findings → List ℕ
finite findings = answer_line (codes "finite") findings.finite

pub returns-in_err-answer_line : goal.returns-in_err-answer_line
returns-in_err-answer_line c =
    let found = c.args.findings in
    at_exit _ _ _ _ c.from_residual.ensures.0
    (front_first _ _ (solvable found ++ finite found) (standard_line found.standard)
    (front_first _ _ (solvable found) (finite found) c.in_err-answer_line.ensures))

pub returns-in_err-answer_line-2 : goal.returns-in_err-answer_line-2
returns-in_err-answer_line-2 c =
    let found = c.args.findings in
    at_exit _ _ _ _ c.from_residual-in_err-answer_line-2.ensures.0
    (front_first _ _ (solvable found ++ finite found) (standard_line found.standard)
    (front_second _ _ _ (solvable found) (finite found) c.in_ok-answer_line.ensures c.in_err-answer_line-2.ensures))

pub returns : goal.returns
returns c =
    let found = c.args.findings in
    last_part _ _ _ _ (solvable found ++ finite found) (standard_line found.standard)
    (both_parts _ _ _ (solvable found) (finite found) c.in_ok-answer_line.ensures c.in_ok-answer_line-2.ensures) c.standard_line.ensures
