use Rattle.std.proofs.Common.{◌≡◌, ◌++◌, List, ℕ, length, get_or, ap, ◌∙◌, subst}
use Rattle.cgs_canonical.specs.Printing.{AppendsFront}
use Rattle.cgs_print.specs.Locating.{point_text, points_line}
use Rattle.cgs_canonical.proofs.PrintLemmas.{leaves_item, leaves_no_item, front_of_item, at_exit, ends}
use Rattle.cgs_print.proofs.locating.located_text.Goals as goal

pub returns-in_err-point_text : goal.returns-in_err-point_text
returns-in_err-point_text c =
    let points = c.as_slice-point-items.result.now in
    let last = points_line (length c.args.problem.now.points) in
    let text = point_text c.args.problem.now c.args.entries.now in
    let printed : text c.point-item.result ≡ text (get_or points c.loop-point.point-index c.point-item.result) = ap text c.point-item.is in
    at_exit _ _ _ _ c.from_residual.ensures.0
    (front_of_item text points c.loop-point.point-index c.point-item.result last c.loop-point-test.true c.loop-point.invariant
    (subst (AppendsFront c.loop-point.out c.point_text.new.out) printed c.in_err-point_text.ensures))

pub loop-point-preserved : goal.loop-point-preserved
loop-point-preserved c =
    let points = c.as_slice-point-items.result.now in
    let last = points_line (length c.args.problem.now.points) in
    let text = point_text c.args.problem.now c.args.entries.now in
    let printed : text c.point-item.result ≡ text (get_or points c.loop-point.point-index c.point-item.result) = ap text c.point-item.is in
    leaves_item text points c.loop-point.point-index c.point-item.result last c.loop-point-test.true c.loop-point.invariant
    (c.in_ok-point_text.ensures ∙ ap (λ (xs : List ℕ). c.loop-point.out ++ xs) printed)

pub returns : goal.returns
returns c =
    let points = c.as_slice-point-items.result.now in
    let last = points_line (length c.args.problem.now.points) in
    let text = point_text c.args.problem.now c.args.entries.now in
    ends _ _ last (leaves_no_item text points c.loop-point.point-index last c.loop-point-test.false c.loop-point.invariant)
    (rw (← c.len.ensures) c.points_line.ensures)
