use Rattle.std.proofs.Common.{◌≡◌, ◌++◌, List, ℕ, [], get_or, ap, ◌∙◌, sym, subst}
use Rattle.std.proofs.lemmas.List.{append-nil}
use Rattle.cgs_canonical.specs.Printing.{point_line, AppendsFront}
use Rattle.cgs_canonical.proofs.PrintLemmas.{leaves_all, leaves_equal, leaves_item, leaves_no_item, leaves_none, front_of_item, at_exit}
use Rattle.cgs_canonical.proofs.line.point_lines.Goals as goal

pub loop-point-init : goal.loop-point-init
loop-point-init c = leaves_equal _ (leaves_all _ _) (sym (append-nil _))

pub returns-in_err-point_line : goal.returns-in_err-point_line
returns-in_err-point_line c =
    let printed : point_line c.point-item.result ≡ point_line (get_or c.args.points.now c.loop-point.point-index c.point-item.result) =
    ap point_line c.point-item.is in
    at_exit _ _ _ _ c.from_residual.ensures.0
    (front_of_item point_line c.args.points.now c.loop-point.point-index c.point-item.result [] c.loop-point-test.true c.loop-point.invariant
    (subst (AppendsFront c.loop-point.out c.point_line.new.out) printed c.in_err-point_line.ensures))

pub loop-point-preserved : goal.loop-point-preserved
loop-point-preserved c =
    let printed : point_line c.point-item.result ≡ point_line (get_or c.args.points.now c.loop-point.point-index c.point-item.result) =
    ap point_line c.point-item.is in
    leaves_item point_line c.args.points.now c.loop-point.point-index c.point-item.result [] c.loop-point-test.true c.loop-point.invariant
    (c.in_ok-point_line.ensures ∙ ap (λ (xs : List ℕ). c.loop-point.out ++ xs) printed)

pub returns : goal.returns
returns c = leaves_none (leaves_no_item point_line c.args.points.now c.loop-point.point-index [] c.loop-point-test.false c.loop-point.invariant)
