use Rattle.std.proofs.Common.{◌≡◌, ◌++◌, List, ℕ, [], get_or, ap, ◌∙◌, sym, subst}
use Rattle.std.proofs.lemmas.List.{append-nil}
use Rattle.cgs_canonical.specs.Printing.{polynomial_line, AppendsFront}
use Rattle.cgs_canonical.proofs.PrintLemmas.{leaves_all, leaves_equal, leaves_item, leaves_no_item, leaves_none, front_of_item, at_exit}
use Rattle.cgs_canonical.proofs.line.polynomial_lines.Goals as goal

pub loop-f-init : goal.loop-f-init
loop-f-init c = leaves_equal _ (leaves_all _ _) (sym (append-nil _))

pub returns-in_err-polynomial_line : goal.returns-in_err-polynomial_line
returns-in_err-polynomial_line c =
    let line = polynomial_line c.args.keyword.now c.args.ring.now c.args.names.now in
    let printed : line c.f-item.result ≡ line (get_or c.args.list.now c.loop-f.f-index c.f-item.result) = ap line c.f-item.is in
    at_exit _ _ _ _ c.from_residual.ensures.0
    (front_of_item line c.args.list.now c.loop-f.f-index c.f-item.result [] c.loop-f-test.true c.loop-f.invariant
    (subst (AppendsFront c.loop-f.out c.polynomial_line.new.out) printed c.in_err-polynomial_line.ensures))

pub loop-f-preserved : goal.loop-f-preserved
loop-f-preserved c =
    let line = polynomial_line c.args.keyword.now c.args.ring.now c.args.names.now in
    let printed : line c.f-item.result ≡ line (get_or c.args.list.now c.loop-f.f-index c.f-item.result) = ap line c.f-item.is in
    leaves_item line c.args.list.now c.loop-f.f-index c.f-item.result [] c.loop-f-test.true c.loop-f.invariant
    (c.in_ok-polynomial_line.ensures ∙ ap (λ (xs : List ℕ). c.loop-f.out ++ xs) printed)

pub returns : goal.returns
returns c =
    let line = polynomial_line c.args.keyword.now c.args.ring.now c.args.names.now in
    leaves_none (leaves_no_item line c.args.list.now c.loop-f.f-index [] c.loop-f-test.false c.loop-f.invariant)
