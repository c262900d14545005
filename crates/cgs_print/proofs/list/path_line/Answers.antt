use Rattle.std.proofs.Common.{◌++◌, ℕ, List, Bor}
use Rattle.std.specs.List.{flat_map}
use Rattle.cgs_print.specs.Printing.{path_text}
use Rattle.cgs_canonical.proofs.PrintLemmas.{front_first, front_second, both_parts, last_part, at_exit}
use Rattle.cgs_print.proofs.list.path_line.Goals as goal

abbrev joined : List (Bor (List ℕ)) → List ℕ
joined pieces = flat_map (λ (piece : Bor (List ℕ)). piece.now) pieces

pub returns-in_err-path_text : goal.returns-in_err-path_text
returns-in_err-path_text c =
    let before = c.args.before.now in
    let path = path_text c.args.path.now in
    at_exit _ _ _ _ c.from_residual-in_err-path_text.ensures.0
    (front_first _ _ (before ++ path) (joined c.args.after.now)
    (front_second _ _ _ before path c.in_ok-extend_from_slice.ensures.ok c.in_err-path_text.ensures))

pub returns : goal.returns
returns c =
    let before = c.args.before.now in
    let path = path_text c.args.path.now in
    last_part _ _ _ _ (before ++ path) (joined c.args.after.now)
    (both_parts _ _ _ before path c.in_ok-extend_from_slice.ensures.ok c.in_ok-path_text.ensures) c.push_all.ensures
