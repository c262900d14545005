use Rattle.std.proofs.Common.{◌++◌, List, ℕ, codes, append_assoc}
use Rattle.cgs_canonical.specs.Printing.{polynomial_text}
use Rattle.cgs_canonical.proofs.PrintLemmas.{Leaves, leaves_all, leaves_equal, leaves_rest, front_of_piece, at_exit, ends, extended}
use Rattle.cgs_canonical.proofs.line.polynomial_line.Goals as goal

all_left : (keyword f old : List ℕ) → Leaves old old (keyword ++ codes " " ++ f ++ codes "\n") ((keyword ++ codes " ") ++ (f ++ codes "\n"))
all_left keyword f old = leaves_equal _ (leaves_all old _) (append_assoc (keyword ++ codes " ") f (codes "\n"))

pub returns-in_err-push_all : goal.returns-in_err-push_all
returns-in_err-push_all c =
    let keyword = c.args.keyword.now in
    let f = polynomial_text c.args.ring.now c.args.names.now c.args.f.now in
    at_exit _ _ _ _ c.from_residual.ensures.0
    (front_of_piece (keyword ++ codes " ") (f ++ codes "\n") (all_left keyword f c.args.out.now) c.in_err-push_all.ensures)

pub returns-in_err-polynomial_text : goal.returns-in_err-polynomial_text
returns-in_err-polynomial_text c =
    let keyword = c.args.keyword.now in
    let f = polynomial_text c.args.ring.now c.args.names.now c.args.f.now in
    at_exit _ _ _ _ c.from_residual-in_err-polynomial_text.ensures.0
    (front_of_piece f (codes "\n") (leaves_rest (keyword ++ codes " ") (f ++ codes "\n") (all_left keyword f c.args.out.now) c.in_ok-push_all.ensures)
    c.in_err-polynomial_text.ensures)

pub returns : goal.returns
returns c =
    let keyword = c.args.keyword.now in
    let f = polynomial_text c.args.ring.now c.args.names.now c.args.f.now in
    ends _ _ (codes "\n")
    (leaves_rest f (codes "\n") (leaves_rest (keyword ++ codes " ") (f ++ codes "\n") (all_left keyword f c.args.out.now) c.in_ok-push_all.ensures)
    c.in_ok-polynomial_text.ensures)
    (extended _ _ _ _ c.extend_from_slice.ensures.ok c.extend_from_slice.ensures.err)
