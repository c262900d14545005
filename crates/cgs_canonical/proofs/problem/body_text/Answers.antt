use Rattle.std.proofs.Common.{◌≡◌, ◌++◌, ℕ, List, codes, ap, ◌∙◌, subst, append_assoc}
use Rattle.std.specs.List.{flat_map}
use Rattle.cgs_problem.specs.declared.problem.Problem.{Problem}
use Rattle.cgs_canonical.specs.Printing.{polynomial_lines, thesis_line, point_line, body_text, AppendsFront, Prints}
use Rattle.cgs_canonical.proofs.PrintLemmas.{Leaves, leaves_all, leaves_equal, leaves_rest, front_of_piece, at_exit, ends}
use Rattle.cgs_canonical.proofs.ConditionLemmas.{conditions_polys}
use Rattle.cgs_canonical.proofs.problem.body_text.Goals as goal

abbrev zero_of : Problem → List ℕ
zero_of problem = polynomial_lines (codes "zero") problem.ring problem.names problem.zero

abbrev nonzero_of : Problem → List ℕ
nonzero_of problem = polynomial_lines (codes "nonzero") problem.ring problem.names problem.nonzero

abbrev polys_of : Problem → List ℕ
polys_of problem = polynomial_lines (codes "poly") problem.ring problem.names problem.polys

abbrev thesis_of : Problem → List ℕ
thesis_of problem = thesis_line problem.ring problem.names problem.thesis

abbrev points_of : Problem → List ℕ
points_of problem = flat_map point_line problem.points

abbrev after_zero : Problem → List ℕ
after_zero problem = nonzero_of problem ++ (polys_of problem ++ (thesis_of problem ++ points_of problem))

all_left : (problem : Problem) (old : List ℕ) → Leaves old old (body_text problem) (zero_of problem ++ after_zero problem)
all_left problem old =
    let a = zero_of problem in
    let b = nonzero_of problem in
    let c = polys_of problem in
    let d = thesis_of problem in
    let e = points_of problem in
    leaves_equal _ (leaves_all old _) (append_assoc (a ++ b ++ c) d e ∙ append_assoc (a ++ b) c (d ++ e) ∙ append_assoc a b (c ++ (d ++ e)))

zero_done : (problem : Problem) (old new : List ℕ) → new ≡ old ++ zero_of problem → Leaves old new (body_text problem) (after_zero problem)
zero_done problem old new e = leaves_rest (zero_of problem) (after_zero problem) (all_left problem old) e

nonzero_done : (problem : Problem) (old mid new : List ℕ) → Leaves old mid (body_text problem) (after_zero problem) → new ≡ mid ++ nonzero_of problem
    → Leaves old new (body_text problem) (polys_of problem ++ (thesis_of problem ++ points_of problem))
nonzero_done problem old mid new l e = leaves_rest (nonzero_of problem) (polys_of problem ++ (thesis_of problem ++ points_of problem)) l e

polys_done : (problem : Problem) (old mid new : List ℕ) → Leaves old mid (body_text problem) (polys_of problem ++ (thesis_of problem ++ points_of problem))
    → new ≡ mid ++ polys_of problem
    → Leaves old new (body_text problem) (thesis_of problem ++ points_of problem)
polys_done problem old mid new l e = leaves_rest (polys_of problem) (thesis_of problem ++ points_of problem) l e

pub returns-in_err-polynomial_lines : goal.returns-in_err-polynomial_lines
returns-in_err-polynomial_lines c =
    let problem : Problem = c.args.problem.now in
    let zero : polynomial_lines (codes "zero") problem.ring c.as_slice-names.result.now c.as_slice.result.now ≡ zero_of problem =
    cc (c.as_slice-names.ensures, c.as_slice.ensures) in
    at_exit _ _ _ _ c.from_residual.ensures.0
    (front_of_piece (zero_of problem) (after_zero problem) (all_left problem c.args.out.now)
    (subst (AppendsFront c.args.out.now c.polynomial_lines.new.out) zero c.in_err-polynomial_lines.ensures))

pub polynomial_lines-requires-2-clause-polys : goal.polynomial_lines-requires-2-clause-polys
polynomial_lines-requires-2-clause-polys c = rw c.as_slice-2.ensures (conditions_polys c.args.problem.now.ring c.args.problem.now.nonzero c.requires.nonzero)

pub returns-in_err-polynomial_lines-2 : goal.returns-in_err-polynomial_lines-2
returns-in_err-polynomial_lines-2 c =
    let problem : Problem = c.args.problem.now in
    let zero : polynomial_lines (codes "zero") problem.ring c.as_slice-names.result.now c.as_slice.result.now ≡ zero_of problem =
    cc (c.as_slice-names.ensures, c.as_slice.ensures) in
    let nonzero : polynomial_lines (codes "nonzero") problem.ring c.as_slice-names.result.now c.as_slice-2.result.now ≡ nonzero_of problem =
    cc (c.as_slice-names.ensures, c.as_slice-2.ensures) in
    at_exit _ _ _ _ c.from_residual-in_err-polynomial_lines-2.ensures.0
    (front_of_piece (nonzero_of problem) (polys_of problem ++ (thesis_of problem ++ points_of problem))
    (zero_done problem c.args.out.now _ (c.in_ok-polynomial_lines.ensures ∙ ap (λ (xs : List ℕ). c.args.out.now ++ xs) zero))
    (subst (AppendsFront c.polynomial_lines.new.out c.polynomial_lines-2.new.out) nonzero c.in_err-polynomial_lines-2.ensures))

pub returns-in_err-polynomial_lines-3 : goal.returns-in_err-polynomial_lines-3
returns-in_err-polynomial_lines-3 c =
    let problem : Problem = c.args.problem.now in
    let zero : polynomial_lines (codes "zero") problem.ring c.as_slice-names.result.now c.as_slice.result.now ≡ zero_of problem =
    cc (c.as_slice-names.ensures, c.as_slice.ensures) in
    let nonzero : polynomial_lines (codes "nonzero") problem.ring c.as_slice-names.result.now c.as_slice-2.result.now ≡ nonzero_of problem =
    cc (c.as_slice-names.ensures, c.as_slice-2.ensures) in
    let polys : polynomial_lines (codes "poly") problem.ring c.as_slice-names.result.now c.as_slice-3.result.now ≡ polys_of problem =
    cc (c.as_slice-names.ensures, c.as_slice-3.ensures) in
    let first = zero_done problem c.args.out.now _ (c.in_ok-polynomial_lines.ensures ∙ ap (λ (xs : List ℕ). c.args.out.now ++ xs) zero) in
    let second = nonzero_done problem c.args.out.now _ _ first
    (c.in_ok-polynomial_lines-2.ensures ∙ ap (λ (xs : List ℕ). c.polynomial_lines.new.out ++ xs) nonzero) in
    at_exit _ _ _ _ c.from_residual-in_err-polynomial_lines-3.ensures.0
    (front_of_piece (polys_of problem) (thesis_of problem ++ points_of problem) second
    (subst (AppendsFront c.polynomial_lines-2.new.out c.polynomial_lines-3.new.out) polys c.in_err-polynomial_lines-3.ensures))

pub returns-in_err-thesis_line : goal.returns-in_err-thesis_line
returns-in_err-thesis_line c =
    let problem : Problem = c.args.problem.now in
    let zero : polynomial_lines (codes "zero") problem.ring c.as_slice-names.result.now c.as_slice.result.now ≡ zero_of problem =
    cc (c.as_slice-names.ensures, c.as_slice.ensures) in
    let nonzero : polynomial_lines (codes "nonzero") problem.ring c.as_slice-names.result.now c.as_slice-2.result.now ≡ nonzero_of problem =
    cc (c.as_slice-names.ensures, c.as_slice-2.ensures) in
    let polys : polynomial_lines (codes "poly") problem.ring c.as_slice-names.result.now c.as_slice-3.result.now ≡ polys_of problem =
    cc (c.as_slice-names.ensures, c.as_slice-3.ensures) in
    let thesis : thesis_line problem.ring c.as_slice-names.result.now problem.thesis ≡ thesis_of problem =
    ap (λ names. thesis_line problem.ring names problem.thesis) c.as_slice-names.ensures in
    let first = zero_done problem c.args.out.now _ (c.in_ok-polynomial_lines.ensures ∙ ap (λ (xs : List ℕ). c.args.out.now ++ xs) zero) in
    let second = nonzero_done problem c.args.out.now _ _ first
    (c.in_ok-polynomial_lines-2.ensures ∙ ap (λ (xs : List ℕ). c.polynomial_lines.new.out ++ xs) nonzero) in
    let third = polys_done problem c.args.out.now _ _ second
    (c.in_ok-polynomial_lines-3.ensures ∙ ap (λ (xs : List ℕ). c.polynomial_lines-2.new.out ++ xs) polys) in
    at_exit _ _ _ _ c.from_residual-in_err-thesis_line.ensures.0
    (front_of_piece (thesis_of problem) (points_of problem) third
    (subst (AppendsFront c.polynomial_lines-3.new.out c.thesis_line.new.out) thesis c.in_err-thesis_line.ensures))

pub returns : goal.returns
returns c =
    let problem : Problem = c.args.problem.now in
    let zero : polynomial_lines (codes "zero") problem.ring c.as_slice-names.result.now c.as_slice.result.now ≡ zero_of problem =
    cc (c.as_slice-names.ensures, c.as_slice.ensures) in
    let nonzero : polynomial_lines (codes "nonzero") problem.ring c.as_slice-names.result.now c.as_slice-2.result.now ≡ nonzero_of problem =
    cc (c.as_slice-names.ensures, c.as_slice-2.ensures) in
    let polys : polynomial_lines (codes "poly") problem.ring c.as_slice-names.result.now c.as_slice-3.result.now ≡ polys_of problem =
    cc (c.as_slice-names.ensures, c.as_slice-3.ensures) in
    let thesis : thesis_line problem.ring c.as_slice-names.result.now problem.thesis ≡ thesis_of problem =
    ap (λ names. thesis_line problem.ring names problem.thesis) c.as_slice-names.ensures in
    let points : flat_map point_line c.as_slice-4.result.now ≡ points_of problem = ap (λ ps. flat_map point_line ps) c.as_slice-4.ensures in
    let first = zero_done problem c.args.out.now _ (c.in_ok-polynomial_lines.ensures ∙ ap (λ (xs : List ℕ). c.args.out.now ++ xs) zero) in
    let second = nonzero_done problem c.args.out.now _ _ first
    (c.in_ok-polynomial_lines-2.ensures ∙ ap (λ (xs : List ℕ). c.polynomial_lines.new.out ++ xs) nonzero) in
    let third = polys_done problem c.args.out.now _ _ second
    (c.in_ok-polynomial_lines-3.ensures ∙ ap (λ (xs : List ℕ). c.polynomial_lines-2.new.out ++ xs) polys) in
    let fourth = leaves_rest (thesis_of problem) (points_of problem) third
    (c.in_ok-thesis_line.ensures ∙ ap (λ (xs : List ℕ). c.polynomial_lines-3.new.out ++ xs) thesis) in
    ends _ _ (points_of problem) fourth (subst
    (λ (text : List ℕ). Prints c.point_lines.result c.thesis_line.new.out c.point_lines.new.out text) points c.point_lines.ensures)
