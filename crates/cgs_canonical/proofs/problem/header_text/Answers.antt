use Rattle.std.proofs.Common.{◌≡◌, ◌++◌, ℕ, List, codes, take, drop, ap, ◌∙◌, subst}
use Rattle.cgs_problem.specs.declared.problem.Problem.{Problem}
use Rattle.cgs_canonical.specs.Printing.{field_line, names_line, order_line, header_text, AppendsFront}
use Rattle.cgs_canonical.proofs.PrintLemmas.{Leaves, lines_left, leaves_rest, front_of_piece, at_exit, ends}
use Rattle.cgs_canonical.proofs.problem.header_text.Goals as goal

abbrev field_of : Problem → List ℕ
field_of problem = field_line problem.ring.modulus

abbrev parameters_of : Problem → List ℕ
parameters_of problem = names_line (codes "parameters") (drop problem.ring.variables problem.names)

abbrev variables_of : Problem → List ℕ
variables_of problem = names_line (codes "variables") (take problem.ring.variables problem.names)

abbrev order_of : Problem → List ℕ
order_of problem = order_line problem.ring.kind

all_left : (problem : Problem) (old : List ℕ)
    → Leaves old old (header_text problem) (field_of problem ++ (parameters_of problem ++ (variables_of problem ++ order_of problem)))
all_left problem old = lines_left old (field_of problem) (parameters_of problem) (variables_of problem) (order_of problem)

after_field : (problem : Problem) (old new : List ℕ) → new ≡ old ++ field_of problem
    → Leaves old new (header_text problem) (parameters_of problem ++ (variables_of problem ++ order_of problem))
after_field problem old new e = leaves_rest (field_of problem) (parameters_of problem ++ (variables_of problem ++ order_of problem)) (all_left problem old) e

after_parameters : (problem : Problem) (old mid new : List ℕ) → mid ≡ old ++ field_of problem → new ≡ mid ++ parameters_of problem
    → Leaves old new (header_text problem) (variables_of problem ++ order_of problem)
after_parameters problem old mid new d e = leaves_rest (parameters_of problem) (variables_of problem ++ order_of problem) (after_field problem old mid d) e

pub returns-in_err-field_line : goal.returns-in_err-field_line
returns-in_err-field_line c =
    let problem : Problem = c.args.problem.now in
    at_exit _ _ _ _ c.from_residual.ensures.0
    (front_of_piece (field_of problem) (parameters_of problem ++ (variables_of problem ++ order_of problem))
    (all_left problem c.args.out.now) c.in_err-field_line.ensures)

pub returns-in_err-names_line : goal.returns-in_err-names_line
returns-in_err-names_line c =
    let problem : Problem = c.args.problem.now in
    let parameters : names_line (codes "parameters") c.split_at.result.1.now ≡ parameters_of problem = cc (c.split_at.ensures.back, c.as_slice.ensures) in
    at_exit _ _ _ _ c.from_residual-in_err-names_line.ensures.0
    (front_of_piece (parameters_of problem) (variables_of problem ++ order_of problem)
    (after_field problem c.args.out.now _ c.in_ok-field_line.ensures)
    (subst (AppendsFront c.field_line.new.out c.names_line.new.out) parameters c.in_err-names_line.ensures))

pub returns-in_err-names_line-2 : goal.returns-in_err-names_line-2
returns-in_err-names_line-2 c =
    let problem : Problem = c.args.problem.now in
    let parameters : names_line (codes "parameters") c.split_at.result.1.now ≡ parameters_of problem = cc (c.split_at.ensures.back, c.as_slice.ensures) in
    let variables : names_line (codes "variables") c.split_at.result.0.now ≡ variables_of problem = cc (c.split_at.ensures.front, c.as_slice.ensures) in
    at_exit _ _ _ _ c.from_residual-in_err-names_line-2.ensures.0
    (front_of_piece (variables_of problem) (order_of problem)
    (after_parameters problem c.args.out.now _ _ c.in_ok-field_line.ensures
    (c.in_ok-names_line.ensures ∙ ap (λ (xs : List ℕ). c.field_line.new.out ++ xs) parameters))
    (subst (AppendsFront c.names_line.new.out c.names_line-2.new.out) variables c.in_err-names_line-2.ensures))

pub returns : goal.returns
returns c =
    let problem : Problem = c.args.problem.now in
    let parameters : names_line (codes "parameters") c.split_at.result.1.now ≡ parameters_of problem = cc (c.split_at.ensures.back, c.as_slice.ensures) in
    let variables : names_line (codes "variables") c.split_at.result.0.now ≡ variables_of problem = cc (c.split_at.ensures.front, c.as_slice.ensures) in
    ends _ _ (order_of problem)
    (leaves_rest (variables_of problem) (order_of problem)
    (after_parameters problem c.args.out.now _ _ c.in_ok-field_line.ensures
    (c.in_ok-names_line.ensures ∙ ap (λ (xs : List ℕ). c.field_line.new.out ++ xs) parameters))
    (c.in_ok-names_line-2.ensures ∙ ap (λ (xs : List ℕ). c.names_line.new.out ++ xs) variables))
    c.order_line.ensures
