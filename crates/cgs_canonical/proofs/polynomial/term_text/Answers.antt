use Rattle.std.proofs.Common.{◌≡◌, ◌++◌, ◌&&◌, cond, List, ℕ, decimal, [], ap, ◌∙◌, sym, subst}
use Rattle.std.specs.List.{list_all}
use Rattle.cgs_canonical.specs.Printing.{powers_text, following, AppendsFront, Prints}
use Rattle.cgs_canonical.proofs.PrintLemmas.{leaves_rest, front_of_piece, at_exit, ends}
use Rattle.cgs_canonical.proofs.PrintedTermLemmas.{is_zero, parameters_text, variables_text, term_left}
use Rattle.cgs_canonical.proofs.polynomial.term_text.Goals as goal
use Rattle.cgs_canonical.proofs.polynomial.term_text.Goals.{then-bare, else-bare}

pub returns-in_err-coefficient_text : goal.returns-in_err-coefficient_text
returns-in_err-coefficient_text c =
    let ring = c.args.ring.now in
    let names = c.args.names.now in
    let exponents = c.args.term.exponents.now in
    let bare = c.is_bare-bare.result in
    let left = term_left ring names c.args.term.coefficient exponents bare c.args.out.now c.requires.named c.requires.places c.is_bare-bare.ensures in
    at_exit _ _ _ _ c.from_residual.ensures.0
    (front_of_piece (cond bare [] (decimal c.args.term.coefficient)) (parameters_text ring names exponents bare ++ variables_text ring names exponents bare)
    left c.in_err-coefficient_text.ensures)

pub returns-in_err-powers_text : goal.returns-in_err-powers_text
returns-in_err-powers_text c =
    let ring = c.args.ring.now in
    let names = c.args.names.now in
    let exponents = c.args.term.exponents.now in
    let bare = c.is_bare-bare.result in
    let left = term_left ring names c.args.term.coefficient exponents bare c.args.out.now c.requires.named c.requires.places c.is_bare-bare.ensures in
    let parameters : following bare (powers_text c.split_at.result.1.now c.split_at-2.result.1.now) ≡ parameters_text ring names exponents bare =
    cc (c.split_at.ensures.back, c.split_at-2.ensures.back) in
    at_exit _ _ _ _ c.from_residual-in_err-powers_text.ensures.0
    (front_of_piece (parameters_text ring names exponents bare) (variables_text ring names exponents bare)
    (leaves_rest (cond bare [] (decimal c.args.term.coefficient)) (parameters_text ring names exponents bare ++ variables_text ring names exponents bare)
    left c.in_ok-coefficient_text.ensures)
    (subst (AppendsFront c.coefficient_text.new.out c.powers_text.new.out) parameters c.in_err-powers_text.ensures))

pub returns : goal.returns
returns c =
    let ring = c.args.ring.now in
    let names = c.args.names.now in
    let exponents = c.args.term.exponents.now in
    let bare = c.is_bare-bare.result in
    let left = term_left ring names c.args.term.coefficient exponents bare c.args.out.now c.requires.named c.requires.places c.is_bare-bare.ensures in
    let parameters : following bare (powers_text c.split_at.result.1.now c.split_at-2.result.1.now) ≡ parameters_text ring names exponents bare =
    cc (c.split_at.ensures.back, c.split_at-2.ensures.back) in
    let still : c.if-bare.powers_text ≡ (bare && list_all is_zero c.split_at-2.result.1.now) =
    elim c.if-bare.branch [
      | then-bare w ↦ w.powers_text-is ∙ w.is_one.ensures ∙ ap (λ b. b && list_all is_zero c.split_at-2.result.1.now) (sym w.if-bare.true)
      | else-bare w ↦ w.powers_text-is ∙ w.if-bare.false ∙ ap (λ b. b && list_all is_zero c.split_at-2.result.1.now) (sym w.if-bare.false)
    ] in
    let variables : following c.if-bare.powers_text (powers_text c.split_at.result.0.now c.split_at-2.result.0.now) ≡ variables_text ring names exponents bare =
    cc (still, c.split_at.ensures.front, c.split_at-2.ensures.front, c.split_at-2.ensures.back) in
    ends _ _ (variables_text ring names exponents bare)
    (leaves_rest (parameters_text ring names exponents bare) (variables_text ring names exponents bare)
    (leaves_rest (cond bare [] (decimal c.args.term.coefficient)) (parameters_text ring names exponents bare ++ variables_text ring names exponents bare)
    left c.in_ok-coefficient_text.ensures)
    (c.in_ok-powers_text.ensures ∙ ap (λ (xs : List ℕ). c.coefficient_text.new.out ++ xs) parameters))
    (subst (λ (xs : List ℕ). Prints c.powers_text-2.result c.powers_text.new.out c.powers_text-2.new.out xs) variables c.powers_text-2.ensures)
