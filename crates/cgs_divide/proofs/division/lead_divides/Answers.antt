use Rattle.std.proofs.Common.{ℕ, List, ◌≡◌, false, ap, ◌∙◌, sym}
use Rattle.std.proofs.lemmas.Bool.{false_from_ne_true, eq-eqb}
use Rattle.cgs_exps.specs.Mask.{mask, is_within}
use Rattle.cgs_exps.specs.Monomial.{divides}
use Rattle.cgs_exps.proofs.MaskLemmas.{mask_divides}
use Rattle.cgs_poly.specs.Product.{leading_monomial}
use Rattle.cgs_divide.proofs.division.lead_divides.Goals as goal

-- the masks rule the divisor out
pub returns-else-may_divide : goal.returns-else-may_divide
returns-else-may_divide c =
    let a : List ℕ = leading_monomial c.args.divisor.now in
    let b : List ℕ = c.args.m.now in
    let apart : is_within (mask a) (mask b) ≡ false =
    ap (λ k. is_within k (mask b)) (sym c.requires.lead)
    ∙ (ap (λ k. is_within c.args.lead_mask k) (sym c.requires.mask) ∙ (sym c.may_divide.ensures ∙ c.if-may_divide.false)) in
    c.if-may_divide.false ∙ sym (false_from_ne_true (divides a b) (λ d. cc (apart, eq-eqb _ _ (mask_divides a b c.requires.same_places d))))
