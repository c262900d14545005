use Rattle.std.proofs.Common.{ℕ, List, ◌≡◌, ◌<◌, ◌++◌, ◌∷◌, [], length, get_or, map, take, ap, ◌∙◌, sym, subst, arith}
use Rattle.std.proofs.lemmas.List.{map-append, take_more}
use Rattle.cgs_exps.specs.Mask.{mask}
use Rattle.cgs_poly.specs.Polynomial.{Term, term}
use Rattle.cgs_poly.specs.Product.{leading_monomial}
use Rattle.cgs_poly.proofs.ParameterLemmas.{lead_first}
use Rattle.cgs_divide.specs.DivisionRun.{lead_mask}
use Rattle.cgs_divide.proofs.StepLemmas.{get_read}
use Rattle.cgs_divide.proofs.division.lead_masks.Goals as goal
use Rattle.cgs_divide.proofs.division.lead_masks.Goals.{After-get, After-term}

-- the divisor at the place

below : (c : After-get) → c.loop-i.i < length c.args.divisors.now
below c = omega (arith, c.loop-i-test.true, c.len-i-end.ensures)

divisor_is : (c : After-get) → get_or c.args.divisors.now c.loop-i.i [] ≡ c.get.result.now
divisor_is c = get_read c.args.divisors.now c.loop-i.i c.get.result.now [] c.get.ensures

pub term-requires : goal.term-requires
term-requires c =
    let d = (goal.at.term-requires c).After-get in
    subst (λ g. 0 < length g) (divisor_is d) (c.requires.some c.loop-i.i (below d))

lead_is : (c : After-term) → leading_monomial c.get.result.now ≡ c.term.result.exponents.now
lead_is c = lead_first c.get.result.now (term c.term.result.coefficient c.term.result.exponents.now) c.term.ensures

pub loop-i-preserved : goal.loop-i-preserved
loop-i-preserved c =
    let d = (goal.at.loop-i-preserved c).After-get in
    let G : List (List Term) = c.args.divisors.now in
    let i : ℕ = c.loop-i.i in
    let m : c.mask.result ≡ lead_mask (get_or G i []) =
    c.mask.ensures ∙ (ap mask (sym (lead_is (goal.at.loop-i-preserved c).After-term)) ∙ ap lead_mask (sym (divisor_is d))) in
    c.in_ok-push.ensures.items ∙ (ap (λ k. k ++ c.mask.result ∷ []) c.loop-i.invariant
    ∙ (ap (λ x. map lead_mask (take i G) ++ x ∷ []) m
    ∙ (sym (map-append lead_mask (take i G) (get_or G i [] ∷ [])) ∙ ap (λ k. map lead_mask k) (sym (take_more G i [] (below d))))))
