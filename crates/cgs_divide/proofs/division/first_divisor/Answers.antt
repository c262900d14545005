use Rattle.std.proofs.Common.{◌≡◌, ◌<◌, [], length, get_or, ap, ◌∙◌, sym, subst, arith}
use Rattle.std.proofs.lemmas.List.{get_or-map, length-map}
use Rattle.cgs_exps.specs.Monomial.{divides}
use Rattle.cgs_poly.specs.Product.{leading_monomial}
use Rattle.cgs_algebra.specs.Groebner.{leading_monomial_at}
use Rattle.cgs_divide.specs.DivisionRun.{lead_mask}
use Rattle.cgs_divide.proofs.StepLemmas.{first_at, not_first, get_read}
use Rattle.cgs_divide.proofs.division.first_divisor.Goals as goal
use Rattle.cgs_divide.proofs.division.first_divisor.Goals.{After-get, After-lead_divides}

-- the divisor at the place

below : (c : After-get) → c.loop-i.i < length c.args.divisors.now
below c = omega (arith, c.loop-i-test.true, c.len-i-end.ensures)

divisor_is : (c : After-get) → get_or c.args.divisors.now c.loop-i.i [] ≡ c.get.result.now
divisor_is c = get_read c.args.divisors.now c.loop-i.i c.get.result.now [] c.get.ensures

pub bounds-masks-i : goal.bounds-masks-i
bounds-masks-i c =
    let e : length c.args.masks.now ≡ length c.args.divisors.now = ap length c.requires.masks ∙ length-map c.args.divisors.now lead_mask in
    omega (arith, e, below (goal.at.bounds-masks-i c).After-get)

pub lead_divides-requires-clause-some : goal.lead_divides-requires-clause-some
lead_divides-requires-clause-some c =
    let d = (goal.at.lead_divides-requires-clause-some c).After-get in
    subst (λ g. 0 < length g) (divisor_is d) (c.requires.some c.loop-i.i (below d))

pub lead_divides-requires-clause-same_places : goal.lead_divides-requires-clause-same_places
lead_divides-requires-clause-same_places c =
    let d = (goal.at.lead_divides-requires-clause-same_places c).After-get in
    subst (λ g. length (leading_monomial g) ≡ length c.args.m.now) (divisor_is d) (c.requires.lengths c.loop-i.i (below d))

pub lead_divides-requires-clause-lead : goal.lead_divides-requires-clause-lead
lead_divides-requires-clause-lead c =
    let d = (goal.at.lead_divides-requires-clause-lead c).After-get in
    ap (λ k. get_or k c.loop-i.i 0) c.requires.masks ∙ (get_or-map lead_mask c.args.divisors.now c.loop-i.i [] 0 (below d) ∙ ap lead_mask (divisor_is d))

-- what the test says
tested : (c : After-lead_divides) → divides (leading_monomial_at c.args.divisors.now c.loop-i.i) c.args.m.now ≡ c.lead_divides.result
tested c =
    ap (λ g. divides (leading_monomial g) c.args.m.now) (get_read c.args.divisors.now c.loop-i.i c.get.result.now [] c.get.ensures)
    ∙ sym c.lead_divides.ensures

pub returns-then-lead_divides-clause-first : goal.returns-then-lead_divides-clause-first
returns-then-lead_divides-clause-first c =
    let below : c.loop-i.i < length c.args.divisors.now = omega (arith, c.loop-i-test.true, c.len-i-end.ensures) in (
      below,
      first_at c.args.divisors.now c.args.m.now c.loop-i.i below c.loop-i.invariant
          (tested (goal.at.returns-then-lead_divides-clause-first c).After-lead_divides ∙ c.if-lead_divides.true),
    )

pub loop-i-preserved : goal.loop-i-preserved
loop-i-preserved c =
    not_first c.args.divisors.now c.args.m.now c.loop-i.i (omega (arith, c.loop-i-test.true, c.len-i-end.ensures))
    c.loop-i.invariant (tested (goal.at.loop-i-preserved c).After-lead_divides ∙ c.if-lead_divides.false)
