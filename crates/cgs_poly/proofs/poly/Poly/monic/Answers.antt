use Rattle.std.proofs.Common.{ap, ◌∙◌, sym, refl}
use Rattle.cgs_poly.specs.Polynomial.{term, canonical}
use Rattle.cgs_poly.specs.Product.{scaled, leading_coefficient}
use Rattle.cgs_poly.proofs.PlaceLemmas.{canonical_at}
use Rattle.cgs_poly.proofs.ArithmeticLemmas.{monic_lead, monic_back}
use Rattle.cgs_poly.proofs.MonicLemmas.{monic_zero, monic_by_lead}
use Rattle.cgs_poly.proofs.poly.Poly.monic.Goals as goal

pub inverse-requires-clause-positive : goal.inverse-requires-clause-positive
inverse-requires-clause-positive c =
    (canonical_at c.args.ring.now 0 c.args.f.now (term c.in-Some.lead.coefficient c.in-Some.lead.exponents.now)
    c.requires.poly.canonical c.in-Some.ensures.first).positive

pub inverse-requires-clause-below : goal.inverse-requires-clause-below
inverse-requires-clause-below c =
    (canonical_at c.args.ring.now 0 c.args.f.now (term c.in-Some.lead.coefficient c.in-Some.lead.exponents.now)
    c.requires.poly.canonical c.in-Some.ensures.first).below

pub returns-clause-lead : goal.returns-clause-lead
returns-clause-lead c = λ _.
    ap leading_coefficient c.in_ok-scaled.ensures.multiple
    ∙ monic_lead c.args.ring.now c.requires.ring c.inverse.result c.inverse.ensures.below c.args.f.now
    (term c.in-Some.lead.coefficient c.in-Some.lead.exponents.now) c.requires.poly.canonical c.in-Some.ensures.first c.inverse.ensures.product

pub returns-clause-multiple : goal.returns-clause-multiple
returns-clause-multiple c =
    monic_back c.args.ring.now c.requires.ring c.inverse.result c.inverse.ensures.below c.args.f.now
    (term c.in-Some.lead.coefficient c.in-Some.lead.exponents.now) c.requires.poly.canonical c.in-Some.ensures.first c.inverse.ensures.product
    ∙ ap (λ h. canonical c.args.ring.now (scaled (leading_coefficient c.args.f.now) h)) (sym c.in_ok-scaled.ensures.multiple)

pub returns-in_default-clause-monic : goal.returns-in_default-clause-monic
returns-in_default-clause-monic c = c.zero.ensures ∙ monic_zero c.args.ring.now c.args.f.now (c.in_default.ensures.none.0 refl)

pub returns-clause-monic : goal.returns-clause-monic
returns-clause-monic c =
    c.in_ok-scaled.ensures.multiple
    ∙ monic_by_lead c.args.ring.now c.args.f.now (term c.in-Some.lead.coefficient c.in-Some.lead.exponents.now)
    c.inverse.result c.in-Some.ensures.first c.inverse.ensures.value
