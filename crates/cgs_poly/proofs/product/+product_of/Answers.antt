use Rattle.std.proofs.Common.{ℕ, ◌≡◌, ◌≤◌, ◌-◌, ◌+◌, ◌/◌, length, take, drop, ◌∙◌, sym, subst, arith}
use Rattle.cgs_poly.specs.Polynomial.{IsPoly, Term, term, canonical}
use Rattle.cgs_poly.specs.Product.{all_products}
use Rattle.cgs_poly.specs.Draft.{HaveLength}
use Rattle.cgs_poly.proofs.RingLemmas.{ring_positive, places_few}
use Rattle.cgs_poly.proofs.PlaceLemmas.{canonical_at, canonical_length, top_at, take_one}
use Rattle.cgs_poly.proofs.ProductLemmas.{can_multiply, part_of_ring, part_poly, halves, product_halves}
use Rattle.cgs_poly.proofs.ChangedLemmas.{multiple_canonical}
use Rattle.cgs_poly.proofs.ArithmeticLemmas.{product_one}
use Rattle.cgs_poly.proofs.CanonicalLemmas.{canonical_of_ring}
use Rattle.cgs_poly.proofs.product.+product_of.Goals as goal

pub multiplied-requires-clause-can : goal.multiplied-requires-clause-can
multiplied-requires-clause-can t c =
    let x = canonical_at c.args.ring.now c.args.from c.args.f.now (term c.term-term.result.coefficient c.term-term.result.exponents.now)
    c.requires.first.canonical c.term-term.ensures in
    let top = top_at c.args.f.now c.args.from (term c.term-term.result.coefficient c.term-term.result.exponents.now) c.term-term.ensures in
    let h : HaveLength (length c.term-term.result.exponents.now) c.args.g.now =
    rw x.places (canonical_length c.args.ring.now c.args.g.now c.requires.second.canonical) in
    let few : length c.term-term.result.exponents.now ≤ 17 = omega (arith, x.places, places_few c.args.ring.now c.requires.ring) in
    can_multiply c.term-term.result.coefficient c.args.ring.now.modulus c.term-term.result.exponents.now
    c.args.g.now x.below few h (λ s. omega (arith, top, c.requires.low))

pub multiplied-requires-clause-multiple : goal.multiplied-requires-clause-multiple
multiplied-requires-clause-multiple t c =
    let x = canonical_at c.args.ring.now c.args.from c.args.f.now (term c.term-term.result.coefficient c.term-term.result.exponents.now)
    c.requires.first.canonical c.term-term.ensures in
    multiple_canonical c.args.ring.now c.term-term.result.coefficient c.term-term.result.exponents.now
    c.args.g.now c.requires.ring.modulus x.positive x.below x.places c.requires.second.canonical

pub returns-then-to-from-eq1-clause-product : goal.returns-then-to-from-eq1-clause-product
returns-then-to-from-eq1-clause-product t c =
    let y : Term = term c.term-term.result.coefficient c.term-term.result.exponents.now in
    let x = canonical_at c.args.ring.now c.args.from c.args.f.now (term c.term-term.result.coefficient c.term-term.result.exponents.now)
    c.requires.first.canonical c.term-term.ensures in
    c.in_ok-part.ensures
    ∙ product_one c.args.ring.now (term c.term-term.result.coefficient c.term-term.result.exponents.now)
    (take (c.args.to - c.args.from) (drop c.args.from c.args.f.now)) c.args.g.now c.requires.ring x.positive x.below x.places c.requires.second.canonical
    (take_one c.args.f.now c.args.from (c.args.to - c.args.from)
    (term c.term-term.result.coefficient c.term-term.result.exponents.now) c.term-term.ensures c.if-to-from-eq1.true)

pub returns-then-to-from-eq1-clause-poly : goal.returns-then-to-from-eq1-clause-poly
returns-then-to-from-eq1-clause-poly t c =
    let x = canonical_at c.args.ring.now c.args.from c.args.f.now (term c.term-term.result.coefficient c.term-term.result.exponents.now)
    c.requires.first.canonical c.term-term.ensures in
    let e : c.in_ok-part.part ≡ canonical c.args.ring.now (all_products (take (c.args.to - c.args.from) (drop c.args.from c.args.f.now)) c.args.g.now) =
    c.in_ok-part.ensures
    ∙ product_one c.args.ring.now (term c.term-term.result.coefficient c.term-term.result.exponents.now)
    (take (c.args.to - c.args.from) (drop c.args.from c.args.f.now)) c.args.g.now c.requires.ring x.positive x.below x.places c.requires.second.canonical
    (take_one c.args.f.now c.args.from (c.args.to - c.args.from) (term c.term-term.result.coefficient c.term-term.result.exponents.now)
    c.term-term.ensures c.if-to-from-eq1.true) in
    let p = part_poly c.args.ring.now c.args.f.now c.args.g.now (canonical_of_ring c.args.ring.now c.args.f.now c.requires.first.canonical)
    (canonical_of_ring c.args.ring.now c.args.g.now c.requires.second.canonical) c.requires.low c.args.from
    (c.args.to - c.args.from) (ring_positive c.args.ring.now c.requires.ring) in
    subst (λ h. IsPoly c.args.ring.now h) (sym e) p

pub returns-clause-product : goal.returns-clause-product
returns-clause-product t c =
    let pos = ring_positive c.args.ring.now c.requires.ring in
    let f = canonical_of_ring c.args.ring.now c.args.f.now c.requires.first.canonical in
    let g = canonical_of_ring c.args.ring.now c.args.g.now c.requires.second.canonical in
    let half : ℕ = c.args.from + (c.args.to - c.args.from) / 2 in
    let a = part_of_ring c.args.ring.now c.args.f.now c.args.g.now f g c.requires.low c.args.from (half - c.args.from) in
    let b = part_of_ring c.args.ring.now c.args.f.now c.args.g.now f g c.requires.low half (c.args.to - half) in
    let e = halves c.args.from half c.args.to c.args.f.now (omega arith) (omega (arith, c.requires.some)) in
    c.in_ok-sum.ensures.sum
    ∙ product_halves c.args.ring.now (take (half - c.args.from) (drop c.args.from c.args.f.now)) (take (c.args.to - half) (drop half c.args.f.now))
    (take (c.args.to - c.args.from) (drop c.args.from c.args.f.now)) c.args.g.now
    c.in_ok-first.first c.in_ok-second.second pos e a b c.in_ok-first.ensures.product c.in_ok-second.ensures.product
