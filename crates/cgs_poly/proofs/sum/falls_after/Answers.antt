use Rattle.std.proofs.Common.{◌≡◌, ◌+◌, refl, sym, ap, ◌∙◌, arith}
use Rattle.cgs_order.specs.declared.block.BlockOrder.{BlockOrder}
use Rattle.cgs_order.specs.TermOrder.{compared}
use Rattle.cgs_poly.specs.Polynomial.{term, places, order_of}
use Rattle.cgs_poly.proofs.PlaceLemmas.{length_at}
use Rattle.cgs_poly.proofs.TermLemmas.{falls_last, falls_exactly}
use Rattle.cgs_poly.proofs.sum.falls_after.Goals as goal

pub returns-then-len-i-eq1 : goal.returns-then-len-i-eq1
returns-then-len-i-eq1 c =
    ((λ e. falls_last c.args.ring.now c.args.i c.args.terms.now (omega (arith, c.len.ensures, c.if-len-i-eq1.true))), (λ f. refl))

pub compare-requires-clause-first_places : goal.compare-requires-clause-first_places
compare-requires-clause-first_places c =
    length_at (places c.args.ring.now) (c.args.i + 1) c.args.terms.now (term c.term.result.coefficient c.term.result.exponents.now)
    c.requires.places c.term.ensures
    ∙ ap (λ (o : BlockOrder). o.head + o.tail) (sym c.order-order.ensures)

pub compare-requires-clause-second_places : goal.compare-requires-clause-second_places
compare-requires-clause-second_places c =
    length_at (places c.args.ring.now) c.args.i c.args.terms.now (term c.term-2.result.coefficient c.term-2.result.exponents.now)
    c.requires.places c.term-2.ensures
    ∙ ap (λ (o : BlockOrder). o.head + o.tail) (sym c.order-order.ensures)

pub returns : goal.returns
returns c =
    let less : c.compare.result
    ≡ compared (order_of c.args.ring.now) c.term.result.exponents.now c.term-2.result.exponents.now =
    c.compare.ensures ∙ ap (λ (o : BlockOrder). compared o c.term.result.exponents.now c.term-2.result.exponents.now) c.order-order.ensures in
    falls_exactly c.args.ring.now c.args.i c.args.terms.now (term c.term-2.result.coefficient c.term-2.result.exponents.now)
    (term c.term.result.coefficient c.term.result.exponents.now) c.compare.result c.is_lt.result c.term-2.ensures c.term.ensures less c.is_lt.ensures
