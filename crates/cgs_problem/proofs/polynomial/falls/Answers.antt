use Rattle.std.proofs.Common.{◌≤◌, length, ◌∙◌, sym, arith}
use Rattle.cgs_problem.specs.Terms.{Falls}
use Rattle.cgs_problem.proofs.TermLemmas.{compared_in, falls_on, falls_not, falls_to_end}
use Rattle.cgs_problem.proofs.polynomial.falls.Goals as goal

pub returns-in_default : goal.returns-in_default
returns-in_default c =
    let e = compared_in c.args.ring.now c.order-order.result c.term-term.result.exponents.now c.term-before.result.exponents.now c.compare.result
    c.compare.ensures c.order-order.ensures in
    falls_not c.args.ring.now (Falls c.args.ring.now c.args.f.now) c.args.f.now c.loop-i.i _ _ c.loop-i.auto.i c.term-before.ensures c.term-term.ensures
    (λ less. c.in_default.not-Less (e ∙ less)) c.loop-i.invariant

pub loop-i-preserved : goal.loop-i-preserved
loop-i-preserved c =
    let e = compared_in c.args.ring.now c.order-order.result c.term-term.result.exponents.now c.term-before.result.exponents.now c.compare.result
    c.compare.ensures c.order-order.ensures in
    falls_on c.args.ring.now (Falls c.args.ring.now c.args.f.now) c.args.f.now c.loop-i.i _ _ c.loop-i.auto.i c.term-before.ensures c.term-term.ensures
    (sym e ∙ c.in-Less.is) c.loop-i.invariant

pub returns : goal.returns
returns c =
    let le : length c.args.f.now ≤ c.loop-i.i = omega arith in
    falls_to_end c.args.ring.now (Falls c.args.ring.now c.args.f.now) c.args.f.now c.loop-i.i le c.loop-i.invariant
