use Rattle.std.proofs.Common.{◌≡◌, ◌-◌, ◌<◌, suc, arith}
use Rattle.cgs_poly.specs.Polynomial.{term}
use Rattle.cgs_poly.proofs.PlaceLemmas.{canonical_at}
use Rattle.cgs_poly.proofs.TermLemmas.{terms_have_length, canonical_before, canonical_falls}
use Rattle.cgs_poly.proofs.sum.are_canonical.Goals as goal

pub falls_after-requires-clause-places : goal.falls_after-requires-clause-places
falls_after-requires-clause-places c = terms_have_length c.args.ring.now c.args.terms.now c.requires.terms

pub returns-then-number-eq0 : goal.returns-then-number-eq0
returns-then-number-eq0 c = (
  (λ e. cc),
  (λ h.
      let x = canonical_at c.args.ring.now (c.loop-i.i - 1) c.args.terms.now (term c.term.result.coefficient c.term.result.exponents.now) h c.term.ensures in
      absurd (omega (arith, x.positive, c.number.ensures, c.if-number-eq0.true))),
)

pub returns-then-not-falls_after : goal.returns-then-not-falls_after
returns-then-not-falls_after c =
    ((λ e. cc), (λ h. let f = c.falls_after.ensures.1 (canonical_falls c.args.ring.now (c.loop-i.i - 1) c.args.terms.now h) in cc))

pub loop-i-preserved : goal.loop-i-preserved
loop-i-preserved c =
    let next : suc (c.loop-i.i - 1) ≡ c.loop-i.i = omega arith in
    let some : 0 < c.term.result.coefficient = omega (arith, c.number.ensures, c.if-number-eq0.false) in
    canonical_before c.args.ring.now (c.loop-i.i - 1) c.loop-i.i c.args.terms.now (term c.term.result.coefficient c.term.result.exponents.now) next
    c.term.ensures c.requires.terms some (c.falls_after.ensures.0 c.if-not-falls_after.false) c.loop-i.invariant
