use Rattle.std.proofs.Common.{ℕ, ◌≡◌, ◌+◌, ◌-◌, ◌/◌, sym, ap, ◌∙◌, subst, arith}
use Rattle.std.specs.List.{AllByRecursion}
use Rattle.cgs_poly.specs.Polynomial.{Term, IsTerm, term, canonical}
use Rattle.cgs_poly.proofs.PlaceLemmas.{take_one}
use Rattle.cgs_poly.proofs.RingLemmas.{ring_positive}
use Rattle.cgs_poly.proofs.TermLemmas.{part_of, part_terms, canonical_sum, canonical_terms, sum_of_halves}
use Rattle.cgs_poly.proofs.sum.+sum_of.Goals as goal
use Rattle.cgs_poly.proofs.sum.+sum_of.Goals.{After-between-part}

pub returns-then-to-from-eq1-clause-sum : goal.returns-then-to-from-eq1-clause-sum
returns-then-to-from-eq1-clause-sum t c =
    let x : Term = term c.term-term.result.coefficient c.term-term.result.exponents.now in
    let alone = take_one c.args.terms.now c.args.from (c.args.to - c.args.from) x c.term-term.ensures c.if-to-from-eq1.true in
    c.in_ok-sum.ensures.sum ∙ sym (ap (canonical c.args.ring.now) alone)

pub returns-clause-sum : goal.returns-clause-sum
returns-clause-sum t c =
    let half : ℕ = c.args.from + (c.args.to - c.args.from) / 2 in
    c.in_ok-sum-2.ensures.sum
    ∙ sum_of_halves c.args.ring.now c.args.from half c.args.to c.args.terms.now c.in_ok-first.first c.in_ok-second.second
    (ring_positive c.args.ring.now c.requires.ring) c.requires.terms (omega arith) (omega (arith, c.requires.rising))
    c.in_ok-first.ensures.sum c.in_ok-second.ensures.sum

part_is : {t : ℕ} → (c : After-between-part t) → c.between-part.result ≡ part_of c.args.from c.args.to c.args.terms.now
part_is c = c.between-part.ensures ∙ ap (part_of c.args.from c.args.to) c.flat.ensures

part_all : {t : ℕ} → (c : After-between-part t) → AllByRecursion (IsTerm c.args.ring.now) c.between-part.result
part_all c =
    subst (AllByRecursion (IsTerm c.args.ring.now)) (sym (part_is c))
    (part_terms c.args.ring.now c.args.from c.args.to c.args.terms.now c.requires.terms)

pub are_canonical-requires : goal.are_canonical-requires
are_canonical-requires t c = record { terms = part_all (goal.at.are_canonical-requires t c).After-between-part }

pub returns-then-are_canonical-clause-sum : goal.returns-then-are_canonical-clause-sum
returns-then-are_canonical-clause-sum t c =
    canonical_sum c.args.ring.now (part_of c.args.from c.args.to c.args.terms.now) c.between-part.result c.in_ok-terms.terms
    (ring_positive c.args.ring.now c.requires.ring) (c.are_canonical.ensures.0 c.if-are_canonical.true) c.in_ok-terms.ensures
    (part_is (goal.at.returns-then-are_canonical-clause-sum t c).After-between-part)

pub returns-then-are_canonical-clause-poly : goal.returns-then-are_canonical-clause-poly
returns-then-are_canonical-clause-poly t c =
    canonical_terms c.args.ring.now c.between-part.result c.in_ok-terms.terms (c.are_canonical.ensures.0 c.if-are_canonical.true)
    (part_all (goal.at.returns-then-are_canonical-clause-poly t c).After-between-part) c.in_ok-terms.ensures
