use Rattle.std.proofs.Common.{◌≡◌, refl, length, Err, sym, ap, ◌∙◌}
use Rattle.cgs_exps.specs.Monomial.{degree, quotient, lcm}
use Rattle.cgs_exps.proofs.MonomialLemmas.{divides_lcm_left}
use Rattle.cgs_poly.specs.Polynomial.{term, places}
use Rattle.cgs_poly.specs.Product.{leading_monomial}
use Rattle.cgs_poly.specs.declared.fault.PolyFault.TheVariants as fault
use Rattle.cgs_poly.proofs.PlaceLemmas.{canonical_at, canonical_short}
use Rattle.cgs_poly.proofs.RingLemmas.{places_few}
use Rattle.cgs_poly.proofs.ParameterLemmas.{lead_first}
use Rattle.cgs_algebra.proofs.LcmLemmas.{divides_lcm_right}
use Rattle.cgs_pairs.proofs.DifferenceLemmas.{same_fault, passed_fault, one_is, opposite_is, difference_is, both_low, first_high}
use Rattle.cgs_pairs.proofs.DifferenceLemmas.{second_high, second_exceeds, second_fits}
use Rattle.cgs_pairs.proofs.difference.s_polynomial.Goals as goal
use Rattle.cgs_pairs.proofs.difference.s_polynomial.Goals.{After-lcm_into, After-degree}

-- the leads

first_places : (c : After-lcm_into) → length c.term.result.exponents.now ≡ places c.args.ring.now
first_places c =
    (canonical_at c.args.ring.now 0 c.args.f.now (term c.term.result.coefficient c.term.result.exponents.now) c.requires.first.canonical c.term.ensures).places

second_places : (c : After-lcm_into) → length c.term-2.result.exponents.now ≡ places c.args.ring.now
second_places c =
    (canonical_at c.args.ring.now 0 c.args.g.now (term c.term-2.result.coefficient c.term-2.result.exponents.now)
    c.requires.second.canonical c.term-2.ensures).places

first_lead : (c : After-lcm_into) → leading_monomial c.args.f.now ≡ c.term.result.exponents.now
first_lead c = lead_first c.args.f.now (term c.term.result.coefficient c.term.result.exponents.now) c.term.ensures

second_lead : (c : After-lcm_into) → leading_monomial c.args.g.now ≡ c.term-2.result.exponents.now
second_lead c = lead_first c.args.g.now (term c.term-2.result.coefficient c.term-2.result.exponents.now) c.term-2.ensures

pub quotient_into-requires-clause-divisor : goal.quotient_into-requires-clause-divisor
quotient_into-requires-clause-divisor c =
    let d = (goal.at.quotient_into-requires-clause-divisor c).After-lcm_into in
    rw c.lcm_into.ensures (divides_lcm_left c.term.result.exponents.now c.term-2.result.exponents.now (first_places d ∙ sym (second_places d)))

-- the second multiple is tested first

pub exceeds-requires : goal.exceeds-requires
exceeds-requires c = canonical_short c.args.ring.now c.args.g.now (places_few c.args.ring.now c.requires.ring) c.requires.second.canonical

-- the degree of the second quotient
degree_is : (c : After-degree) → c.degree.result
    ≡ degree (quotient (lcm c.term.result.exponents.now c.term-2.result.exponents.now) c.term-2.result.exponents.now)
degree_is c = c.degree.ensures ∙ ap degree (c.quotient_into-2.ensures ∙ ap (λ m. quotient m c.term-2.result.exponents.now) c.lcm_into.ensures)

pub returns-then-exceeds-clause-degree : goal.returns-then-exceeds-clause-degree
returns-then-exceeds-clause-degree c =
    let d = (goal.at.returns-then-exceeds-clause-degree c).After-lcm_into in
    let t = (goal.at.returns-then-exceeds-clause-degree c).After-degree in (
      λ e. second_exceeds c.args.ring.now c.requires.ring c.args.f.now c.args.g.now c.requires.first.canonical
          c.requires.second.canonical c.term.result.exponents.now c.term-2.result.exponents.now
          (first_lead d) (second_lead d) (first_places d) (second_places d) c.degree.result (degree_is t) (c.exceeds.ensures.0 c.if-exceeds.true),
      λ h. refl,
    )

pub returns-in_err-first-clause-degree : goal.returns-in_err-first-clause-degree
returns-in_err-first-clause-degree c = (
  λ e.
      let d = (goal.at.returns-in_err-first-clause-degree c).After-lcm_into in
      let k : c.in_err-first.field-0.0 ≡ fault.Degree = same_fault c.from_residual.result c.in_err-first.field-0.0 fault.Degree c.from_residual.ensures.1 e in
      first_high c.args.ring.now c.requires.ring c.args.f.now c.args.g.now c.requires.first.canonical
      c.requires.second.canonical c.term.result.exponents.now c.term-2.result.exponents.now
      (first_lead d) (second_lead d) (first_places d) (second_places d) c.neg.result
      (λ h. c.in_err-first.ensures.degree.0 (ap Err k) (rw (c.quotient_into.ensures, c.lcm_into.ensures) h)),
  λ n.
      let d = (goal.at.returns-in_err-first-clause-degree c).After-lcm_into in
      let t = (goal.at.returns-in_err-first-clause-degree c).After-degree in
      let high = c.in_err-first.ensures.degree.1 (λ low. n (both_low c.args.ring.now c.requires.ring c.args.f.now c.args.g.now c.requires.first.canonical
      c.requires.second.canonical c.term.result.exponents.now c.term-2.result.exponents.now
      (first_lead d) (second_lead d) (first_places d) (second_places d) c.neg.result c.of_u64-one.result
      (rw (c.quotient_into.ensures, c.lcm_into.ensures) at low)
      (second_fits c.args.ring.now c.requires.ring c.args.f.now c.args.g.now c.requires.first.canonical
      c.requires.second.canonical c.term.result.exponents.now c.term-2.result.exponents.now
      (first_lead d) (second_lead d) (first_places d) (second_places d) c.exceeds.result c.degree.result
      c.of_u64-one.result (degree_is t) c.if-exceeds.false c.exceeds.ensures.1))) in
      let k : c.in_err-first.field-0.0 ≡ fault.Degree = cc high in
      passed_fault c.from_residual.result c.in_err-first.field-0.0 fault.Degree c.from_residual.ensures.1 k,
)

pub quotient_into-requires-2-clause-divisor : goal.quotient_into-requires-2-clause-divisor
quotient_into-requires-2-clause-divisor c =
    let d = (goal.at.quotient_into-requires-2-clause-divisor c).After-lcm_into in
    rw c.lcm_into.ensures (divides_lcm_right c.term.result.exponents.now c.term-2.result.exponents.now (first_places d ∙ sym (second_places d)))

pub returns-in_err-difference-clause-degree : goal.returns-in_err-difference-clause-degree
returns-in_err-difference-clause-degree c = (
  λ e.
      let d = (goal.at.returns-in_err-difference-clause-degree c).After-lcm_into in
      let k : c.in_err-difference.field-0.0 ≡ fault.Degree =
      same_fault c.from_residual-in_err-difference.result c.in_err-difference.field-0.0 fault.Degree c.from_residual-in_err-difference.ensures.1 e in
      second_high c.args.ring.now c.requires.ring c.args.f.now c.args.g.now c.requires.first.canonical
      c.requires.second.canonical c.term.result.exponents.now c.term-2.result.exponents.now
      (first_lead d) (second_lead d) (first_places d) (second_places d) c.of_u64-one.result
      (λ h. c.in_err-difference.ensures.degree.0 (ap Err k) (rw (c.quotient_into-2.ensures, c.lcm_into.ensures) h)),
  λ n.
      let d = (goal.at.returns-in_err-difference-clause-degree c).After-lcm_into in
      let t = (goal.at.returns-in_err-difference-clause-degree c).After-degree in
      absurd (n (both_low c.args.ring.now c.requires.ring c.args.f.now c.args.g.now c.requires.first.canonical
      c.requires.second.canonical c.term.result.exponents.now c.term-2.result.exponents.now
      (first_lead d) (second_lead d) (first_places d) (second_places d) c.neg.result c.of_u64-one.result
      (rw (c.quotient_into.ensures, c.lcm_into.ensures) at c.in_ok-first.ensures.low)
      (second_fits c.args.ring.now c.requires.ring c.args.f.now c.args.g.now c.requires.first.canonical
      c.requires.second.canonical c.term.result.exponents.now c.term-2.result.exponents.now
      (first_lead d) (second_lead d) (first_places d) (second_places d) c.exceeds.result c.degree.result
      c.of_u64-one.result (degree_is t) c.if-exceeds.false c.exceeds.ensures.1))),
)

pub returns-clause-ok : goal.returns-clause-ok
returns-clause-ok c =
    let d = (goal.at.returns-clause-ok c).After-lcm_into in
    difference_is c.args.ring.now c.requires.ring c.args.f.now c.args.g.now c.requires.first.canonical
    c.requires.second.canonical c.term.result.exponents.now c.term-2.result.exponents.now
    (first_lead d) (second_lead d) (first_places d) (second_places d) c.in_ok-first.first c.in_ok-difference.difference c.neg.result c.of_u64-one.result
    (opposite_is c.args.ring.now c.of_u64-one.result c.neg.result c.requires.ring c.of_u64-one.ensures.value c.neg.ensures.value)
    (c.of_u64-one.ensures.value ∙ one_is c.args.ring.now c.requires.ring)
    (rw (c.quotient_into.ensures, c.lcm_into.ensures, c.zero-zero.ensures) at c.in_ok-first.ensures.difference)
    (rw (c.quotient_into-2.ensures, c.lcm_into.ensures) at c.in_ok-difference.ensures.difference)

pub returns-clause-low : goal.returns-clause-low
returns-clause-low c =
    let d = (goal.at.returns-clause-low c).After-lcm_into in
    both_low c.args.ring.now c.requires.ring c.args.f.now c.args.g.now c.requires.first.canonical
    c.requires.second.canonical c.term.result.exponents.now c.term-2.result.exponents.now
    (first_lead d) (second_lead d) (first_places d) (second_places d) c.neg.result c.of_u64-one.result
    (rw (c.quotient_into.ensures, c.lcm_into.ensures) at c.in_ok-first.ensures.low)
    (rw (c.quotient_into-2.ensures, c.lcm_into.ensures) at c.in_ok-difference.ensures.low)

pub returns-clause-degree : goal.returns-clause-degree
returns-clause-degree c = (λ e. absurd (cc), λ n. absurd (n (returns-clause-low c)))
