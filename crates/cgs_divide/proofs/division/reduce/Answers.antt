use Rattle.std.proofs.Common.{◌≡◌, ◌-◌, ◌++◌, length, drop, ap, ◌∙◌, arith}
use Rattle.std.proofs.Math.Nat.{mod-eq_of_lt}
use Rattle.cgs_poly.specs.Polynomial.{canonical}
use Rattle.cgs_poly.specs.Product.{multiple}
use Rattle.cgs_poly.specs.Draft.{HaveLength}
use Rattle.cgs_poly.proofs.PlaceLemmas.{canonical_length}
use Rattle.cgs_poly.proofs.ProductLemmas.{top_of_low, low_drop}
use Rattle.cgs_divide.proofs.TailLemmas.{tail_fits, tail_exceeds}
use Rattle.cgs_divide.proofs.division.reduce.Goals as goal
use Rattle.cgs_divide.proofs.division.reduce.Goals.{Start, After-neg}

opposite : (c : After-neg) → c.neg.result ≡ c.args.ring.now.modulus - c.args.c
opposite c = c.neg.ensures.value ∙ mod-eq_of_lt (omega (arith, c.requires.positive, c.requires.below))

pub add_behind_lead-requires-clause-positive : goal.add_behind_lead-requires-clause-positive
add_behind_lead-requires-clause-positive c =
    omega (arith, opposite (goal.at.add_behind_lead-requires-clause-positive c).After-neg, c.requires.positive, c.requires.below)

pub add_behind_lead-requires-clause-below : goal.add_behind_lead-requires-clause-below
add_behind_lead-requires-clause-below c =
    rw c.requires.ring (omega (arith, opposite (goal.at.add_behind_lead-requires-clause-below c).After-neg, c.requires.positive, c.requires.below))

pub add_behind_lead-requires-clause-places : goal.add_behind_lead-requires-clause-places
add_behind_lead-requires-clause-places c = rw c.requires.ring c.requires.places

pub add_behind_lead-requires-clause-divisor : goal.add_behind_lead-requires-clause-divisor
add_behind_lead-requires-clause-divisor c = rw c.requires.ring c.requires.divisor

lengths : (c : Start) → HaveLength (length c.args.t.now) c.args.divisor.now
lengths c = rw c.requires.places (canonical_length c.args.ring.now c.args.divisor.now c.requires.divisor.canonical)

pub overflow_add-degree : goal.overflow_add-degree
overflow_add-degree c = omega (
  arith,
  c.degree.ensures,
  c.requires.low,
  c.requires.top,
  top_of_low (drop 1 c.args.divisor.now) (low_drop 1 c.args.divisor.now c.requires.divisor.low),
)

pub add_behind_lead-requires-clause-low : goal.add_behind_lead-requires-clause-low
add_behind_lead-requires-clause-low c =
    tail_fits c.neg.result c.args.t.now c.args.divisor.now (lengths (goal.at.add_behind_lead-requires-clause-low c).Start)
    (omega (arith, c.if-degree-top-gt-MAX_DEGREE.false, c.degree.ensures, c.requires.top))

pub returns-then-degree-top-gt-MAX_DEGREE-clause-degree : goal.returns-then-degree-top-gt-MAX_DEGREE-clause-degree
returns-then-degree-top-gt-MAX_DEGREE-clause-degree c = λ e.
    let paid = c.in_ok-spend.ensures.ok in (
      rw (← c.len.ensures) paid.0,
      rw (← c.len.ensures) paid.1,
      tail_exceeds (c.args.ring.now.modulus - c.args.c) c.args.t.now c.args.divisor.now
          (lengths (goal.at.returns-then-degree-top-gt-MAX_DEGREE-clause-degree c).Start) c.requires.low
          (omega (arith, c.if-degree-top-gt-MAX_DEGREE.true, c.degree.ensures, c.requires.top)),
    )

pub returns-clause-sum : goal.returns-clause-sum
returns-clause-sum c =
    c.in_ok-add_behind_lead.ensures.sum
    ∙ (ap (λ r. canonical r (c.args.rest.now.sum.terms ++ multiple c.neg.result c.args.t.now (drop 1 c.args.divisor.now))) c.requires.ring
    ∙ ap (λ d. canonical c.args.ring.now (c.args.rest.now.sum.terms ++ multiple d c.args.t.now (drop 1 c.args.divisor.now)))
    (opposite (goal.at.returns-clause-sum c).After-neg))

pub returns-clause-low : goal.returns-clause-low
returns-clause-low c =
    tail_fits (c.args.ring.now.modulus - c.args.c) c.args.t.now c.args.divisor.now (lengths (goal.at.returns-clause-low c).Start)
    (omega (arith, c.if-degree-top-gt-MAX_DEGREE.false, c.degree.ensures, c.requires.top))
