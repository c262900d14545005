use Rattle.std.proofs.Common.{◌≡◌, ◌≤◌, ◌-◌, ◌++◌, length, take, drop, sym, subst}
use Rattle.std.specs.Prelude.{OnOk}
use Rattle.cgs_poly.specs.Polynomial.{IsPoly, HasLowDegrees, places, canonical}
use Rattle.cgs_poly.specs.Product.{multiple}
use Rattle.cgs_poly.specs.Flat.{terms_of}
use Rattle.cgs_poly.specs.Draft.{HaveLength}
use Rattle.cgs_poly.proofs.PlaceLemmas.{canonical_length}
use Rattle.cgs_divide.proofs.RestLemmas.{poly_drop}
use Rattle.cgs_divide.proofs.TailLemmas.{IsTail, is_tail, slices_long}
use Rattle.cgs_divide.proofs.rest.Rest.add_behind_lead.Goals as goal
use Rattle.cgs_divide.proofs.rest.Rest.add_behind_lead.Goals.{After-exponents-exponents}

lengths : (c : After-exponents-exponents) → HaveLength (length c.args.t.now) c.args.divisor.now
lengths c = rw c.requires.places (canonical_length c.args.self.now.sum.ring c.args.divisor.now c.requires.divisor.canonical)

long : (c : After-exponents-exponents) → (1 ≤ length c.coefficients-coefficients.result.now) × (length c.args.t.now ≤ length c.exponents-exponents.result.now)
long c = slices_long (length c.args.t.now) c.args.divisor.now c.coefficients-coefficients.result.now c.exponents-exponents.result.now
    c.coefficients-coefficients.ensures c.exponents-exponents.ensures (lengths c) c.requires.some

tail : (c : After-exponents-exponents) → IsTail (length c.args.t.now) c.args.divisor.now
    (take (length c.coefficients-coefficients.result.now - 1) (drop 1 c.coefficients-coefficients.result.now))
    (take (length c.exponents-exponents.result.now - length c.args.t.now) (drop (length c.args.t.now) c.exponents-exponents.result.now))
tail c = is_tail (length c.args.t.now) c.args.divisor.now c.coefficients-coefficients.result.now c.exponents-exponents.result.now
    c.coefficients-coefficients.ensures c.exponents-exponents.ensures (lengths c)

tail_terms : (c : After-exponents-exponents) → terms_of (places c.args.self.now.sum.ring)
    (take (length c.coefficients-coefficients.result.now - 1) (drop 1 c.coefficients-coefficients.result.now))
    (take (length c.exponents-exponents.result.now - length c.args.t.now) (drop (length c.args.t.now) c.exponents-exponents.result.now))
    ≡ drop 1 c.args.divisor.now
tail_terms c =
    subst (λ n. terms_of n (take (length c.coefficients-coefficients.result.now - 1) (drop 1 c.coefficients-coefficients.result.now))
    (take (length c.exponents-exponents.result.now - length c.args.t.now) (drop (length c.args.t.now) c.exponents-exponents.result.now))
    ≡ drop 1 c.args.divisor.now) c.requires.places (tail c).terms

pub slice_bounds-add_low_multiple-count : goal.slice_bounds-add_low_multiple-count
slice_bounds-add_low_multiple-count c = (long (goal.at.slice_bounds-add_low_multiple-count c).After-exponents-exponents).0

pub slice_bounds-add_low_multiple-start : goal.slice_bounds-add_low_multiple-start
slice_bounds-add_low_multiple-start c = (long (goal.at.slice_bounds-add_low_multiple-start c).After-exponents-exponents).0

pub slice_bounds-add_low_multiple-count-2 : goal.slice_bounds-add_low_multiple-count-2
slice_bounds-add_low_multiple-count-2 c = (long (goal.at.slice_bounds-add_low_multiple-count-2 c).After-exponents-exponents).1

pub slice_bounds-add_low_multiple-start-2 : goal.slice_bounds-add_low_multiple-start-2
slice_bounds-add_low_multiple-start-2 c = (long (goal.at.slice_bounds-add_low_multiple-start-2 c).After-exponents-exponents).1

pub add_low_multiple-requires-clause-flat : goal.add_low_multiple-requires-clause-flat
add_low_multiple-requires-clause-flat c =
    rw (← c.requires.places) (tail (goal.at.add_low_multiple-requires-clause-flat c).After-exponents-exponents).flat

pub add_low_multiple-requires-clause-poly : goal.add_low_multiple-requires-clause-poly
add_low_multiple-requires-clause-poly c =
    subst (IsPoly c.args.self.now.sum.ring) (sym (tail_terms (goal.at.add_low_multiple-requires-clause-poly c).After-exponents-exponents))
    (poly_drop c.args.self.now.sum.ring c.args.divisor.now c.requires.divisor)

pub add_low_multiple-requires-clause-low : goal.add_low_multiple-requires-clause-low
add_low_multiple-requires-clause-low c =
    subst (λ h. HasLowDegrees (multiple c.args.c c.args.t.now h)) (sym (tail_terms (goal.at.add_low_multiple-requires-clause-low c).After-exponents-exponents))
    c.requires.low

pub returns-clause-sum : goal.returns-clause-sum
returns-clause-sum c =
    subst (λ h. OnOk c.add_low_multiple.result (c.add_low_multiple.new.self.terms ≡ canonical c.args.self.now.sum.ring
    (c.args.self.now.sum.terms ++ multiple c.args.c c.args.t.now h)))
    (tail_terms (goal.at.returns-clause-sum c).After-exponents-exponents) c.add_low_multiple.ensures.ok
