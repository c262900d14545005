use Rattle.std.proofs.Common.{ℕ, ◌≡◌, ◌<◌, ◌≤◌, ◌-◌, ◌+◌, ◌%◌, ◌++◌, length, ap, ◌∙◌, sym, subst, refl, arith}
use Rattle.std.proofs.Math.Nat.{mod-eq_of_lt}
use Rattle.cgs_exps.specs.Monomial.{degree}
use Rattle.cgs_poly.specs.Polynomial.{IsPoly, IsOfRing, HasLowDegrees, greatest_degree, canonical, coefficient}
use Rattle.cgs_poly.specs.Product.{multiple, top_degree}
use Rattle.cgs_poly.specs.Draft.{HaveLength}
use Rattle.cgs_poly.proofs.FaultLemmas.{not_of_degree}
use Rattle.cgs_poly.proofs.RingLemmas.{ring_positive, places_few}
use Rattle.cgs_poly.proofs.PlaceLemmas.{canonical_short, canonical_length}
use Rattle.cgs_poly.proofs.ProductLemmas.{can_multiply, low_if_any, multiple_low, multiple_of_ring, fits_unless}
use Rattle.cgs_poly.proofs.ChangedLemmas.{multiple_canonical, canonical_with_multiple}
use Rattle.cgs_poly.proofs.ArithmeticLemmas.{difference_back}
use Rattle.cgs_poly.proofs.CanonicalLemmas.{canonical_poly, append_of_ring, append_low, canonical_of_ring}
use Rattle.cgs_poly.proofs.poly.Poly.sub_multiple.Goals as goal
use Rattle.cgs_poly.proofs.poly.Poly.sub_multiple.Goals.{Else-exceeds, After-neg, In_ok-difference}

-- the opposite of c
opposite : (c : After-neg) → c.neg.result ≡ c.args.ring.now.modulus - c.args.c
opposite c = c.neg.ensures.value ∙ mod-eq_of_lt (omega (arith, c.requires.positive, c.requires.below))

pub exceeds-requires : goal.exceeds-requires
exceeds-requires c = canonical_short c.args.ring.now c.args.g.now (places_few c.args.ring.now c.requires.ring) c.requires.second.canonical

pub returns-then-exceeds-clause-degree : goal.returns-then-exceeds-clause-degree
returns-then-exceeds-clause-degree c =
    let h : HaveLength (length c.args.m.now) c.args.g.now = rw c.requires.places (canonical_length c.args.ring.now c.args.g.now c.requires.second.canonical) in
    let q = c.exceeds.ensures.0 c.if-exceeds.true in
    ((λ e low. omega (arith, multiple_low c.args.c c.args.m.now c.args.g.now h q.0 low, q.1, c.degree.ensures)), (λ n. refl))

-- the degrees fit
fits : (c : Else-exceeds) → 0 < length c.args.g.now → degree c.args.m.now + top_degree c.args.g.now ≤ greatest_degree
fits c = fits_unless c.exceeds.result (degree c.args.m.now) c.degree.result c.args.g.now c.degree.ensures c.if-exceeds.false c.exceeds.ensures.1

pub merged-requires-clause-can : goal.merged-requires-clause-can
merged-requires-clause-can c =
    let h : HaveLength (length c.args.m.now) c.args.g.now = rw c.requires.places (canonical_length c.args.ring.now c.args.g.now c.requires.second.canonical) in
    let few : length c.args.m.now ≤ 17 = omega (arith, c.requires.places, places_few c.args.ring.now c.requires.ring) in
    can_multiply c.neg.result c.args.ring.now.modulus c.args.m.now c.args.g.now c.neg.ensures.below
    few h (fits (goal.at.merged-requires-clause-can c).Else-exceeds)

pub merged-requires-clause-second : goal.merged-requires-clause-second
merged-requires-clause-second c =
    let o = opposite (goal.at.merged-requires-clause-second c).After-neg in
    multiple_canonical c.args.ring.now c.neg.result c.args.m.now c.args.g.now c.requires.ring.modulus
    (omega (arith, o, c.requires.below)) c.neg.ensures.below c.requires.places c.requires.second.canonical

pub returns-in_err-difference-clause-degree : goal.returns-in_err-difference-clause-degree
returns-in_err-difference-clause-degree c =
    let h : HaveLength (length c.args.m.now) c.args.g.now = rw c.requires.places (canonical_length c.args.ring.now c.args.g.now c.requires.second.canonical) in
    let low = low_if_any c.args.c c.args.m.now c.args.g.now h (fits (goal.at.returns-in_err-difference-clause-degree c).Else-exceeds) in
    ((λ e l. not_of_degree c.from_residual.result c.from_residual.ensures.1 e), (λ n. absurd (n low)))

difference_is : (c : In_ok-difference)
    → c.in_ok-difference.difference ≡ canonical c.args.ring.now (c.args.f.now ++ multiple (c.args.ring.now.modulus - c.args.c) c.args.m.now c.args.g.now)
difference_is c =
    let o : c.neg.result ≡ c.args.ring.now.modulus - c.args.c = c.neg.ensures.value ∙ mod-eq_of_lt (omega (arith, c.requires.positive, c.requires.below)) in
    c.in_ok-difference.ensures
    ∙ (canonical_with_multiple c.args.ring.now c.neg.result c.args.m.now c.args.f.now c.args.g.now c.requires.ring.modulus (omega (arith, o, c.requires.below))
    c.neg.ensures.below c.requires.places c.requires.first.canonical c.requires.second.canonical
    ∙ ap (λ k. canonical c.args.ring.now (c.args.f.now ++ multiple k c.args.m.now c.args.g.now)) o)

of_ring : (c : In_ok-difference) → IsOfRing c.args.ring.now (c.args.f.now ++ multiple (c.args.ring.now.modulus - c.args.c) c.args.m.now c.args.g.now)
of_ring c =
    let ring = c.args.ring.now in
    append_of_ring c.args.ring.now c.args.f.now (multiple (c.args.ring.now.modulus - c.args.c) c.args.m.now c.args.g.now)
    (canonical_of_ring c.args.ring.now c.args.f.now c.requires.first.canonical)
    (multiple_of_ring c.args.ring.now (c.args.ring.now.modulus - c.args.c) c.args.m.now c.args.g.now
    c.requires.places (canonical_of_ring c.args.ring.now c.args.g.now c.requires.second.canonical))

-- the multiple is low
low : (c : In_ok-difference) (d : ℕ) → HasLowDegrees (multiple d c.args.m.now c.args.g.now)
low c d =
    let h : HaveLength (length c.args.m.now) c.args.g.now = rw c.requires.places (canonical_length c.args.ring.now c.args.g.now c.requires.second.canonical) in
    low_if_any d c.args.m.now c.args.g.now h
    (fits_unless c.exceeds.result (degree c.args.m.now) c.degree.result c.args.g.now c.degree.ensures c.if-exceeds.false c.exceeds.ensures.1)

pub returns-clause-difference : goal.returns-clause-difference
returns-clause-difference c = difference_is c

pub returns-clause-poly : goal.returns-clause-poly
returns-clause-poly c =
    let p : IsPoly c.args.ring.now (canonical c.args.ring.now (c.args.f.now ++ multiple (c.args.ring.now.modulus - c.args.c) c.args.m.now c.args.g.now)) =
    canonical_poly c.args.ring.now (c.args.f.now ++ multiple (c.args.ring.now.modulus - c.args.c) c.args.m.now c.args.g.now)
    (ring_positive c.args.ring.now c.requires.ring) (of_ring c)
    (append_low c.args.f.now (multiple (c.args.ring.now.modulus - c.args.c) c.args.m.now c.args.g.now)
    c.requires.first.low (low c (c.args.ring.now.modulus - c.args.c))) in
    subst (λ h. IsPoly c.args.ring.now h) (sym (difference_is c)) p

pub returns-clause-degree : goal.returns-clause-degree
returns-clause-degree c = ((λ e l. cc), (λ n. absurd (n (low c c.args.c))))

pub returns-clause-low : goal.returns-clause-low
returns-clause-low c = low c c.args.c

pub returns-clause-coefficients : goal.returns-clause-coefficients
returns-clause-coefficients c = λ n.
    ap (λ h. (coefficient c.args.ring.now.modulus h n + coefficient c.args.ring.now.modulus (multiple c.args.c c.args.m.now c.args.g.now) n)
    % c.args.ring.now.modulus) (difference_is c)
    ∙ difference_back c.args.ring.now c.args.c c.args.m.now n c.args.f.now c.args.g.now c.requires.ring c.requires.below (of_ring c)
