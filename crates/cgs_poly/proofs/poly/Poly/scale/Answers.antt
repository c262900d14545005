use Rattle.std.proofs.Common.{◌≡◌, ◌<◌, ap, ◌∙◌, sym, subst, arith}
use Rattle.cgs_poly.specs.Polynomial.{IsPoly, canonical, coefficient}
use Rattle.cgs_poly.specs.Product.{scaled}
use Rattle.cgs_poly.proofs.CanonicalLemmas.{canonical_of_ring}
use Rattle.cgs_poly.proofs.PlaceLemmas.{each_so}
use Rattle.cgs_poly.proofs.ChangedLemmas.{scaled_canonical, canonical_scaled}
use Rattle.cgs_poly.proofs.ArithmeticLemmas.{scaled_poly, scaled_nothing, coefficient_scaled}
use Rattle.cgs_poly.proofs.poly.Poly.scale.Goals as goal
use Rattle.cgs_poly.proofs.poly.Poly.scale.Goals.{In_ok-scaled}

pub returns-then-number-eq0-clause-multiple : goal.returns-then-number-eq0-clause-multiple
returns-then-number-eq0-clause-multiple c = c.zero.ensures ∙ scaled_nothing c.args.ring.now c.args.c c.args.f.now (sym c.number.ensures ∙ c.if-number-eq0.true)

pub multiplied-requires-clause-can : goal.multiplied-requires-clause-can
multiplied-requires-clause-can c = each_so (c.args.c < c.args.ring.now.modulus) c.requires.below c.args.f.now

pub multiplied-requires-clause-multiple : goal.multiplied-requires-clause-multiple
multiplied-requires-clause-multiple c =
    scaled_canonical c.args.ring.now c.args.c c.args.f.now c.requires.ring.modulus (omega arith) c.requires.below c.requires.poly.canonical

multiple_is : (c : In_ok-scaled) → c.in_ok-scaled.scaled ≡ canonical c.args.ring.now (scaled c.args.c c.args.f.now)
multiple_is c =
    let pos : 0 < c.args.c = omega (arith, c.number.ensures, c.if-number-eq0.false) in
    c.in_ok-scaled.ensures ∙ sym (canonical_scaled c.args.ring.now c.args.c c.args.f.now c.requires.ring.modulus pos c.requires.below c.requires.poly.canonical)

pub returns-clause-multiple : goal.returns-clause-multiple
returns-clause-multiple c = multiple_is c

pub returns-clause-poly : goal.returns-clause-poly
returns-clause-poly c =
    subst (λ h. IsPoly c.args.ring.now h) (sym (multiple_is c)) (scaled_poly c.args.ring.now c.args.c c.args.f.now c.requires.ring c.requires.poly)

pub returns-clause-coefficients : goal.returns-clause-coefficients
returns-clause-coefficients c = λ m.
    ap (λ h. coefficient c.args.ring.now.modulus h m) (multiple_is c)
    ∙ coefficient_scaled c.args.ring.now c.args.c c.args.f.now m c.requires.ring (canonical_of_ring c.args.ring.now c.args.f.now c.requires.poly.canonical)
