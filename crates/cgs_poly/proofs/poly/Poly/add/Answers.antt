use Rattle.std.proofs.Common.{◌≡◌, ◌++◌, ap, ◌∙◌, sym, subst}
use Rattle.cgs_poly.specs.Polynomial.{IsCanonical, IsPoly, canonical, coefficient}
use Rattle.cgs_poly.proofs.RingLemmas.{ring_positive}
use Rattle.cgs_poly.proofs.PlaceLemmas.{changed_not, each_trivial}
use Rattle.cgs_poly.proofs.CanonicalLemmas.{append_of_ring, canonical_of_ring, poly_sum, coefficient_canonical, coefficient_append}
use Rattle.cgs_poly.proofs.poly.Poly.add.Goals as goal
use Rattle.cgs_poly.proofs.poly.Poly.add.Goals.{In_ok-sum}

pub merged-requires-clause-can : goal.merged-requires-clause-can
merged-requires-clause-can c = each_trivial c.args.g.now

pub merged-requires-clause-second : goal.merged-requires-clause-second
merged-requires-clause-second c = subst (λ g. IsCanonical c.args.ring.now g) (sym (changed_not c.args.g.now)) c.requires.second.canonical

sum_is : (c : In_ok-sum) → c.in_ok-sum.sum ≡ canonical c.args.ring.now (c.args.f.now ++ c.args.g.now)
sum_is c = c.in_ok-sum.ensures ∙ ap (λ g. canonical c.args.ring.now (c.args.f.now ++ g)) (changed_not c.args.g.now)

pub returns-clause-sum : goal.returns-clause-sum
returns-clause-sum c = sum_is c

pub returns-clause-poly : goal.returns-clause-poly
returns-clause-poly c =
    subst (λ h. IsPoly c.args.ring.now h) (sym (sum_is c))
    (poly_sum c.args.ring.now c.args.f.now c.args.g.now (ring_positive c.args.ring.now c.requires.ring) c.requires.first c.requires.second)

pub returns-clause-coefficients : goal.returns-clause-coefficients
returns-clause-coefficients c = λ m.
    let pos = ring_positive c.args.ring.now c.requires.ring in
    let of = append_of_ring c.args.ring.now c.args.f.now c.args.g.now (canonical_of_ring c.args.ring.now c.args.f.now c.requires.first.canonical)
    (canonical_of_ring c.args.ring.now c.args.g.now c.requires.second.canonical) in
    ap (λ h. coefficient c.args.ring.now.modulus h m) (sum_is c)
    ∙ (coefficient_canonical c.args.ring.now (c.args.f.now ++ c.args.g.now) m pos of ∙ coefficient_append c.args.ring.now.modulus c.args.f.now c.args.g.now m)
