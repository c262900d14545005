use Rattle.std.proofs.Common.{rules, ℕ, ◌≡◌, ◌<◌, [], ◌∷◌, refl, arith}
use Rattle.cgs_order.specs.declared.kind.Kind.TheVariants.{Lex}
use Rattle.cgs_order.specs.TermOrder.{compared, key}
use Rattle.cgs_terms.specs.declared.ring.Ring.{Ring}
use Rattle.cgs_terms.specs.Polynomial.{IsPoly, places}
use Rattle.cgs_terms.specs.Flat.{terms_of}
use Rattle.cgs_bucket.proofs.tests.leads_cancel.Goals as goal

-- a polynomial of degree 1 in one variable
linear_poly : (p c d : ℕ) (ring : Ring) → ring ≡ record { modulus = p; variables = 1; parameters = 0; kind = Lex } → 0 < c → c < p → 0 < d → d < p
    → IsPoly ring (terms_of (places ring) (c ∷ d ∷ []) (1 ∷ 0 ∷ []))
unfolding compared key
linear_poly p c d ring is a b e h = rw is (record {
  canonical = (a, b, refl, refl, (e, h, refl, tt, tt));
  low = (omega arith, (omega arith, tt));
})

pub add_multiple-requires-clause-poly : goal.add_multiple-requires-clause-poly
add_multiple-requires-clause-poly g c =
    let m : c.in_ok-modulus.modulus ≡ 7 = search rules in
    let one : c.of_u64-one.result ≡ 1 = search rules in
    linear_poly c.in_ok-modulus.modulus c.of_u64-one.result c.of_u64-one.result c.lead.follows.lender-at-none.ring (search rules) (omega (arith, one))
    (omega (arith, m, one)) (omega (arith, one)) (omega (arith, m, one))

pub add_multiple-requires-2-clause-poly : goal.add_multiple-requires-2-clause-poly
add_multiple-requires-2-clause-poly g c =
    let m : c.in_ok-modulus.modulus ≡ 7 = search rules in
    let one : c.of_u64-one.result ≡ 1 = search rules in
    let two : c.of_u64-2.result ≡ 2 = search rules in
    linear_poly c.in_ok-modulus.modulus c.of_u64-one.result c.of_u64-2.result c.add_multiple.new.self.ring (search rules) (omega (arith, one))
    (omega (arith, m, one)) (omega (arith, two)) (omega (arith, m, two))
