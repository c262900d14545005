use Rattle.std.proofs.Common.{◌≤◌, ◌+◌, ap, ◌∙◌, refl, arith}
use Rattle.cgs_poly.specs.Polynomial.{HasLowDegrees, greatest_degree, places, coefficient}
use Rattle.cgs_poly.specs.Product.{all_products, top_degree}
use Rattle.cgs_poly.proofs.FaultLemmas.{not_of_degree}
use Rattle.cgs_poly.proofs.RingLemmas.{ring_positive, places_few}
use Rattle.cgs_poly.proofs.PlaceLemmas.{canonical_short, canonical_length}
use Rattle.cgs_poly.proofs.ProductLemmas.{low_products, products_low, products_of_ring, fits_unless, fits_any, top_of_low}
use Rattle.cgs_poly.proofs.CanonicalLemmas.{canonical_of_ring, coefficient_canonical}
use Rattle.cgs_poly.proofs.poly.Poly.product.Goals as goal
use Rattle.cgs_poly.proofs.poly.Poly.product.Goals.{Else-exceeds}

pub top_degree-requires : goal.top_degree-requires
top_degree-requires c = canonical_short c.args.ring.now c.args.f.now (places_few c.args.ring.now c.requires.ring) c.requires.first.canonical

pub exceeds-requires : goal.exceeds-requires
exceeds-requires c = canonical_short c.args.ring.now c.args.g.now (places_few c.args.ring.now c.requires.ring) c.requires.second.canonical

-- the degrees fit
fits : (c : Else-exceeds) → top_degree c.args.f.now + top_degree c.args.g.now ≤ greatest_degree
fits c =
    fits_any (top_degree c.args.f.now) c.args.g.now (top_of_low c.args.f.now c.requires.first.low)
    (fits_unless c.exceeds.result (top_degree c.args.f.now) c.top_degree.result c.args.g.now c.top_degree.ensures c.if-exceeds.false c.exceeds.ensures.1)

low : (c : Else-exceeds) → HasLowDegrees (all_products c.args.f.now c.args.g.now)
low c =
    low_products (places c.args.ring.now) c.args.f.now c.args.g.now (canonical_length c.args.ring.now c.args.f.now c.requires.first.canonical)
    (canonical_length c.args.ring.now c.args.g.now c.requires.second.canonical) (fits c)

pub returns-then-exceeds-clause-degree : goal.returns-then-exceeds-clause-degree
returns-then-exceeds-clause-degree c =
    let q = c.exceeds.ensures.0 c.if-exceeds.true in (
      (λ e l.
          omega (
            arith,
            products_low (places c.args.ring.now) c.args.f.now c.args.g.now (canonical_length c.args.ring.now c.args.f.now c.requires.first.canonical)
                (canonical_length c.args.ring.now c.args.g.now c.requires.second.canonical) (omega arith) q.0 l,
            q.1,
            c.top_degree.ensures,
          )),
      (λ n. refl),
    )

pub low_product-requires-clause-low : goal.low_product-requires-clause-low
low_product-requires-clause-low c = fits (goal.at.low_product-requires-clause-low c).Else-exceeds

pub returns-in_err-product-clause-degree : goal.returns-in_err-product-clause-degree
returns-in_err-product-clause-degree c = (
  (λ e l. not_of_degree c.from_residual.result c.from_residual.ensures.1 e),
  (λ n. absurd (n (low (goal.at.returns-in_err-product-clause-degree c).Else-exceeds))),
)

pub returns-clause-degree : goal.returns-clause-degree
returns-clause-degree c = ((λ e l. cc), (λ n. absurd (n (low (goal.at.returns-clause-degree c).Else-exceeds))))

pub returns-clause-low : goal.returns-clause-low
returns-clause-low c = low (goal.at.returns-clause-low c).Else-exceeds

pub returns-clause-coefficients : goal.returns-clause-coefficients
returns-clause-coefficients c = λ n.
    ap (λ h. coefficient c.args.ring.now.modulus h n) c.in_ok-product.ensures.product
    ∙ coefficient_canonical c.args.ring.now (all_products c.args.f.now c.args.g.now) n (ring_positive c.args.ring.now c.requires.ring)
    (products_of_ring c.args.ring.now c.args.f.now c.args.g.now (canonical_of_ring c.args.ring.now c.args.f.now c.requires.first.canonical)
    (canonical_of_ring c.args.ring.now c.args.g.now c.requires.second.canonical))
