use Rattle.std.proofs.Common.{◌≡◌, ◌≤◌, ◌*◌, length, ap, sym, ◌∙◌, subst, refl, arith}
use Rattle.cgs_exps.specs.Monomial.{degree}
use Rattle.cgs_terms.specs.Polynomial.{IsPoly, HasLowDegrees, places}
use Rattle.cgs_terms.specs.Product.{multiple}
use Rattle.cgs_terms.specs.Flat.{terms_of}
use Rattle.cgs_terms.specs.Draft.{HaveLength}
use Rattle.cgs_terms.proofs.PlaceLemmas.{canonical_short, canonical_length}
use Rattle.cgs_terms.proofs.ProductLemmas.{low_if_any, multiple_low, fits_unless}
use Rattle.cgs_bucket.specs.Levels.{Contents}
use Rattle.cgs_bucket.proofs.FaultLemmas.{not_of_degree}
use Rattle.cgs_bucket.proofs.bucket.Bucket.add_multiple.Goals as goal
use Rattle.cgs_bucket.proofs.bucket.Bucket.add_multiple.Goals.{After-new-g, Else-exceeds}

-- the terms given
given_is : (c : After-new-g) → c.new-g.result ≡ terms_of (places c.args.self.now.ring) c.args.coefficients.now c.args.exponents.now
given_is c =
    c.new-g.ensures
    ∙ ap (λ n. terms_of n c.args.coefficients.now c.args.exponents.now) (c.places.ensures ∙ ap (λ (b : Contents). places b.ring) c.self.view_is)

given : (c : After-new-g) → IsPoly c.args.self.now.ring c.new-g.result
given c = subst (IsPoly c.args.self.now.ring) (sym (given_is c)) c.requires.poly

few : (c : After-new-g) → places c.args.self.now.ring ≤ 17
few c = omega (arith, c.self.invariant.few, ap (λ (b : Contents). places b.ring) c.self.view_is)

lengths : (c : After-new-g) → HaveLength (length c.args.m.now) c.new-g.result
lengths c = rw c.requires.places (canonical_length c.args.self.now.ring c.new-g.result (given c).canonical)

pub new-g-requires : goal.new-g-requires
new-g-requires c = record {
  flat = c.requires.flat ∙ ap (λ n. length c.args.coefficients.now * n) (sym (c.places.ensures ∙ ap (λ (b : Contents). places b.ring) c.self.view_is));
}

pub degree-requires : goal.degree-requires
degree-requires c = omega (arith, c.requires.places, c.self.invariant.few, ap (λ (b : Contents). places b.ring) c.self.view_is)

pub exceeds-requires : goal.exceeds-requires
exceeds-requires c =
    let g = (goal.at.exceeds-requires c).After-new-g in
    canonical_short c.args.self.now.ring c.new-g.result (few g) (given g).canonical

pub returns-then-exceeds-clause-degree : goal.returns-then-exceeds-clause-degree
returns-then-exceeds-clause-degree c =
    let g = (goal.at.returns-then-exceeds-clause-degree c).After-new-g in
    let q = c.exceeds.ensures.0 c.if-exceeds.true in (
      (λ _ low.
          let own : HasLowDegrees (multiple c.args.c c.args.m.now c.new-g.result) =
          subst (λ h. HasLowDegrees (multiple c.args.c c.args.m.now h)) (sym (given_is g)) low in
          omega (arith, multiple_low c.args.c c.args.m.now c.new-g.result (lengths g) q.0 own, q.1, c.degree.ensures)),
      (λ n. refl),
    )

same_terms : (c : Else-exceeds) → c.new-g.result ≡ terms_of (places c.args.self.now.ring) c.args.coefficients.now c.args.exponents.now
same_terms c =
    c.new-g.ensures
    ∙ ap (λ n. terms_of n c.args.coefficients.now c.args.exponents.now) (c.places.ensures ∙ ap (λ (b : Contents). places b.ring) c.self.view_is)

same_lengths : (c : Else-exceeds) → HaveLength (length c.args.m.now) c.new-g.result
same_lengths c =
    rw c.requires.places (canonical_length c.args.self.now.ring c.new-g.result
    (subst (IsPoly c.args.self.now.ring) (sym (same_terms c)) c.requires.poly).canonical)

-- the degrees fit
low : (c : Else-exceeds) → HasLowDegrees (multiple c.args.c c.args.m.now c.new-g.result)
low c =
    low_if_any c.args.c c.args.m.now c.new-g.result (same_lengths c)
    (fits_unless c.exceeds.result (degree c.args.m.now) c.degree.result c.new-g.result c.degree.ensures c.if-exceeds.false c.exceeds.ensures.1)

low_given : (c : Else-exceeds) → HasLowDegrees (multiple c.args.c c.args.m.now
    (terms_of (places c.args.self.now.ring) c.args.coefficients.now c.args.exponents.now))
low_given c = subst (λ h. HasLowDegrees (multiple c.args.c c.args.m.now h)) (same_terms c) (low c)

pub add_low_multiple-requires-clause-low : goal.add_low_multiple-requires-clause-low
add_low_multiple-requires-clause-low c = low_given (goal.at.add_low_multiple-requires-clause-low c).Else-exceeds

pub returns-in_err-add_low_multiple-clause-degree : goal.returns-in_err-add_low_multiple-clause-degree
returns-in_err-add_low_multiple-clause-degree c = (
  (λ e l. not_of_degree c.from_residual.result c.from_residual.ensures.1 e),
  (λ n. absurd (n (low_given (goal.at.returns-in_err-add_low_multiple-clause-degree c).Else-exceeds))),
)

pub returns-clause-degree : goal.returns-clause-degree
returns-clause-degree c = ((λ e l. cc), (λ n. absurd (n (low_given (goal.at.returns-clause-degree c).Else-exceeds))))
