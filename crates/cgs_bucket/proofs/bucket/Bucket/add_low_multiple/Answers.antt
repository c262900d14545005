use Rattle.std.proofs.Common.{◌≡◌, ◌*◌, ◌++◌, length, ap, sym, ◌∙◌, subst}
use Rattle.std.proofs.lemmas.Result.{on_ok_weaker}
use Rattle.cgs_terms.specs.Polynomial.{IsPoly, HasLowDegrees, places, canonical}
use Rattle.cgs_terms.specs.Product.{multiple}
use Rattle.cgs_terms.specs.Flat.{terms_of}
use Rattle.cgs_bucket.specs.Levels.{Contents, all_terms}
use Rattle.cgs_bucket.proofs.bucket.Bucket.add_low_multiple.Goals as goal
use Rattle.cgs_bucket.proofs.bucket.Bucket.add_low_multiple.Goals.{After-new-g}

-- the terms given
given_is : (c : After-new-g) → c.new-g.result ≡ terms_of (places c.args.self.now.ring) c.args.coefficients.now c.args.exponents.now
given_is c =
    c.new-g.ensures
    ∙ ap (λ n. terms_of n c.args.coefficients.now c.args.exponents.now) (c.places.ensures ∙ ap (λ (b : Contents). places b.ring) c.self.view_is)

pub new-g-requires : goal.new-g-requires
new-g-requires c = record {
  flat = c.requires.flat ∙ ap (λ n. length c.args.coefficients.now * n) (sym (c.places.ensures ∙ ap (λ (b : Contents). places b.ring) c.self.view_is));
}

pub add-requires-clause-second : goal.add-requires-clause-second
add-requires-clause-second c =
    let g = given_is (goal.at.add-requires-clause-second c).After-new-g in
    subst (λ ring. IsPoly ring c.new-g.result) (sym (ap (λ (b : Contents). b.ring) c.self.view_is))
    (subst (IsPoly c.args.self.now.ring) (sym g) c.requires.poly)

pub add-requires-clause-low : goal.add-requires-clause-low
add-requires-clause-low c =
    subst (λ h. HasLowDegrees (multiple c.args.c c.args.m.now h)) (sym (given_is (goal.at.add-requires-clause-low c).After-new-g)) c.requires.low

pub returns-clause-ok : goal.returns-clause-ok
returns-clause-ok c = on_ok_weaker c.add.result (λ a. a.sum
    ∙ (ap (λ h. canonical c.self.inside.ring (canonical c.self.inside.ring (all_terms c.self.inside.levels.items) ++ multiple c.args.c c.args.m.now h))
    (given_is (goal.at.returns-clause-ok c).After-new-g)
    ∙ ap (λ (b : Contents). canonical b.ring (b.terms ++ multiple c.args.c c.args.m.now
    (terms_of (places c.args.self.now.ring) c.args.coefficients.now c.args.exponents.now))) c.self.view_is)) c.add.ensures.ok
