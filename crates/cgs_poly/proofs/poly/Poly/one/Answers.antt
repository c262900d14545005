use Rattle.std.proofs.Common.{ℕ, [], ◌∷◌, ◌++◌, take, replicate, ap, ◌∙◌}
use Rattle.cgs_poly.specs.Polynomial.{term}
use Rattle.cgs_poly.proofs.OneLemmas.{one_is}
use Rattle.cgs_poly.proofs.poly.Poly.one.Goals as goal

pub returns-clause-one : goal.returns-clause-one
returns-clause-one c =
    c.finish.ensures
    ∙ (c.push.ensures.appended.terms
    ∙ (ap (λ f. f ++ term c.of_u64.result (take c.places-places.result (replicate {A = ℕ} 17 0)) ∷ []) c.in_ok-draft.ensures.none
    ∙ one_is c.args.ring.now c.of_u64.result c.places-places.result c.requires c.of_u64.ensures.value c.places-places.ensures))
