use Rattle.std.proofs.Common.{[], ◌∷◌, ap, ◌∙◌}
use Rattle.std.proofs.lemmas.Result.{IfOk-weaker}
use Rattle.cgs_poly.specs.Polynomial.{term}
use Rattle.cgs_poly.proofs.CanonicalLemmas.{one_canonical}
use Rattle.cgs_poly.proofs.OneLemmas.{zero_places}
use Rattle.cgs_radical.proofs.emptiness.constant.Goals as goal

pub returns-clause-ok : goal.returns-clause-ok
returns-clause-ok c =
    IfOk-weaker c.of_term.result _ _ (λ f e. e
    ∙ (one_canonical c.args.ring.now c.args.c _ c.requires.some c.requires.below
    ∙ ap (λ m. term c.args.c m ∷ []) (zero_places c.args.ring.now c.places.result c.requires.ring c.places.ensures))) c.of_term.ensures.ok
