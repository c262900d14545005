use Rattle.cgs_terms.proofs.DraftLemmas.{flat_for}
use Rattle.cgs_terms.proofs.flat.Flat.with_places.Goals as goal

pub invariant_of-result : goal.invariant_of-result
invariant_of-result c = (flat_for c.args.places c.self.inside.places _ _ c.args.self.now c.self.view_is c.self.invariant c.requires).flat

pub returns : goal.returns
returns c = (flat_for c.args.places c.self.inside.places _ _ c.args.self.now c.self.view_is c.self.invariant c.requires).terms
