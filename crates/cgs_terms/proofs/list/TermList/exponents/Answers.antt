use Rattle.std.proofs.Common.{◌∙◌}
use Rattle.cgs_terms.proofs.FlatLemmas.{exponents_are}
use Rattle.cgs_terms.proofs.list.TermList.exponents.Goals as goal

pub returns : goal.returns
returns c =
    let inside = c.self.inside in
    c.as_slice.ensures.value ∙ exponents_are inside.places inside.coefficients.items inside.exponents.items c.args.self.now c.self.view_is c.self.invariant
