use Rattle.std.proofs.Common.{◌∙◌}
use Rattle.cgs_terms.proofs.FlatLemmas.{coefficients_are}
use Rattle.cgs_terms.proofs.list.TermList.coefficients.Goals as goal

pub returns : goal.returns
returns c =
    let inside = c.self.inside in
    c.as_slice.ensures.value ∙ coefficients_are inside.places inside.coefficients.items inside.exponents.items c.args.self.now c.self.view_is
