use Rattle.std.proofs.Common.{length, ap, sym, ◌∙◌}
use Rattle.cgs_terms.proofs.FlatLemmas.{terms_length}
use Rattle.cgs_terms.proofs.flat.Flat.len.Goals as goal

pub returns : goal.returns
returns c =
    let e = terms_length c.self.inside.places c.self.inside.coefficients.now c.self.inside.exponents.now in
    sym e ∙ ap length c.self.view_is
