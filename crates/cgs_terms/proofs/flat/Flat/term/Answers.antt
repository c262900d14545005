use Rattle.std.proofs.Common.{arith, ap, sym, ◌∙◌}
use Rattle.std.specs.Prelude.{slice_get}
use Rattle.cgs_terms.proofs.FlatLemmas.{count_of}
use Rattle.cgs_terms.proofs.flat.Flat.term.Goals as goal

pub term_at-requires-clause-within : goal.term_at-requires-clause-within
term_at-requires-clause-within c =
    let n = count_of c.self.inside.places c.self.inside.coefficients.now c.self.inside.exponents.now c.args.self.now c.self.view_is in
    omega (arith, n, c.requires)

pub returns : goal.returns
returns c = ap (λ f. slice_get f c.args.i) (sym c.self.view_is) ∙ c.term_at.ensures
