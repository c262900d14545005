use Rattle.std.proofs.Common.{◌++◌, arith, ap, refl, ◌∙◌}
use Rattle.cgs_terms.proofs.FlatLemmas.{count_of, part_fits}
use Rattle.cgs_terms.proofs.DraftLemmas.{extended}
use Rattle.cgs_terms.proofs.draft.Draft.extend.Goals as goal

pub coefficients_part-requires-clause-within : goal.coefficients_part-requires-clause-within
coefficients_part-requires-clause-within c =
    let n = count_of c.f.inside.places c.f.inside.coefficients.now c.f.inside.exponents.now c.args.f.now c.f.view_is in
    omega (arith, n, c.requires.within)

pub part-requires-clause-within : goal.part-requires-clause-within
part-requires-clause-within c =
    part_fits c.f.inside.places c.args.to c.f.inside.coefficients.now c.f.inside.exponents.now c.args.f.now c.f.view_is c.f.invariant c.requires.within

pub returns : goal.returns
returns c =
    extended c.args.self.now _ c.f.inside.places c.args.from c.args.to c.f.inside.coefficients.now c.f.inside.exponents.now
    c.args.f.now c.requires.flat c.f.view_is c.f.invariant c.requires.places c.requires.rising c.requires.within refl
    (c.in_ok-extend_from_slice.ensures.items ∙ ap (λ cs. c.args.self.now.coefficients.items ++ cs) c.coefficients_part.ensures)
    (c.in_ok-extend_from_slice-2.ensures.items ∙ ap (λ es. c.args.self.now.exponents.items ++ es) c.part.ensures)
