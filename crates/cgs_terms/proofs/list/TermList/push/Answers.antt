use Rattle.std.proofs.Common.{◌++◌, [], ◌∷◌, length}
use Rattle.cgs_terms.specs.Polynomial.{term}
use Rattle.cgs_terms.proofs.FlatLemmas.{FlatFor}
use Rattle.cgs_terms.proofs.DraftLemmas.{pushed_at_end}
use Rattle.cgs_terms.proofs.list.TermList.push.Goals as goal
use Rattle.cgs_terms.proofs.list.TermList.push.Goals.{After-push_row}

flat : (c : After-push_row) → FlatFor (length c.args.m.now) (c.self.inside.coefficients.items ++ c.args.c ∷ [])
    (c.self.inside.exponents.items ++ c.args.m.now) (c.args.self.now ++ term c.args.c c.args.m.now ∷ [])
flat c = pushed_at_end c.self.inside.places c.args.c c.self.inside.coefficients.items c.self.inside.exponents.items
    c.args.m.now c.args.self.now c.self.view_is c.self.invariant c.requires.places

pub invariant_of-self-2 : goal.invariant_of-self-2
invariant_of-self-2 c =
    rw (c.push_reserved.ensures.items, c.reserve_term.ensures.coefficients, c.push_row.ensures.items, c.reserve_term.ensures.exponents)
    (flat (goal.at.invariant_of-self-2 c).After-push_row).flat

pub returns-clause-ok : goal.returns-clause-ok
returns-clause-ok c =
    rw (c.push_reserved.ensures.items, c.reserve_term.ensures.coefficients, c.push_row.ensures.items, c.reserve_term.ensures.exponents)
    (flat (goal.at.returns-clause-ok c).After-push_row).terms
