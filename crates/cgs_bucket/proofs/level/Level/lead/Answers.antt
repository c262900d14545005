use Rattle.std.proofs.Common.{◌≡◌, ◌<◌, ◌-◌, Some, length, get_or, ap, sym, ◌∙◌, subst, rules, arith}
use Rattle.std.specs.Prelude.{slice_get}
use Rattle.std.proofs.lemmas.List.{length-drop}
use Rattle.cgs_terms.specs.Polynomial.{term}
use Rattle.cgs_bucket.proofs.LevelLemmas.{get_drop, coefficients_length, coefficient_at}
use Rattle.cgs_bucket.proofs.level.Level.lead.Goals as goal
use Rattle.cgs_bucket.proofs.level.Level.lead.Goals.{After-coefficients-coefficients}

-- the first term is one of the list
within : (c : After-coefficients-coefficients) → c.len.result - c.self.inside.left < length c.coefficients-coefficients.result.now
within c =
    let inside = c.self.inside in
    omega (
      arith,
      c.requires,
      c.len.ensures,
      c.self.invariant,
      length-drop (length inside.terms - inside.left) inside.terms,
      ap length c.self.view_is,
      ap length c.coefficients-coefficients.ensures,
      coefficients_length inside.terms,
    )

pub offset_bounds-coefficients-at : goal.offset_bounds-coefficients-at
offset_bounds-coefficients-at c = let h = within (goal.at.offset_bounds-coefficients-at c).After-coefficients-coefficients in search rules

pub bounds-coefficients-at : goal.bounds-coefficients-at
bounds-coefficients-at c = within (goal.at.bounds-coefficients-at c).After-coefficients-coefficients

pub returns : goal.returns
returns c =
    let is = subst (λ cs. c.index-coefficients-at.result ≡ get_or cs (c.len.result - c.self.inside.left) c.index-coefficients-at.result)
    c.coefficients-coefficients.ensures c.index-coefficients-at.is in
    let same = coefficient_at (c.len.result - c.self.inside.left) c.term.result.coefficient c.index-coefficients-at.result c.term.result.exponents.now
    c.self.inside.terms c.term.ensures is in
    ap (λ f. slice_get f 0) (sym c.self.view_is)
    ∙ (get_drop (length c.self.inside.terms - c.self.inside.left) c.self.inside.terms
    ∙ (ap (λ n. slice_get c.self.inside.terms (n - c.self.inside.left)) (sym c.len.ensures)
    ∙ (c.term.ensures ∙ ap (λ d. Some (term d c.term.result.exponents.now)) (sym same))))
