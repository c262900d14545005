use Rattle.std.proofs.Common.{sym, ◌∙◌}
use Rattle.std.proofs.lemmas.Bool.Decides.{Decides-eqb}
use Rattle.std.proofs.lemmas.Slice.Eq.{slice_eq-Decides}
use Rattle.cgs_terms.proofs.FlatLemmas.{flat_same, flat_parts}
use Rattle.cgs_terms.proofs.list.TermList.same.Goals as goal

pub returns-then-eq : goal.returns-then-eq
returns-then-eq c =
    let a = c.self.inside in
    let b = c.other.inside in
    let first = (slice_eq-Decides Decides-eqb a.exponents.items b.exponents.items c.eq.result c.eq.ensures).0 c.if-eq.true in
    let second = slice_eq-Decides Decides-eqb a.coefficients.items b.coefficients.items c.eq-then-eq.result c.eq-then-eq.ensures in (
      λ t. sym c.self.view_is
          ∙ (flat_same a.places b.places a.coefficients.items a.exponents.items b.coefficients.items
          b.exponents.items c.self.invariant c.other.invariant (second.0 t) first ∙ c.other.view_is),
      λ e. second.1 (flat_parts a.places b.places a.coefficients.items a.exponents.items b.coefficients.items
          b.exponents.items c.self.invariant c.other.invariant (c.self.view_is ∙ (e ∙ sym c.other.view_is))).0,
    )

pub returns-else-eq : goal.returns-else-eq
returns-else-eq c =
    let a = c.self.inside in
    let b = c.other.inside in
    let first = slice_eq-Decides Decides-eqb a.exponents.items b.exponents.items c.eq.result c.eq.ensures in (
      λ t. absurd (cc),
      λ e. first.1 (flat_parts a.places b.places a.coefficients.items a.exponents.items b.coefficients.items
          b.exponents.items c.self.invariant c.other.invariant (c.self.view_is ∙ (e ∙ sym c.other.view_is))).1,
    )
