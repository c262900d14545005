use Rattle.std.proofs.Common.{◌-◌, length, ap, sym, ◌∙◌, arith}
use Rattle.std.specs.Prelude.{slice_get}
use Rattle.std.proofs.lemmas.List.{length-drop}
use Rattle.cgs_bucket.proofs.LevelLemmas.{get_drop}
use Rattle.cgs_bucket.proofs.level.Level.first.Goals as goal

pub term-requires : goal.term-requires
term-requires c =
    let inside = c.self.inside in
    omega (arith, c.requires, c.len.ensures, c.self.invariant, length-drop (length inside.terms - inside.left) inside.terms, ap length c.self.view_is)

pub returns : goal.returns
returns c =
    ap (λ f. slice_get f 0) (sym c.self.view_is)
    ∙ (get_drop (length c.self.inside.terms - c.self.inside.left) c.self.inside.terms
    ∙ (ap (λ n. slice_get c.self.inside.terms (n - c.self.inside.left)) (sym c.len.ensures) ∙ c.term.ensures))
