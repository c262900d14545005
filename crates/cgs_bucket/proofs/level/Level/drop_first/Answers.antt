use Rattle.std.proofs.Common.{◌≡◌, ◌+◌, ◌-◌, length, drop, ap, sym, ◌∙◌, arith}
use Rattle.std.proofs.lemmas.List.{length-drop, drop-drop}
use Rattle.cgs_bucket.proofs.level.Level.drop_first.Goals as goal

pub returns : goal.returns
returns c =
    let next : length c.self.inside.terms - (c.self.inside.left - 1) ≡ length c.self.inside.terms - c.self.inside.left + 1 =
    omega (arith, c.self.invariant, c.requires, length-drop (length c.self.inside.terms - c.self.inside.left) c.self.inside.terms, ap length c.self.view_is) in
    ap (λ n. drop n c.self.inside.terms) next
    ∙ (sym (drop-drop 1 (length c.self.inside.terms - c.self.inside.left) c.self.inside.terms) ∙ ap (drop 1) c.self.view_is)
