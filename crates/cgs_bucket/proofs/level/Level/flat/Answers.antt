use Rattle.std.proofs.Common.{◌-◌, take, drop, ap, ◌∙◌, arith}
use Rattle.std.proofs.lemmas.List.{length-drop, take_all}
use Rattle.cgs_bucket.proofs.level.Level.flat.Goals as goal

pub returns : goal.returns
returns c =
    let inside = c.self.inside in
    let at = c.len-all.result - inside.left in
    c.between.ensures
    ∙ (ap (λ f. take (c.len-all.result - (c.len-all.result - c.self.inside.left)) (drop (c.len-all.result - c.self.inside.left) f)) c.flat.ensures
    ∙ (take_all (c.len-all.result - (c.len-all.result - c.self.inside.left)) (drop (c.len-all.result - c.self.inside.left) c.self.inside.terms)
    (omega (arith, c.len-all.ensures, length-drop (c.len-all.result - c.self.inside.left) c.self.inside.terms))
    ∙ (ap (λ n. drop (n - c.self.inside.left) c.self.inside.terms) c.len-all.ensures ∙ c.self.view_is)))
