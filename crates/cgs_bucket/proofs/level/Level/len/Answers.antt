use Rattle.std.proofs.Common.{◌-◌, length, ap, arith}
use Rattle.std.proofs.lemmas.List.{length-drop}
use Rattle.cgs_bucket.proofs.level.Level.len.Goals as goal

pub returns : goal.returns
returns c =
    let inside = c.self.inside in
    omega (arith, length-drop (length inside.terms - inside.left) inside.terms, ap length c.self.view_is, c.self.invariant)
