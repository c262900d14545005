use Rattle.std.proofs.Common.{◌≡◌, ◌-◌, length, drop, ap, ◌∙◌, arith}
use Rattle.std.proofs.lemmas.List.{length-drop}
use Rattle.cgs_terms.specs.Flat.{with_coefficient}
use Rattle.cgs_bucket.proofs.LevelLemmas.{with_drop, with_length}
use Rattle.cgs_bucket.proofs.level.Level.set_first.Goals as goal
use Rattle.cgs_bucket.proofs.level.Level.set_first.Goals.{After-set_coefficient}

pub set_coefficient-requires : goal.set_coefficient-requires
set_coefficient-requires c =
    let inside = c.self.inside in
    omega (arith, c.requires, c.len.ensures, c.self.invariant, length-drop (length inside.terms - inside.left) inside.terms, ap length c.self.view_is)

same : (c : After-set_coefficient) → length c.set_coefficient.new.self ≡ length c.self.inside.terms
same c = ap length c.set_coefficient.ensures ∙ with_length (c.len.result - c.self.inside.left) c.args.c c.self.inside.terms

pub invariant_of-self : goal.invariant_of-self
invariant_of-self c = omega (arith, same (goal.at.invariant_of-self c).After-set_coefficient, c.self.invariant)

pub returns : goal.returns
returns c =
    let at : length c.set_coefficient.new.self - c.self.inside.left ≡ c.len.result - c.self.inside.left =
    omega (arith, same (goal.at.returns c).After-set_coefficient, c.len.ensures) in
    ap (λ n. drop n c.set_coefficient.new.self) at
    ∙ (ap (drop (c.len.result - c.self.inside.left)) c.set_coefficient.ensures
    ∙ (with_drop (c.len.result - c.self.inside.left) c.args.c c.self.inside.terms
    ∙ ap (with_coefficient 0 c.args.c) (ap (λ n. drop (n - c.self.inside.left) c.self.inside.terms) c.len.ensures ∙ c.self.view_is)))
