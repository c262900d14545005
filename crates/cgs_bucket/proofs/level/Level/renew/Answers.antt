use Rattle.std.proofs.Common.{◌≡◌, ◌-◌, length, drop, ap, ◌∙◌, arith}
use Rattle.cgs_bucket.proofs.level.Level.renew.Goals as goal

pub returns : goal.returns
returns c =
    let none : length c.args.terms - c.len-self-inside.result ≡ 0 = omega (arith, c.len-self-inside.ensures) in
    ap (λ t. drop (length t - c.len-self-inside.result) t) c.replace.ensures.after ∙ ap (λ n. drop n c.args.terms) none
