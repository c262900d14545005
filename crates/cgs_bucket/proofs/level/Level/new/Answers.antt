use Rattle.std.proofs.Common.{◌≡◌, ◌-◌, length, drop, ap, arith}
use Rattle.cgs_bucket.proofs.level.Level.new.Goals as goal

pub returns : goal.returns
returns c =
    let none : length c.args.terms - c.len-left.result ≡ 0 = omega (arith, c.len-left.ensures) in
    ap (λ n. drop n c.args.terms) none
