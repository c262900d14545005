use Rattle.std.proofs.Common.{◌<◌, length, sym, subst, arith}
use Rattle.cgs_basis.specs.Completion.{StandFor}
use Rattle.cgs_basis.proofs.StateLemmas.{remainder_new}
use Rattle.cgs_basis.proofs.completion.append_remainder.Goals as goal

pub returns-clause-state : goal.returns-clause-state
returns-clause-state c = λ s k.
    let l : 0 < length c.args.f.now = omega (arith, c.if-len-eq0.false, c.len.ensures) in
    subst (λ t. StandFor c.args.ring.now t c.append.new.members c.append.new.queue)
    (sym (remainder_new c.args.ring.now s c.args.f.now c.in_ok-member.member l c.in_ok-member.ensures.monic)) (c.in_ok-append.ensures.state s k)
