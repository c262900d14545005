use Rattle.std.proofs.Common.{◌<◌, length, sym, ap, ◌∙◌, subst, arith}
use Rattle.cgs_poly.specs.Same.{is_among}
use Rattle.cgs_basis.specs.Completion.{StandFor}
use Rattle.cgs_basis.proofs.StateLemmas.{generator_new, generator_there}
use Rattle.cgs_basis.proofs.completion.append_generator.Goals as goal

pub returns-in_ok-append-clause-state : goal.returns-in_ok-append-clause-state
returns-in_ok-append-clause-state c = λ s k.
    let l : 0 < length c.args.f.now = omega (arith, c.if-len-eq0.false, c.len.ensures) in
    subst (λ t. StandFor c.args.ring.now t c.append.new.members c.append.new.queue)
    (sym (generator_new c.args.ring.now s c.args.f.now c.in_ok-monic.monic l c.in_ok-monic.ensures.monic
    (ap (λ G. is_among c.in_ok-monic.monic G) k.members ∙ (sym c.is_among.ensures ∙ c.if-not-is_among.true)))) (c.in_ok-append.ensures.state s k)

pub returns-else-not-is_among-clause-state : goal.returns-else-not-is_among-clause-state
returns-else-not-is_among-clause-state c = λ s k.
    let l : 0 < length c.args.f.now = omega (arith, c.if-len-eq0.false, c.len.ensures) in
    subst (λ t. StandFor c.args.ring.now t c.args.members.now c.args.queue.now)
    (sym (generator_there c.args.ring.now s c.args.f.now c.in_ok-monic.monic l c.in_ok-monic.ensures.monic
    (ap (λ G. is_among c.in_ok-monic.monic G) k.members ∙ (sym c.is_among.ensures ∙ c.if-not-is_among.false)))) k
