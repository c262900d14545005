use Rattle.std.proofs.Common.{◌<◌, length, sym, ◌∙◌, arith}
use Rattle.std.proofs.lemmas.Option.{get_or_from_slice_get}
use Rattle.cgs_poly.proofs.SameLemmas.{among_here, among_later}
use Rattle.cgs_poly.proofs.list.is_among.Goals as goal

pub returns-then-same : goal.returns-then-same
returns-then-same c =
    let l : c.loop-i.i < length c.args.list.now = omega (arith, c.loop-i-test.true, c.len-i-end.ensures) in
    let g = sym (get_or_from_slice_get c.args.list.now c.loop-i.i c.get.result.now c.get.result.now c.get.ensures) in
    sym (among_here c.args.f.now c.get.result.now c.args.list.now c.loop-i.i l g (c.same.ensures.0 c.if-same.true)) ∙ c.loop-i.invariant

pub loop-i-preserved : goal.loop-i-preserved
loop-i-preserved c =
    let l : c.loop-i.i < length c.args.list.now = omega (arith, c.loop-i-test.true, c.len-i-end.ensures) in
    let g = sym (get_or_from_slice_get c.args.list.now c.loop-i.i c.get.result.now c.get.result.now c.get.ensures) in
    among_later c.args.f.now c.get.result.now c.args.list.now c.loop-i.i l g (λ e. let t = c.same.ensures.1 e in let f = c.if-same.false in cc)
    ∙ c.loop-i.invariant
