use Rattle.std.proofs.Common.{◌≡◌, [], get_or, true, false, sym, ap, ◌∙◌, arith}
use Rattle.cgs_poly.specs.Parameters.{lead_x}
use Rattle.cgs_divide.proofs.StepLemmas.{get_read}
use Rattle.cgs_member.specs.ReductionRun.{lead_divides}
use Rattle.cgs_member.proofs.RunLemmas.{first_at, not_first}
use Rattle.cgs_member.proofs.reduction.first_divisor.Goals as goal

pub loop-i-preserved : goal.loop-i-preserved
loop-i-preserved c =
    let m = lead_x c.args.ring.now c.args.f.now in
    let at = get_read c.args.basis.now c.loop-i.i c.get.result.now [] c.get.ensures in
    let d : lead_divides c.args.ring.now (get_or c.args.basis.now c.loop-i.i []) m ≡ false =
    ap (λ g. lead_divides c.args.ring.now g m) at ∙ (sym c.lead_divides.ensures ∙ c.if-lead_divides.false) in
    not_first c.args.ring.now c.args.basis.now m c.loop-i.i (omega (arith, c.len-i-end.ensures, c.loop-i-test.true)) c.loop-i.invariant d

pub returns-then-lead_divides-clause-first : goal.returns-then-lead_divides-clause-first
returns-then-lead_divides-clause-first c =
    let m = lead_x c.args.ring.now c.args.f.now in
    let at = get_read c.args.basis.now c.loop-i.i c.get.result.now [] c.get.ensures in
    let d : lead_divides c.args.ring.now (get_or c.args.basis.now c.loop-i.i []) m ≡ true =
    ap (λ g. lead_divides c.args.ring.now g m) at ∙ (sym c.lead_divides.ensures ∙ c.if-lead_divides.true) in
    let l = c.loop-i-test.true in
    let n = c.len-i-end.ensures in (
      omega (arith, n, l),
      first_at c.args.ring.now c.args.basis.now m c.loop-i.i (omega (arith, n, l)) c.loop-i.invariant d,
    )
