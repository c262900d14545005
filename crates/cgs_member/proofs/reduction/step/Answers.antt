use Rattle.std.proofs.Common.{◌≡◌, ◌<◌, [], length, get_or, true, sym, subst}
use Rattle.cgs_poly.specs.Parameters.{lead_x}
use Rattle.cgs_divide.specs.Ending.{EndsAs}
use Rattle.cgs_divide.proofs.StepLemmas.{get_read}
use Rattle.cgs_member.specs.ReductionRun.{lead_divides}
use Rattle.cgs_member.proofs.RunLemmas.{divisor_divides, step_cancelling}
use Rattle.cgs_member.proofs.reduction.step.Goals as goal

pub cancelling-requires-clause-divides : goal.cancelling-requires-clause-divides
cancelling-requires-clause-divides c =
    let e = c.in-Some.ensures.first.1 in
    let l = subst (λ j. j < length c.args.basis.now) (sym e) c.in-Some.ensures.first.0 in
    let d = divisor_divides c.args.ring.now c.args.basis.now (lead_x c.args.ring.now c.args.f.now) l in
    subst (λ g. lead_divides c.args.ring.now g (lead_x c.args.ring.now c.args.f.now) ≡ true)
    (get_read c.args.basis.now c.in-Some.i c.get.result.now [] c.get.ensures)
    (subst (λ j. lead_divides c.args.ring.now (get_or c.args.basis.now j []) (lead_x c.args.ring.now c.args.f.now) ≡ true) e d)

pub returns-in-Some-clause-ends : goal.returns-in-Some-clause-ends
returns-in-Some-clause-ends c =
    subst (λ k. EndsAs k c.cancelling.new.fuel c.cancelling.result)
    (sym (step_cancelling c.args.ring.now c.args.basis.now c.args.fuel.now c.in-Some.i c.args.f.now c.args.r.now c.get.result.now c.in-Some.ensures.first.0
    c.in-Some.ensures.first.1 (get_read c.args.basis.now c.in-Some.i c.get.result.now [] c.get.ensures))) c.cancelling.ensures.ends
