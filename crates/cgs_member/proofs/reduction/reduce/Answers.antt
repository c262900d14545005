use Rattle.std.proofs.Common.{Err, ◌≡◌, [], sym, ap, ◌∙◌, subst, arith}
use Rattle.std.proofs.lemmas.List.{nil_from_length}
use Rattle.cgs_divide.specs.Ending.{followed, EndsAs}
use Rattle.cgs_divide.proofs.EndingLemmas.{stops, passed_on}
use Rattle.cgs_member.specs.ReductionRun.{reduction}
use Rattle.cgs_member.proofs.RunLemmas.{reduction_nothing, reduction_step}
use Rattle.cgs_member.proofs.reduction.reduce.Goals as goal

pub returns-in_err-parts-clause-ends : goal.returns-in_err-parts-clause-ends
returns-in_err-parts-clause-ends c =
    passed_on _ _ c.in_err-parts.field-0.0 c.from_residual-in_err-parts.result c.from_residual-in_err-parts.ensures.1
    (subst (λ k. EndsAs k c.step.new.fuel (Err c.in_err-parts.field-0.0))
    (sym (reduction_step c.args.ring.now c.args.basis.now c.loop-alloc.fuel c.loop-alloc.rest c.loop-alloc.remainder
    (omega (arith, c.len.ensures, c.loop-alloc-test.true))) ∙ c.loop-alloc.invariant.run)
    (stops _ (λ p left. reduction c.args.ring.now c.args.basis.now left p.rest p.remainder) c.step.new.fuel
    c.in_err-parts.field-0.0 c.in_err-parts.ensures.ends))

pub loop-alloc-preserved : goal.loop-alloc-preserved
loop-alloc-preserved c = record {
  run = sym (reduction_step c.args.ring.now c.args.basis.now c.loop-alloc.fuel c.loop-alloc.rest c.loop-alloc.remainder
      (omega (arith, c.len.ensures, c.loop-alloc-test.true))
      ∙ ap (λ k. followed k (λ p left. reduction c.args.ring.now c.args.basis.now left p.rest p.remainder)) c.in_ok-parts.ensures.ends)
      ∙ c.loop-alloc.invariant.run;
  rest = c.in_ok-parts.ensures.rest;
  remainder = c.in_ok-parts.ensures.remainder;
  units = omega (arith, c.step.ensures.units, c.loop-alloc.invariant.units);
}

pub returns-clause-ends : goal.returns-clause-ends
returns-clause-ends c =
    let z : c.loop-alloc.rest ≡ [] = nil_from_length c.loop-alloc.rest (omega (arith, c.len.ensures, c.loop-alloc-test.false)) in
    sym c.loop-alloc.invariant.run
    ∙ (ap (λ q. reduction c.args.ring.now c.args.basis.now c.loop-alloc.fuel q c.loop-alloc.remainder) z
    ∙ reduction_nothing c.args.ring.now c.args.basis.now c.loop-alloc.fuel c.loop-alloc.remainder)
