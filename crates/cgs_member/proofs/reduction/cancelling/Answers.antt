use Rattle.std.proofs.Common.{Err, ◌≡◌, ◌≤◌, ◌-◌, length, sym, ap, ◌∙◌, subst, arith}
use Rattle.cgs_poly.specs.Polynomial.{HasLowDegrees, canonical}
use Rattle.cgs_poly.specs.Product.{all_products}
use Rattle.cgs_poly.specs.Parameters.{lead_x}
use Rattle.cgs_divide.specs.Stop.{stop_of}
use Rattle.cgs_divide.proofs.EndingLemmas.{passed_on}
use Rattle.cgs_divide.specs.Ending.{EndsAs}
use Rattle.cgs_member.specs.ReductionRun.{cancelling_cost}
use Rattle.cgs_member.specs.ReductionRun as run
use Rattle.cgs_member.proofs.RunLemmas.{cost_positive}
use Rattle.cgs_member.proofs.StepLemmas.{by_fault, cancelling_paid, cancelling_unpaid, cancelling_high_first, cancelling_high_last, cancelling_done}
use Rattle.cgs_member.proofs.reduction.cancelling.Goals as goal
use Rattle.cgs_member.proofs.reduction.cancelling.Goals.{In_ok-spend_products}

paid : (c : In_ok-spend_products) → (cancelling_cost c.args.ring.now c.args.f.now c.args.b.now c.args.r.now ≤ c.args.fuel.now)
    × (c.spend_products.new.fuel ≡ c.args.fuel.now - cancelling_cost c.args.ring.now c.args.f.now c.args.b.now c.args.r.now)
paid c =
    cancelling_paid c.args.ring.now c.args.f.now c.args.b.now c.args.r.now c.len.result c.len-2.result c.len-3.result c.len-4.result c.len-5.result
    c.args.fuel.now c.spend_products.new.fuel (c.len.ensures ∙ ap length c.in_ok-d.ensures.part) c.len-2.ensures
    (c.len-3.ensures ∙ ap length c.in_ok-c.ensures.part) c.len-4.ensures c.len-5.ensures c.in_ok-spend_products.ensures.ok

pub returns-clause-paid : goal.returns-clause-paid
returns-clause-paid c =
    let p = paid (goal.at.returns-clause-paid c).In_ok-spend_products in
    omega (
      arith,
      p.0,
      p.1,
      cost_positive c.args.ring.now c.args.f.now c.args.b.now c.args.r.now (lead_x c.args.ring.now c.args.f.now)
          c.requires.some c.requires.divides,
    )

pub returns-in_err-rest-clause-ends : goal.returns-in_err-rest-clause-ends
returns-in_err-rest-clause-ends c =
    let p = paid (goal.at.returns-in_err-rest-clause-ends c).In_ok-spend_products in
    passed_on _ _ (stop_of c.in_err-rest.field-0.0) c.from_residual-in_err-rest.result c.from_residual-in_err-rest.ensures.1
    (by_fault _ _ c.in_err-rest.field-0.0
    (λ e. cancelling_high_first c.args.ring.now c.args.f.now c.args.b.now c.args.r.now c.args.fuel.now c.spend_products.new.fuel p.0 p.1
    (c.in_err-rest.ensures.degree (ap Err e))))

pub returns-in_err-remainder-clause-ends : goal.returns-in_err-remainder-clause-ends
returns-in_err-remainder-clause-ends c =
    let p = paid (goal.at.returns-in_err-remainder-clause-ends c).In_ok-spend_products in
    passed_on _ _ (stop_of c.in_err-remainder.field-0.0) c.from_residual-in_err-remainder.result c.from_residual-in_err-remainder.ensures.1
    (by_fault _ _ c.in_err-remainder.field-0.0
    (λ e. cancelling_high_last c.args.ring.now c.args.f.now c.args.b.now c.args.r.now c.args.fuel.now c.spend_products.new.fuel p.0 p.1
    c.in_ok-rest.ensures.low_first c.in_ok-rest.ensures.low_second
    (λ h. c.in_err-remainder.ensures.degree.0 (ap Err e)
    (subst (λ q. HasLowDegrees (all_products q c.args.r.now)) (sym c.in_ok-d.ensures.part) h))))

pub returns-clause-ends : goal.returns-clause-ends
returns-clause-ends c =
    let p = paid (goal.at.returns-clause-ends c).In_ok-spend_products in
    let low = subst (λ q. HasLowDegrees (all_products q c.args.r.now)) c.in_ok-d.ensures.part c.in_ok-remainder.ensures.low in
    cancelling_done c.args.ring.now c.args.f.now c.args.b.now c.args.r.now c.args.fuel.now c.spend_products.new.fuel p.0 p.1
    c.in_ok-rest.ensures.low_first c.in_ok-rest.ensures.low_second low c.in_ok-rest.rest c.in_ok-remainder.remainder c.in_ok-rest.ensures.ok
    (c.in_ok-remainder.ensures.product ∙ ap (λ q. canonical c.args.ring.now (all_products q c.args.r.now)) c.in_ok-d.ensures.part)

pub returns-in_err-spend_products-clause-ends : goal.returns-in_err-spend_products-clause-ends
returns-in_err-spend_products-clause-ends c =
    let stop = c.in_err-spend_products.ensures.err in
    passed_on _ _ c.in_err-spend_products.field-0.0 c.from_residual-in_err-spend_products.result c.from_residual-in_err-spend_products.ensures.1
    (subst (λ s. EndsAs (run.cancelling c.args.ring.now c.args.b.now c.args.fuel.now c.args.f.now c.args.r.now) c.spend_products.new.fuel (Err s)) (sym stop)
    (cancelling_unpaid c.args.ring.now c.args.f.now c.args.b.now c.args.r.now c.len.result c.len-2.result c.len-3.result c.len-4.result c.len-5.result
    c.args.fuel.now c.spend_products.new.fuel (c.len.ensures ∙ ap length c.in_ok-d.ensures.part) c.len-2.ensures
    (c.len-3.ensures ∙ ap length c.in_ok-c.ensures.part) c.len-4.ensures c.len-5.ensures c.in_err-spend_products.ensures.budget))
