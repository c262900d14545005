use Rattle.std.proofs.Common.{ℕ, List, Err, ◌≡◌, ◌-◌, ◌*◌, ◌≤◌, max, length, sym, ap, ◌∙◌, subst}
use Rattle.cgs_poly.specs.Polynomial.{Term}
use Rattle.cgs_poly.specs.Product.{all_products}
use Rattle.cgs_poly.specs.declared.fault.PolyFault.TheVariants as fault
use Rattle.cgs_divide.specs.Stop.{stop_of}
use Rattle.cgs_divide.specs.Ending.{EndsAs}
use Rattle.cgs_divide.specs.DivisionRun.{divided, remainder_of}
use Rattle.cgs_divide.proofs.EndingLemmas.{passed_on, by_stop}
use Rattle.cgs_divide.proofs.StepLemmas.{no_budget, fault_of_degree, high_unless_low, low_not_high}
use Rattle.cgs_radical.specs.EmptinessRun.{product_cost, product_remainder}
use Rattle.cgs_radical.proofs.RemainderLemmas.{too_high_product, divided_product}
use Rattle.cgs_radical.proofs.product.product_remainder.Goals as goal
use Rattle.cgs_radical.proofs.product.product_remainder.Goals.{In_ok-product}

-- what was paid is the cost
paid_cost : (a b : ℕ) (q n : List Term) (units left : ℕ) → a ≡ length q → b ≡ length n → (max 1 (a * b) ≤ units)
    × (left ≡ units - max 1 (a * b)) → (product_cost q n ≤ units) × (left ≡ units - product_cost q n)
paid_cost a b q n units left p r h =
    let e : max 1 (a * b) ≡ product_cost q n = cc (p, r) in
    (subst (λ k. k ≤ units) e h.0, h.1 ∙ ap (λ k. units - k) e)

pub returns-in_err-product-clause-ends : goal.returns-in_err-product-clause-ends
returns-in_err-product-clause-ends c =
    let paid = paid_cost c.len.result c.len-2.result c.args.q.now c.args.n.now c.args.fuel.now
    c.spend_product.new.fuel c.len.ensures c.len-2.ensures c.in_ok-spend_product.ensures.ok in
    passed_on _ _ (stop_of c.in_err-product.field-0.0) c.from_residual-in_err-product.result c.from_residual-in_err-product.ensures.1
    (by_stop _ _ (stop_of c.in_err-product.field-0.0)
    (λ e. absurd (no_budget c.in_err-product.field-0.0 e))
    (λ e.
    let k : c.in_err-product.field-0.0 ≡ fault.Degree = fault_of_degree c.in_err-product.field-0.0 e in
    let high = high_unless_low (all_products c.args.q.now c.args.n.now) (c.in_err-product.ensures.degree.0 (ap Err k)) in
    too_high_product c.args.ring.now c.args.basis.now c.args.q.now c.args.n.now c.args.fuel.now c.spend_product.new.fuel paid.0 paid.1 high))

-- the run is the division of the product
divides : (c : In_ok-product) → product_remainder c.args.ring.now c.args.basis.now c.args.q.now c.args.n.now c.args.fuel.now
    ≡ remainder_of (divided c.args.ring.now c.args.basis.now c.spend_product.new.fuel c.in_ok-product.product)
divides c =
    let paid = paid_cost c.len.result c.len-2.result c.args.q.now c.args.n.now c.args.fuel.now
    c.spend_product.new.fuel c.len.ensures c.len-2.ensures c.in_ok-spend_product.ensures.ok in
    let low = low_not_high (all_products c.args.q.now c.args.n.now) c.in_ok-product.ensures.low in
    divided_product c.args.ring.now c.args.basis.now c.args.q.now c.args.n.now c.args.fuel.now c.spend_product.new.fuel
    c.in_ok-product.product paid.0 paid.1 low c.in_ok-product.ensures.product

pub returns-in_err-rest-clause-ends : goal.returns-in_err-rest-clause-ends
returns-in_err-rest-clause-ends c =
    passed_on _ _ c.in_err-rest.field-0.0 c.from_residual-in_err-rest.result c.from_residual-in_err-rest.ensures.1
    (subst (λ k. EndsAs k c.remainder.new.fuel (Err c.in_err-rest.field-0.0))
    (sym (divides (goal.at.returns-in_err-rest-clause-ends c).In_ok-product)) c.in_err-rest.ensures.ends)

pub returns-clause-ends : goal.returns-clause-ends
returns-clause-ends c = divides (goal.at.returns-clause-ends c).In_ok-product ∙ c.in_ok-rest.ensures.ends
