use Rattle.std.proofs.Common.{Err, sym, subst}
use Rattle.cgs_divide.specs.Ending.{EndsAs}
use Rattle.cgs_divide.proofs.EndingLemmas.{stops, passed_on}
use Rattle.cgs_basis.specs.BasisRun.{basis_run}
use Rattle.cgs_radical.specs.EmptinessRun.{contradiction_run}
use Rattle.cgs_radical.proofs.TestLemmas.{product_part}
use Rattle.cgs_radical.proofs.emptiness.test_empty_by.Goals as goal

pub returns-in_err-q-clause-ends : goal.returns-in_err-q-clause-ends
returns-in_err-q-clause-ends c = λ E units kept.
    let part = product_part c.args.ring.now c.with_y-above.result c.args.nonzero.now c.in_ok-factors.factors c.in_ok-start.start
    c.with_y-above.ensures.ring c.in_ok-factors.ensures.ok c.in_ok-start.ensures.one E c.args.basis.now units c.args.fuel.now kept in
    passed_on _ _ c.in_err-q.field-0.0 c.from_residual-in_err-q.result c.from_residual-in_err-q.ensures.1
    (subst (λ k. EndsAs k c.products_remainder.new.fuel (Err c.in_err-q.field-0.0)) (sym part)
    (stops _ (contradiction_run basis_run c.with_y-above.result c.args.basis.now)
    c.products_remainder.new.fuel c.in_err-q.field-0.0 c.in_err-q.ensures.ends))
