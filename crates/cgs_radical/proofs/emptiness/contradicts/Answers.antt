use Rattle.std.proofs.Common.{Err, ◌≡◌, ◌++◌, [], ◌∷◌, length, replicate, sym, ap, ◌∙◌, subst}
use Rattle.cgs_poly.specs.Polynomial.{IsPoly, ArePolys}
use Rattle.cgs_poly.specs.Product.{multiple}
use Rattle.cgs_poly.specs.declared.fault.PolyFault.TheVariants as fault
use Rattle.cgs_list.proofs.ListLemmas.{all_push}
use Rattle.cgs_divide.specs.Stop.{stop_of}
use Rattle.cgs_divide.specs.Ending.{ended, followed, EndsAs}
use Rattle.cgs_divide.proofs.EndingLemmas.{stops, passed_on, by_stop}
use Rattle.cgs_divide.proofs.StepLemmas.{no_budget, fault_of_degree, high_unless_low, low_not_high}
use Rattle.cgs_basis.specs.BasisRun.{basis_run}
use Rattle.cgs_radical.specs.EmptinessRun.{is_one_alone, contradiction_run}
use Rattle.cgs_radical.proofs.TestLemmas.{contradiction_high, contradiction_found, alone_is_one}
use Rattle.cgs_radical.proofs.emptiness.contradicts.Goals as goal
use Rattle.cgs_radical.proofs.emptiness.contradicts.Goals.{In_ok-push}

pub returns-in_err-last-clause-ends : goal.returns-in_err-last-clause-ends
returns-in_err-last-clause-ends c =
    passed_on _ _ (stop_of c.in_err-last.field-0.0) c.from_residual.result c.from_residual.ensures.1
    (by_stop _ _ (stop_of c.in_err-last.field-0.0)
    (λ e. absurd (no_budget c.in_err-last.field-0.0 e))
    (λ e.
    let k : c.in_err-last.field-0.0 ≡ fault.Degree = fault_of_degree c.in_err-last.field-0.0 e in
    let high = high_unless_low (multiple 1 (1 ∷ replicate c.args.ring.now.parameters 0) c.args.q.now) (c.in_err-last.ensures.degree (ap Err k)) in
    contradiction_high c.args.ring.now c.args.basis.now c.args.fuel.now c.args.q.now (λ z. c.if-len-eq0.false (c.len.ensures ∙ ap length z)) high))

pub reduced_basis-requires-clause-polys : goal.reduced_basis-requires-clause-polys
reduced_basis-requires-clause-polys c =
    subst (ArePolys c.args.ring.now) (sym (c.in_ok-push.ensures.ok ∙ ap (λ B. B ++ c.in_ok-last.last ∷ []) c.in_ok-generators.ensures))
    (all_push (IsPoly c.args.ring.now) c.args.basis.now c.in_ok-last.last c.requires.basis c.in_ok-last.ensures.poly)

-- the run is that of the basis
by_basis : (c : In_ok-push) → contradiction_run basis_run c.args.ring.now c.args.basis.now c.args.q.now c.args.fuel.now
    ≡ followed (basis_run c.args.ring.now c.push.new.self c.args.fuel.now) (λ G. ended (is_one_alone c.args.ring.now G))
by_basis c =
    let low = low_not_high (multiple 1 (1 ∷ replicate c.args.ring.now.parameters 0) c.args.q.now) c.in_ok-last.ensures.low in
    let g = c.in_ok-push.ensures.ok ∙ (ap (λ B. B ++ c.in_ok-last.last ∷ []) c.in_ok-generators.ensures
    ∙ ap (λ f. c.args.basis.now ++ f ∷ []) c.in_ok-last.ensures.ok) in
    contradiction_found c.args.ring.now c.args.basis.now c.args.fuel.now c.args.q.now (λ z. c.if-len-eq0.false (c.len.ensures ∙ ap length z)) low
    ∙ ap (λ L. followed (basis_run c.args.ring.now L c.args.fuel.now) (λ G. ended (is_one_alone c.args.ring.now G))) (sym g)

pub returns-in_err-found-clause-ends : goal.returns-in_err-found-clause-ends
returns-in_err-found-clause-ends c =
    passed_on _ _ c.in_err-found.field-0.0 c.from_residual-in_err-found.result c.from_residual-in_err-found.ensures.1
    (subst (λ k. EndsAs k c.reduced_basis.new.fuel (Err c.in_err-found.field-0.0)) (sym (by_basis (goal.at.returns-in_err-found-clause-ends c).In_ok-push))
    (stops _ (λ G. ended (is_one_alone c.args.ring.now G)) c.reduced_basis.new.fuel c.in_err-found.field-0.0 c.in_err-found.ensures.ends))

pub returns-clause-ends : goal.returns-clause-ends
returns-clause-ends c =
    by_basis (goal.at.returns-clause-ends c).In_ok-push
    ∙ (ap (λ r. followed r (λ G. ended (is_one_alone c.args.ring.now G))) c.in_ok-found.ensures.ends
    ∙ ap (λ b. ended b c.reduced_basis.new.fuel)
    (alone_is_one c.args.ring.now c.in_ok-found.found c.in_ok-whole.whole c.are_same.result c.in_ok-whole.ensures.ok c.are_same.ensures))
