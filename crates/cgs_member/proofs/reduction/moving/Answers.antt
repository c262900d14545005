use Rattle.std.proofs.Common.{Err, ◌≡◌, ◌-◌, ◌++◌, length, take, drop, sym, ap, ◌∙◌, subst, arith}
use Rattle.std.proofs.lemmas.List.{length-take, take_rest}
use Rattle.cgs_poly.specs.Polynomial.{canonical}
use Rattle.cgs_poly.specs.Parameters.{lc_x}
use Rattle.cgs_divide.specs.Ending.{EndsAs}
use Rattle.cgs_divide.proofs.EndingLemmas.{passed_on}
use Rattle.cgs_member.specs.ReductionRun as run
use Rattle.cgs_member.proofs.PartLemmas.{lc_x_terms}
use Rattle.cgs_member.proofs.StepLemmas.{moving_unpaid, moving_done}
use Rattle.cgs_member.proofs.reduction.moving.Goals as goal
use Rattle.cgs_member.proofs.reduction.moving.Goals.{After-part_end-end}

cost : (c : After-part_end-end) → c.part_end-end.result ≡ length (lc_x c.args.ring.now c.args.f.now)
cost c = sym (lc_x_terms c.args.ring.now c.args.f.now ∙ (ap length c.part_end-end.ensures.part
    ∙ omega (arith, length-take (c.part_end-end.result - 0) c.args.f.now, c.part_end-end.ensures.within)))

pub returns-in_err-spend-clause-ends : goal.returns-in_err-spend-clause-ends
returns-in_err-spend-clause-ends c =
    passed_on _ _ c.in_err-spend.field-0.0 c.from_residual.result c.from_residual.ensures.1
    (subst (λ s. EndsAs (run.moving c.args.ring.now c.args.fuel.now c.args.f.now c.args.r.now) c.spend.new.fuel (Err s)) (sym c.in_err-spend.ensures.err)
    (moving_unpaid c.args.ring.now c.args.f.now c.args.r.now c.part_end-end.result c.args.fuel.now c.spend.new.fuel
    (cost (goal.at.returns-in_err-spend-clause-ends c).After-part_end-end) c.in_err-spend.ensures.budget))

pub returns-clause-ends : goal.returns-clause-ends
returns-clause-ends c =
    moving_done c.args.ring.now c.args.f.now c.args.r.now c.in_ok-rest.rest c.in_ok-remainder.remainder c.part_end-end.result c.args.fuel.now c.spend.new.fuel
    (cost (goal.at.returns-clause-ends c).After-part_end-end) c.in_ok-spend.ensures.ok
    (c.in_ok-rest.ensures.terms ∙ (ap (λ n. take (n - c.part_end-end.result) (drop c.part_end-end.result c.args.f.now)) c.len.ensures
    ∙ (take_rest c.args.f.now c.part_end-end.result ∙ sym c.part_end-end.ensures.others)))
    (c.in_ok-remainder.ensures.sum ∙ ap (λ g. canonical c.args.ring.now (c.args.r.now ++ g)) (c.in_ok-part.ensures.terms ∙ sym c.part_end-end.ensures.part))
