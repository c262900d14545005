use Rattle.std.proofs.Common.{sym, ap, ◌∙◌, subst}
use Rattle.std.specs.List.{AllByRecursion}
use Rattle.cgs_poly.specs.Parameters.{IsCondition}
use Rattle.cgs_entry.specs.Conditions.{with_member}
use Rattle.cgs_dickson.specs.Dickson.{is_constant}
use Rattle.cgs_dickson.proofs.CoefficientListLemmas.{coefficient_added, coefficient_skipped}
use Rattle.cgs_dickson.proofs.coefficients.coefficient_list.Goals as goal
use Rattle.cgs_dickson.proofs.coefficients.coefficient_list.Goals.{then-not-is_constant+in_ok-add, else-not-is_constant}

pub loop-i-preserved : goal.loop-i-preserved
loop-i-preserved c =
    elim c.if-not-is_constant.branch [
      | then-not-is_constant+in_ok-add w ↦
          let varies = ap is_constant (sym c.in_ok-coefficient.ensures.part) ∙ (sym c.is_constant.ensures ∙ w.if-not-is_constant.true) in
          let next = coefficient_added c.args.ring.now c.args.members.now c.loop-i.i c.get.result.now c.get.ensures varies in
          let condition : IsCondition c.args.ring.now c.in_ok-coefficient.coefficient =
          record { poly = c.in_ok-coefficient.ensures.poly; free = c.in_ok-coefficient.ensures.free } in
          record {
            list = w.list-is ∙ (w.in_ok-add.ensures.ok ∙ (ap (λ L. with_member c.args.ring.now L c.in_ok-coefficient.coefficient) c.loop-i.invariant.list
                ∙ (ap (with_member c.args.ring.now _) c.in_ok-coefficient.ensures.part ∙ next)));
            conditions = subst (λ L. AllByRecursion (IsCondition c.args.ring.now) L) (sym w.list-is)
                (w.in_ok-add.ensures.conditions c.loop-i.invariant.conditions condition);
          }
      | else-not-is_constant w ↦
          let constant = ap is_constant (sym c.in_ok-coefficient.ensures.part) ∙ (sym c.is_constant.ensures ∙ w.if-not-is_constant.false) in
          record {
            list = w.list-is
                ∙ (c.loop-i.invariant.list ∙ coefficient_skipped c.args.ring.now c.args.members.now c.loop-i.i c.get.result.now c.get.ensures constant);
            conditions = subst (λ L. AllByRecursion (IsCondition c.args.ring.now) L) (sym w.list-is) c.loop-i.invariant.conditions;
          }
    ]
