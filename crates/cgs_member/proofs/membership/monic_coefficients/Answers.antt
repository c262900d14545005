use Rattle.std.proofs.Common.{◌≡◌, ◌<◌, ◌-◌, [], length, drop, sym, ap, ◌∙◌, arith}
use Rattle.std.proofs.lemmas.List.{length-drop, length-take, drop_all}
use Rattle.cgs_poly.specs.Parameters.{lead_x, lc_x}
use Rattle.cgs_entry.specs.Conditions.{with_member, with_members}
use Rattle.cgs_member.specs.ReductionRun.{others_at}
use Rattle.cgs_member.specs.Cases.{coefficients}
use Rattle.cgs_member.proofs.PartLemmas.{coefficients_step, part_lc_x}
use Rattle.cgs_member.proofs.membership.monic_coefficients.Goals as goal
use Rattle.cgs_member.proofs.membership.monic_coefficients.Goals.{In_ok-part}

-- the terms that are left
left : (c : In_ok-part) → 0 < length (drop c.loop-from.from c.args.r.now)
left c = omega (arith, length-drop c.loop-from.from c.args.r.now, c.loop-from-test.true, c.len.ensures)

pub lc_x-requires-clause-nonzero : goal.lc_x-requires-clause-nonzero
lc_x-requires-clause-nonzero c = λ none.
    let i = (goal.at.lc_x-requires-clause-nonzero c).In_ok-part in
    let n : length c.in_ok-part.part ≡ 0 = ap length none in
    let e = ap length c.in_ok-part.ensures.terms in
    let t = length-take (c.part_end-end.result - c.loop-from.from) (drop c.loop-from.from c.args.r.now) in
    absurd (omega (arith, n, e, t, left i, c.part_end-end.ensures.rising))

pub loop-from-preserved : goal.loop-from-preserved
loop-from-preserved c =
    let ring = c.args.ring.now in
    let g = drop c.loop-from.from c.args.r.now in
    let some = left (goal.at.loop-from-preserved c).In_ok-part in
    let part = c.in_ok-part.ensures.terms ∙ sym c.part_end-end.ensures.part in
    let own = c.in_ok-c.ensures.part ∙ (ap (lc_x ring) part ∙ part_lc_x ring g some) in
    let list = c.in_ok-add.ensures.ok ∙ ap (with_member ring c.loop-from.list) own in
    record {
      cases = ap (λ k. with_members ring c.add.new.self (coefficients ring k)) (sym c.part_end-end.ensures.others)
          ∙ (ap (λ L. with_members ring L (coefficients ring (others_at ring (lead_x ring g) g))) list
          ∙ (ap (with_members ring c.loop-from.list) (sym (coefficients_step ring g some)) ∙ c.loop-from.invariant.cases));
      within = c.part_end-end.ensures.within;
      conditions = c.in_ok-add.ensures.conditions c.loop-from.invariant.conditions (record { poly = c.in_ok-c.ensures.poly; free = c.in_ok-c.ensures.free });
    }

pub returns-clause-ok : goal.returns-clause-ok
returns-clause-ok c =
    let ring = c.args.ring.now in
    let none : drop c.loop-from.from c.args.r.now ≡ [] = drop_all c.loop-from.from c.args.r.now (omega (arith, c.loop-from-test.false, c.len.ensures)) in
    c.into_members.ensures ∙ (ap (λ g. with_members ring c.loop-from.list (coefficients ring g)) (sym none) ∙ c.loop-from.invariant.cases)
