use Rattle.std.proofs.Common.{sym, ◌∙◌}
use Rattle.std.specs.List.{list_any}
use Rattle.std.proofs.lemmas.List.{at_drop_all}
use Rattle.cgs_report.specs.Walk.{lead_is_power}
use Rattle.cgs_report.proofs.LeadLemmas.{power_by_polys, any_here, any_later}
use Rattle.cgs_report.proofs.leads.has_power.Goals as goal

pub returns-then-lead_is_power : goal.returns-then-lead_is_power
returns-then-lead_is_power c = sym (any_here
    (lead_is_power c.args.ring.now c.args.place) c.args.basis.now c.loop-f.f-index c.f-item.result c.loop-f-test.true c.f-item.is
    (sym c.lead_is_power.ensures ∙ c.if-lead_is_power.true)) ∙ (c.loop-f.invariant ∙ power_by_polys c.args.ring.now c.args.place c.args.basis.now)

pub loop-f-preserved : goal.loop-f-preserved
loop-f-preserved c = any_later (lead_is_power c.args.ring.now c.args.place) c.args.basis.now c.loop-f.f-index c.f-item.result c.loop-f-test.true c.f-item.is
    (sym c.lead_is_power.ensures ∙ c.if-lead_is_power.false) ∙ c.loop-f.invariant

pub returns : goal.returns
returns c = sym (at_drop_all (list_any (lead_is_power c.args.ring.now c.args.place)) c.args.basis.now c.loop-f.f-index c.loop-f-test.false)
    ∙ (c.loop-f.invariant ∙ power_by_polys c.args.ring.now c.args.place c.args.basis.now)
