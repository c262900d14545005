use Rattle.std.proofs.Common.{sym, ◌∙◌}
use Rattle.std.specs.List.{list_any}
use Rattle.std.proofs.lemmas.List.{at_drop_all}
use Rattle.cgs_report.specs.Walk.{lead_divides}
use Rattle.cgs_report.proofs.LeadLemmas.{divisor_by_polys, any_here, any_later}
use Rattle.cgs_report.proofs.leads.has_divisor.Goals as goal

pub returns-then-lead_divides : goal.returns-then-lead_divides
returns-then-lead_divides c = sym (any_here
    (lead_divides c.args.ring.now c.args.m.now) c.args.basis.now c.loop-f.f-index c.f-item.result c.loop-f-test.true c.f-item.is
    (sym c.lead_divides.ensures ∙ c.if-lead_divides.true)) ∙ (c.loop-f.invariant ∙ divisor_by_polys c.args.ring.now c.args.m.now c.args.basis.now)

pub loop-f-preserved : goal.loop-f-preserved
loop-f-preserved c = any_later (lead_divides c.args.ring.now c.args.m.now) c.args.basis.now c.loop-f.f-index c.f-item.result c.loop-f-test.true c.f-item.is
    (sym c.lead_divides.ensures ∙ c.if-lead_divides.false) ∙ c.loop-f.invariant

pub returns : goal.returns
returns c = sym (at_drop_all (list_any (lead_divides c.args.ring.now c.args.m.now)) c.args.basis.now c.loop-f.f-index c.loop-f-test.false)
    ∙ (c.loop-f.invariant ∙ divisor_by_polys c.args.ring.now c.args.m.now c.args.basis.now)
