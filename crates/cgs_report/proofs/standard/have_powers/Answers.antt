use Rattle.std.proofs.Common.{sym, ◌∙◌}
use Rattle.cgs_report.specs.Standard.{leads_x}
use Rattle.cgs_report.proofs.WalkLemmas.{powers_more}
use Rattle.cgs_report.proofs.standard.have_powers.Goals as goal

pub loop-place-preserved : goal.loop-place-preserved
loop-place-preserved c =
    powers_more (leads_x c.args.ring.now c.args.basis.now) c.loop-place.place c.args.ring.now.variables c.loop-place-test.true
    (sym c.has_power.ensures ∙ c.if-not-has_power.false) ∙ c.loop-place.invariant
