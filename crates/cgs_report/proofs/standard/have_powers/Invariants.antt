use Rattle.std.proofs.Common.{◌≡◌, ◌-◌}
use Rattle.cgs_report.specs.Standard.{leads_x}
use Rattle.cgs_report.specs.Box.{have_powers}
use Rattle.cgs_report.proofs.standard.have_powers.Given as goal

abbrev pub invariant-loop-place : goal.invariant-loop-place
invariant-loop-place l = have_powers (leads_x l.ring l.basis) l.place (l.ring.variables - l.place) ≡ have_powers (leads_x l.ring l.basis) 0 l.ring.variables
