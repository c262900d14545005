use Rattle.std.proofs.Common.{◌≡◌, ◌+◌, ◌-◌, ◌≤◌, take}
use Rattle.cgs_report.specs.declared.standard.TheConstants.{MOST_COUNTED}
use Rattle.cgs_report.specs.Standard.{leads_x}
use Rattle.cgs_report.specs.Box.{starting, box}
use Rattle.cgs_report.specs.Walk.{standard_after}
use Rattle.cgs_report.proofs.standard.+count_from.Given as goal

abbrev pub decreases-count_from : goal.decreases-count_from
decreases-count_from l = l.ring.now.variables - l.place

abbrev pub invariant-loop-e : goal.invariant-loop-e
invariant-loop-e l = record {
  few : l.count ≤ MOST_COUNTED;
  counted : l.count ≡ l.fn.counted + standard_after (leads_x l.ring l.basis) (take l.place l.m)
      (starting l.e (box (leads_x l.ring l.basis) (l.place + 1) (l.ring.variables - (l.place + 1))));
}
