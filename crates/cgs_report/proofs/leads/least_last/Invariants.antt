use Rattle.std.proofs.Common.{◌≡◌, ◌≤◌, drop, min}
use Rattle.cgs_report.specs.Standard.{leads_x}
use Rattle.cgs_report.specs.Walk.{least_last}
use Rattle.cgs_report.proofs.leads.least_last.Given as goal

abbrev pub invariant-loop-f : goal.invariant-loop-f
invariant-loop-f l = record {
  low : l.least ≤ 32768;
  least : min l.least (least_last l.m (leads_x l.ring (drop l.f-index l.basis))) ≡ least_last l.m (leads_x l.ring l.basis);
}
