use Rattle.cgs_report.proofs.PointLemmas as point
use Rattle.cgs_report.proofs.laws.report_at_point.Goals as goal

pub returns : goal.returns
returns c = point.report_at_point
