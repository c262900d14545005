use Rattle.cgs_report.proofs.PointLemmas.{standard_at_point}
use Rattle.cgs_report.proofs.laws.standard_at_point.Goals as goal

pub returns : goal.returns
returns c ring point polys basis m r can serves = standard_at_point ring point polys basis r can serves m
