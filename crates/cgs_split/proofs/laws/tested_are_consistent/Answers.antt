use Rattle.cgs_split.proofs.TestedLemmas.{tested_are_consistent}
use Rattle.cgs_split.proofs.laws.tested_are_consistent.Goals as goal

pub returns : goal.returns
returns c = tested_are_consistent
