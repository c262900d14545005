use Rattle.cgs_canonical.proofs.ValidLemmas.{spelled_problem}
use Rattle.cgs_canonical.proofs.laws.spelled_problems_are_valid.Goals as goal

pub returns : goal.returns
returns c = spelled_problem
