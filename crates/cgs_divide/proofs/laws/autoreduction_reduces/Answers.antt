use Rattle.cgs_divide.proofs.AutoreductionLemmas.{autoreduced}
use Rattle.cgs_divide.proofs.laws.autoreduction_reduces.Goals as goal

pub returns : goal.returns
returns c = autoreduced
