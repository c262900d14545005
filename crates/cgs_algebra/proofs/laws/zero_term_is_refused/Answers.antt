use Rattle.cgs_algebra.proofs.ExampleLemmas.{zero_term_refused}
use Rattle.cgs_algebra.proofs.laws.zero_term_is_refused.Goals as goal

pub returns : goal.returns
returns c = zero_term_refused
