use Rattle.cgs_algebra.proofs.ExampleLemmas.{reduced_example}
use Rattle.cgs_algebra.proofs.laws.reduced_example.Goals as goal

pub returns : goal.returns
returns c = reduced_example
