use Rattle.cgs_text.specs.Scopes.{reader_in}
use Rattle.cgs_text.proofs.TermLemmas.{nothing_said}
use Rattle.cgs_text.proofs.polynomial.read_terms.Goals as goal

pub returns-in_default-clause-said : goal.returns-in_default-clause-said
returns-in_default-clause-said c = nothing_said (reader_in c.args.scope.now) c.args.line c.in_default.ensures
