use Rattle.std.proofs.Common.{sym}
use Rattle.cgs_poly.specs.Polynomial.{term}
use Rattle.cgs_poly.proofs.ParameterLemmas.{lead_first}
use Rattle.cgs_pairs.proofs.passing.lead_of.Goals as goal

pub returns : goal.returns
returns c = sym (lead_first c.args.f.now (term c.term.result.coefficient c.term.result.exponents.now) c.term.ensures)
