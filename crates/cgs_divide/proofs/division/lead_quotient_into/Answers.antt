use Rattle.std.proofs.Common.{ap, ◌∙◌, sym}
use Rattle.cgs_exps.specs.Monomial.{quotient}
use Rattle.cgs_poly.specs.Polynomial.{term}
use Rattle.cgs_poly.proofs.ParameterLemmas.{lead_first}
use Rattle.cgs_divide.proofs.division.lead_quotient_into.Goals as goal

pub returns : goal.returns
returns c =
    c.quotient_into.ensures ∙ ap (λ m. quotient c.args.m.now m)
    (sym (lead_first c.args.divisor.now (term c.term.result.coefficient c.term.result.exponents.now) c.term.ensures))
