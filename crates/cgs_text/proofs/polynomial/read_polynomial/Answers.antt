use Rattle.cgs_text.specs.Scopes.{reader_in, IsMonomialFor}
use Rattle.cgs_text.proofs.TermLemmas.{have_terms}
use Rattle.cgs_text.proofs.MonomialLemmas.{in_canonical}
use Rattle.cgs_text.proofs.polynomial.read_polynomial.Goals as goal

pub returns-clause-monomials : goal.returns-clause-monomials
returns-clause-monomials c =
    let reader = reader_in c.args.scope.now in
    let terms = c.in_ok-terms.terms in
    rw c.in_ok-sum.ensures.sum
    (in_canonical (IsMonomialFor reader) reader.ring terms (have_terms reader terms c.in_ok-terms.ensures.terms))
