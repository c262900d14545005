use Rattle.cgs_problem.proofs.TermLemmas.{poly_terms, poly_falls, poly_of}
use Rattle.cgs_problem.proofs.polynomial.is_poly.Goals as goal

pub returns-then-has_terms_of : goal.returns-then-has_terms_of
returns-then-has_terms_of c = (
  (λ holds. poly_of c.args.ring.now c.args.f.now (c.has_terms_of.ensures.0 c.if-has_terms_of.true) (c.falls.ensures.0 holds)),
  (λ poly. c.falls.ensures.1 (poly_falls c.args.ring.now c.args.f.now poly)),
)

pub returns-else-has_terms_of : goal.returns-else-has_terms_of
returns-else-has_terms_of c =
    ((λ holds. cc), (λ poly. c.has_terms_of.ensures.1 (poly_terms c.args.ring.now c.args.f.now poly)))
