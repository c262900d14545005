-- Multiples and products of polynomials, as lists of terms (Cox, Little, O'Shea, chapter 1, section 1).
use Rattle.std.specs.Prelude.{ℕ, ◌*◌, List, [], ◌∷◌, ◌++◌, max}
use Rattle.cgs_exps.specs.Monomial.{degree, product}
use Rattle.cgs_terms.specs.Polynomial.{Term, term}

-- c * f
abbrev pub scaled : ℕ → List Term → List Term
scaled c [] = []
scaled c (x ∷ f) = term (c * x.coefficient) x.exponents ∷ scaled c f

-- c * m * f
abbrev pub multiple : ℕ → List ℕ → List Term → List Term
multiple c m [] = []
multiple c m (x ∷ f) = term (c * x.coefficient) (product m x.exponents) ∷ multiple c m f

-- each term of the first times each term of the second
abbrev pub all_products : List Term → List Term → List Term
all_products [] g = []
all_products (x ∷ f) g = multiple x.coefficient x.exponents g ++ all_products f g

-- the monomial of the first term
abbrev pub leading_monomial : List Term → List ℕ
leading_monomial [] = []
leading_monomial (x ∷ f) = x.exponents

-- the coefficient of the first term
abbrev pub leading_coefficient : List Term → ℕ
leading_coefficient [] = 0
leading_coefficient (x ∷ f) = x.coefficient

-- the greatest degree of a monomial
abbrev pub top_degree : List Term → ℕ
top_degree [] = 0
top_degree (x ∷ f) = max (degree x.exponents) (top_degree f)
