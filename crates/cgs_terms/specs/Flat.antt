-- Terms that are kept in two flat lists: the coefficients, and all exponents one after the other.
use Rattle.std.specs.Prelude.{ℕ, zero, suc, List, [], ◌∷◌, ◌++◌, take, drop}
use Rattle.cgs_terms.specs.Polynomial.{Term, term}

-- each coefficient with the next `places` exponents
abbrev pub terms_of : ℕ → List ℕ → List ℕ → List Term
terms_of places [] exponents = []
terms_of places (c ∷ coefficients) exponents = term c (take places exponents) ∷ terms_of places coefficients (drop places exponents)

-- the terms with another coefficient at a place
abbrev pub with_coefficient : ℕ → ℕ → List Term → List Term
with_coefficient i c [] = []
with_coefficient zero c (x ∷ f) = term c x.exponents ∷ f
with_coefficient (suc i) c (x ∷ f) = x ∷ with_coefficient i c f

-- the coefficients of all terms
abbrev pub coefficients_of : List Term → List ℕ
coefficients_of [] = []
coefficients_of (x ∷ f) = x.coefficient ∷ coefficients_of f

-- the exponents of all monomials, one monomial after the other
abbrev pub exponents_of : List Term → List ℕ
exponents_of [] = []
exponents_of (x ∷ f) = x.exponents ++ exponents_of f
