-- Worked examples, modulo 7 in x and y with the order lex.
use Rattle.std.specs.Prelude.{◌≡◌, List, [], ◌∷◌, refl}
use Rattle.cgs_order.specs.TermOrder.{key, compared}
use Rattle.cgs_order.specs.declared.kind.Kind.TheVariants.{Lex}
use Rattle.cgs_poly.specs.Ring.{Ring}
use Rattle.cgs_poly.specs.Polynomial.{Term, term, canonical}
use Rattle.cgs_algebra.specs.Combination.{summand, combined}
use Rattle.cgs_algebra.specs.Groebner.{IsGroebnerBasis, IsReduced, IsAscending}
use Rattle.cgs_algebra.specs.SPolynomial.{s_terms}

abbrev pub seven : Ring
seven = record { modulus = 7; variables = 2; parameters = 0; kind = Lex }

-- x^2 - 1
abbrev pub x_squared_less_one : List Term
x_squared_less_one = term 1 (2 ∷ 0 ∷ []) ∷ term 6 (0 ∷ 0 ∷ []) ∷ []

-- x*y - 1
abbrev pub xy_less_one : List Term
xy_less_one = term 1 (1 ∷ 1 ∷ []) ∷ term 6 (0 ∷ 0 ∷ []) ∷ []

-- x - y
abbrev pub x_less_y : List Term
x_less_y = term 1 (1 ∷ 0 ∷ []) ∷ term 6 (0 ∷ 1 ∷ []) ∷ []

-- y^2 - 1
abbrev pub y_squared_less_one : List Term
y_squared_less_one = term 1 (0 ∷ 2 ∷ []) ∷ term 6 (0 ∷ 0 ∷ []) ∷ []

abbrev pub generators : List (List Term)
generators = x_squared_less_one ∷ xy_less_one ∷ []

abbrev pub basis : List (List Term)
basis = y_squared_less_one ∷ x_less_y ∷ []

-- the reduced Gröbner basis of x^2 - 1 and x*y - 1 is y^2 - 1 and x - y
abbrev pub ReducedExample : Type 0
ReducedExample = IsReduced seven basis generators × IsAscending seven basis

-- the term 0*1, which is no polynomial: the polynomial 0 has no terms
abbrev pub zero_term : List Term
zero_term = term 0 (0 ∷ 0 ∷ []) ∷ []

-- a list of it alone is no Gröbner basis, though it is a member of each ideal and its monomial 1 divides each lead
abbrev pub ZeroTermIsRefused : Type 0
ZeroTermIsRefused = (F : List (List Term)) → ¬ (IsGroebnerBasis seven (zero_term ∷ []) F)

-- the S-polynomial of x^2 - 1 and x*y - 1 is x - y
pub s_polynomial_example : canonical seven (s_terms seven x_squared_less_one xy_less_one) ≡ x_less_y
unfolding key compared
s_polynomial_example = refl

-- y*(x^2 - 1) + 6*x*(x*y - 1) is x - y: the combination that makes x - y a member of the ideal of the two
pub combination_example : canonical seven (combined generators (summand 1 (0 ∷ 1 ∷ []) 0 ∷ summand 6 (1 ∷ 0 ∷ []) 1 ∷ [])) ≡ x_less_y
unfolding key compared
combination_example = refl
