-- The variables' and the parameters' parts of a polynomial, and its values at points, a number for each parameter.
use Rattle.std.specs.Prelude.{ℕ, ◌≡◌, ◌*◌, ◌^◌, ◌%◌, Bool, true, ◌&&◌, cond, List, [], ◌∷◌, ◌++◌, take, drop, replicate}
use Rattle.std.specs.Ordering.{nat_cmp, is_eq}
use Rattle.std.specs.Cmp.Lexicographic.{slice_cmp}
use Rattle.cgs_poly.specs.Ring.{Ring}
pub use Rattle.cgs_terms.specs.Polynomial.{variables_ring}
use Rattle.cgs_poly.specs.Polynomial.{Term, term, total, canonical, IsPoly}
use Rattle.cgs_poly.specs.Product.{leading_monomial}

-- the variables' exponents of the leading monomial
abbrev pub lead_x : Ring → List Term → List ℕ
lead_x ring f = take ring.variables (leading_monomial f)

-- the terms whose variables have the exponents x
abbrev pub part_at : Ring → List ℕ → List Term → List Term
part_at ring x [] = []
part_at ring x (y ∷ f) = cond (is_eq (slice_cmp nat_cmp (take ring.variables y.exponents) x)) (y ∷ part_at ring x f) (part_at ring x f)

-- a monomial without its variables
abbrev pub without_variables : Ring → List ℕ → List ℕ
without_variables ring m = replicate ring.variables 0 ++ drop ring.variables m

-- the same terms without their variables
abbrev pub strip : Ring → List Term → List Term
strip ring [] = []
strip ring (y ∷ f) = term y.coefficient (without_variables ring y.exponents) ∷ strip ring f

-- the polynomial in the parameters that multiplies the variables' part of the leading monomial
abbrev pub lc_x : Ring → List Term → List Term
lc_x ring f = strip ring (part_at ring (lead_x ring f) f)

-- no variable stands in the terms
abbrev pub HasNoVariables : Ring → List Term → Type 0
HasNoVariables ring [] = Unit {0}
HasNoVariables ring (y ∷ f) = (take ring.variables y.exponents ≡ replicate ring.variables 0) × HasNoVariables ring f

-- the test of it
abbrev pub has_no_variables : Ring → List Term → Bool
has_no_variables ring [] = true
has_no_variables ring (y ∷ f) = is_eq (slice_cmp nat_cmp (take ring.variables y.exponents) (replicate ring.variables 0)) && has_no_variables ring f

-- a polynomial of the ring in the parameters alone
pub record IsCondition (ring : Ring) (f : List Term) : Type 0 where
  pub poly : IsPoly ring f
  pub free : HasNoVariables ring f

-- the product of the powers of a point's numbers
abbrev pub power_at : List ℕ → List ℕ → ℕ
power_at [] a = 1
power_at (e ∷ es) [] = 1
power_at (e ∷ es) (x ∷ a) = x ^ e * power_at es a

-- the value at a point of a polynomial without variables
abbrev pub value_at : Ring → List ℕ → List Term → ℕ
value_at ring a f = total (λ m. power_at (drop ring.variables m) a) f % ring.modulus

-- each term with its parameters replaced by a point's numbers
abbrev pub specialised_terms : Ring → List ℕ → List Term → List Term
specialised_terms ring a [] = []
specialised_terms ring a (y ∷ f) =
    term (y.coefficient * power_at (drop ring.variables y.exponents) a) (take ring.variables y.exponents) ∷ specialised_terms ring a f

-- the polynomial in the variables alone that f becomes at a point
abbrev pub specialised : Ring → List ℕ → List Term → List Term
specialised ring a f = canonical (variables_ring ring) (specialised_terms ring a f)
