-- The division of a polynomial by a list of polynomials (Cox, Little, O'Shea, chapter 2, section 3), with units of work and a limit on degrees.
use Rattle.std.specs.Prelude.{ℕ, zero, suc, ◌-◌, Bool, false, cond, ◌||◌, List, [], ◌∷◌, ◌++◌, length, slice_index_or, nat_lt, map, take}
use Rattle.cgs_exps.specs.Monomial.{degree, divides, quotient}
use Rattle.cgs_exps.specs.Mask.{mask}
use Rattle.cgs_poly.specs.Ring.{Ring}
use Rattle.cgs_poly.specs.Polynomial.{Term, term, canonical, greatest_degree}
use Rattle.cgs_poly.specs.Product.{multiple, leading_monomial}
use Rattle.cgs_divide.specs.declared.division.Division.{Division}
use Rattle.cgs_divide.specs.Ending.{Ending, ended, out_of_budget, out_of_degree, charged, followed}

-- a division that ends with a remainder, a quotient for each divisor and the units left
abbrev pub done : List Term → List (List Term) → ℕ → Ending Division
done remainder quotients units = ended (record { remainder = remainder; quotients = quotients }) units

-- the run of the remainder alone
abbrev pub remainder_of : Ending Division → Ending (List Term)
remainder_of run = followed run (λ d. ended d.remainder)

-- a run with the first so many quotients alone
abbrev pub keeping : ℕ → Ending Division → Ending Division
keeping count run = followed run (λ d. done d.remainder (take count d.quotients))

-- the place of the first polynomial whose lead divides m, or the number of polynomials
abbrev pub first_divisor : List (List Term) → List ℕ → ℕ
first_divisor [] m = 0
first_divisor (g ∷ G) m = cond (divides (leading_monomial g) m) 0 (suc (first_divisor G m))

-- how many terms stand before the first that a lead divides, at most so many
abbrev pub undivided : ℕ → List (List Term) → List Term → ℕ
undivided zero G f = 0
undivided (suc n) G [] = 0
undivided (suc n) G (x ∷ f) = cond (nat_lt (first_divisor G x.exponents) (length G)) 0 (suc (undivided n G f))

-- the mask of the lead
abbrev pub lead_mask : List Term → ℕ
lead_mask g = mask (leading_monomial g)

-- some monomial has a degree above the limit
abbrev pub is_too_high : List Term → Bool
is_too_high [] = false
is_too_high (x ∷ f) = nat_lt greatest_degree (degree x.exponents) || is_too_high f

-- f - c*t*g
abbrev pub less_multiple : Ring → List Term → ℕ → List ℕ → List Term → List Term
less_multiple ring f c t g = canonical ring (f ++ multiple (ring.modulus - c) t g)

-- the same with a term at the front of the remainder
abbrev pub with_remainder : Term → Ending Division → Ending Division
with_remainder x run = followed run (λ d. done (x ∷ d.remainder) d.quotients)

-- a term at the front of the quotient at a place
abbrev pub added_at : ℕ → Term → List (List Term) → List (List Term)
added_at i x [] = []
added_at zero x (q ∷ quotients) = (x ∷ q) ∷ quotients
added_at (suc i) x (q ∷ quotients) = q ∷ added_at i x quotients

-- the same with a term added to the quotient at a place
abbrev pub with_quotient : ℕ → Term → Ending Division → Ending Division
with_quotient i x run = followed run (λ d. done d.remainder (added_at i x d.quotients))

-- the run in at most so many steps. The first divisor whose lead divides the leading term takes it: this costs the divisor's number of terms.
-- If none does, it goes to the remainder: this costs 1
abbrev pub divided_in : ℕ → Ring → List (List Term) → ℕ → List Term → Ending Division
divided_in zero ring G units f = out_of_budget units
divided_in (suc steps) ring G units [] = done [] (map (λ g. []) G) units
divided_in (suc steps) ring G units (x ∷ f) =
    let i = first_divisor G x.exponents in
    let g = slice_index_or G i [] in
    let t = quotient x.exponents (leading_monomial g) in
    cond (nat_lt i (length G))
    (charged (length g) units
    (cond (is_too_high (multiple x.coefficient t g)) (out_of_degree (units - length g))
    (with_quotient i (term x.coefficient t) (divided_in steps ring G (units - length g) (less_multiple ring (x ∷ f) x.coefficient t g)))))
    (charged 1 units (with_remainder x (divided_in steps ring G (units - 1) f)))

-- the division run of f by G: since each step costs a unit, it has at most one step more than units
unfoldable pub divided : Ring → List (List Term) → ℕ → List Term → Ending Division
divided ring G units f = divided_in (suc units) ring G units f
