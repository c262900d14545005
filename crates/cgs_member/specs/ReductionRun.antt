-- The reduction of a polynomial by a basis whose leading coefficients are polynomials in the parameters: instead of dividing by a leading
-- coefficient it multiplies by it (pseudodivision; Cox, Little, O'Shea, chapter 6, section 5), with units of work and a limit on degrees.
use Rattle.std.specs.Prelude.{ℕ, zero, suc, ◌+◌, ◌-◌, ◌*◌, Bool, false, cond, ◌||◌, List, [], ◌∷◌, ◌++◌, length, slice_index_or, nat_lt, take, replicate}
use Rattle.std.specs.Ordering.{nat_cmp, is_eq}
use Rattle.std.specs.Cmp.Lexicographic.{slice_cmp}
use Rattle.cgs_exps.specs.Monomial.{divides, quotient}
use Rattle.cgs_poly.specs.Ring.{Ring}
use Rattle.cgs_poly.specs.Polynomial.{Term, canonical}
use Rattle.cgs_poly.specs.Product.{multiple, all_products}
use Rattle.cgs_poly.specs.Parameters.{lead_x, lc_x, part_at}
use Rattle.cgs_divide.specs.Ending.{Ending, ended, out_of_budget, out_of_degree, charged, followed}
use Rattle.cgs_divide.specs.DivisionRun.{is_too_high}
use Rattle.cgs_member.specs.declared.reduction.Parts.{Parts}

-- what is left of a polynomial, and the remainder so far
abbrev pub parts : List Term → List Term → Parts
parts rest remainder = record { rest = rest; remainder = remainder }

-- the variables' part of the lead of g divides m; 0 has no lead
abbrev pub lead_divides : Ring → List Term → List ℕ → Bool
lead_divides ring [] m = false
lead_divides ring (y ∷ g) m = divides (take ring.variables y.exponents) m

-- the place of the first polynomial of which it does, or the number of polynomials
abbrev pub first_divisor : Ring → List (List Term) → List ℕ → ℕ
first_divisor ring [] m = 0
first_divisor ring (g ∷ B) m = cond (lead_divides ring g m) 0 (suc (first_divisor ring B m))

-- the terms whose variables have other exponents than x
abbrev pub others_at : Ring → List ℕ → List Term → List Term
others_at ring x [] = []
others_at ring x (y ∷ f) = cond (is_eq (slice_cmp nat_cmp (take ring.variables y.exponents) x)) (others_at ring x f) (y ∷ others_at ring x f)

-- the monomial in the variables that brings the variables' part of the lead of b to that of f
abbrev pub lead_quotient : Ring → List Term → List Term → List ℕ
lead_quotient ring f b = quotient (lead_x ring f) (lead_x ring b) ++ replicate ring.parameters 0

-- d*f - c*t*b, where c and d are the leading coefficients of f and of b, and t is this monomial: the leading parts cancel
abbrev pub cancelled : Ring → List Term → List Term → List Term
cancelled ring f b = canonical ring (all_products (lc_x ring b) f ++ all_products (lc_x ring f) (multiple (ring.modulus - 1) (lead_quotient ring f b) b))

-- the number of products of terms in d*f, c*t*b and d*r
abbrev pub cancelling_cost : Ring → List Term → List Term → List Term → ℕ
cancelling_cost ring f b r = length (lc_x ring b) * length f + length (lc_x ring f) * length b + length (lc_x ring b) * length r

-- two monomials that are multiplied in d*f, in (c*t)*b or in d*r have degrees above the limit together
abbrev pub is_cancelling_too_high : Ring → List Term → List Term → List Term → Bool
is_cancelling_too_high ring f b r =
    (is_too_high (all_products (lc_x ring b) f) || is_too_high (all_products (multiple 1 (lead_quotient ring f b) (lc_x ring f)) b))
    || is_too_high (all_products (lc_x ring b) r)

-- the step by b: f becomes d*f - c*t*b, and the remainder r becomes d*r
abbrev pub cancelling : Ring → List Term → ℕ → List Term → List Term → Ending Parts
cancelling ring b units f r =
    charged (cancelling_cost ring f b r) units
    (cond (is_cancelling_too_high ring f b r) (out_of_degree (units - cancelling_cost ring f b r))
    (ended (parts (cancelled ring f b) (canonical ring (all_products (lc_x ring b) r))) (units - cancelling_cost ring f b r)))

-- the step where no lead divides: the leading part goes to the remainder
abbrev pub moving : Ring → ℕ → List Term → List Term → Ending Parts
moving ring units f r =
    charged (length (lc_x ring f)) units
    (ended (parts (others_at ring (lead_x ring f) f) (canonical ring (r ++ part_at ring (lead_x ring f) f))) (units - length (lc_x ring f)))

-- one step, for an f that is not 0: by the first member whose lead divides that of f in the variables, or none
abbrev pub step : Ring → List (List Term) → ℕ → List Term → List Term → Ending Parts
step ring B units f r =
    let i = first_divisor ring B (lead_x ring f) in
    cond (nat_lt i (length B)) (cancelling ring (slice_index_or B i []) units f r) (moving ring units f r)

-- the run in at most so many steps
abbrev pub reduction_in : ℕ → Ring → List (List Term) → ℕ → List Term → List Term → Ending (List Term)
reduction_in zero ring B units f r = out_of_budget units
reduction_in (suc steps) ring B units [] r = ended r units
reduction_in (suc steps) ring B units (x ∷ f) r =
    followed (step ring B units (x ∷ f) r) (λ p left. reduction_in steps ring B left p.rest p.remainder)

-- the remainder, from what is left of f and the remainder so far: since each step costs a unit, the run has at most one step more than units
unfoldable pub reduction : Ring → List (List Term) → ℕ → List Term → List Term → Ending (List Term)
reduction ring B units f r = reduction_in (suc units) ring B units f r
