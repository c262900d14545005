-- The walk through the box of the least powers, place by place from the left.
use Rattle.std.specs.Prelude.{ℕ, Bool, false, not, cond, min, List, [], ◌∷◌, ◌++◌, length, take, slice_index}
use Rattle.std.specs.List.{count_by}
use Rattle.cgs_exps.specs.Monomial.{divides}
use Rattle.cgs_poly.specs.Ring.{Ring}
use Rattle.cgs_poly.specs.Polynomial.{Term}
use Rattle.cgs_poly.specs.Parameters.{lead_x}
use Rattle.cgs_report.specs.Standard.{has_divisor}
use Rattle.cgs_report.specs.Box.{is_power}

-- whether the variables' part of the leading monomial divides m
abbrev pub lead_divides : Ring → List ℕ → List Term → Bool
lead_divides ring m [] = false
lead_divides ring m (y ∷ f) = divides (lead_x ring (y ∷ f)) m

-- whether it is a power of the variable at a place
abbrev pub lead_is_power : Ring → ℕ → List Term → Bool
lead_is_power ring i [] = false
lead_is_power ring i (y ∷ f) = is_power i (lead_x ring (y ∷ f))

-- how many of the monomials are standard when the exponents p stand before them
abbrev pub standard_after : List (List ℕ) → List ℕ → List (List ℕ) → ℕ
standard_after L p M = count_by (λ m. not (has_divisor L (p ++ m))) M

-- the exponent of l after those of p, where the ones before divide p, and else one above all exponents
abbrev pub last_of : List ℕ → List ℕ → ℕ
last_of p l = cond (divides (take (length p) l) p) (slice_index l (length p)) 32768

-- the least of these
abbrev pub least_last : List ℕ → List (List ℕ) → ℕ
least_last p [] = 32768
least_last p (l ∷ L) = min (last_of p l) (least_last p L)

-- the same of the variables' part of a leading monomial
abbrev pub lead_last : Ring → List ℕ → List Term → ℕ
lead_last ring p [] = 32768
lead_last ring p (y ∷ f) = last_of p (lead_x ring (y ∷ f))
