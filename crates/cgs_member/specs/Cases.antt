-- The cases of membership of a polynomial: the coefficients, in the parameters, of what its reduction leaves.
use Rattle.std.specs.Prelude.{ℕ, zero, suc, List, [], ◌∷◌, length}
use Rattle.cgs_poly.specs.Ring.{Ring}
use Rattle.cgs_poly.specs.Polynomial.{Term}
use Rattle.cgs_poly.specs.Parameters.{lead_x, lc_x}
use Rattle.cgs_divide.specs.Ending.{Ending, ended, followed}
use Rattle.cgs_entry.specs.Conditions.{with_members}
use Rattle.cgs_member.specs.ReductionRun.{others_at, reduction}

-- the coefficients of at most so many monomials in the variables, the greatest first
abbrev pub coefficients_in : ℕ → Ring → List Term → List (List Term)
coefficients_in zero ring r = []
coefficients_in (suc n) ring [] = []
coefficients_in (suc n) ring (x ∷ r) = lc_x ring (x ∷ r) ∷ coefficients_in n ring (others_at ring (lead_x ring (x ∷ r)) (x ∷ r))

-- all of them
abbrev pub coefficients : Ring → List Term → List (List Term)
coefficients ring r = coefficients_in (length r) ring r

-- the cases of f over a basis: the coefficients of the remainder, each made monic, the first of those that are equal
abbrev pub cases_run : Ring → List (List Term) → ℕ → List Term → Ending (List (List Term))
cases_run ring B units f = followed (reduction ring B units f []) (λ r. ended (with_members ring [] (coefficients ring r)))
