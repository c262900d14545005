-- The emptiness run: whether conditions contradict each other, by Rabinowitsch's trick (Cox, Little, O'Shea, chapter 4, section 2,
-- proposition 8). A point where the polynomials of E are 0 and those of N are not would give a zero of E and of y*n1*..*nk - 1.
use Rattle.std.specs.Prelude.{ℕ, ◌-◌, ◌*◌, Bool, true, cond, List, [], ◌∷◌, ◌++◌, length, map, max, replicate, nat_lt}
use Rattle.std.specs.Cmp.Lexicographic.{pointwise}
use Rattle.cgs_poly.specs.Ring.{Ring}
use Rattle.cgs_poly.specs.Polynomial.{Term, term, places, one, canonical}
use Rattle.cgs_poly.specs.Product.{multiple, all_products}
use Rattle.cgs_poly.specs.Recast.{recast}
use Rattle.cgs_divide.specs.Ending.{Ending, ended, out_of_budget, out_of_degree, followed}
use Rattle.cgs_divide.specs.DivisionRun.{divided, remainder_of, is_too_high}
use Rattle.cgs_basis.specs.BasisRun.{basis_run}
use Rattle.cgs_poly.specs.Same.{same_poly}

-- a run that finds the reduced Gröbner basis of a list in some units
abbrev pub BasisRun : Type 0
BasisRun = Ring → List (List Term) → ℕ → Ending (List (List Term))

-- one variable y above the parameters
abbrev pub y_ring : Ring → Ring
y_ring ring = record { modulus = ring.modulus; variables = 1; parameters = ring.parameters; kind = ring.kind }

-- polynomials in the parameters, in that ring
abbrev pub with_y : Ring → List (List Term) → List (List Term)
with_y ring F = map (recast ring (y_ring ring)) F

-- y*q - 1, for q in the parameters
abbrev pub y_times_less_one : Ring → List Term → List Term
y_times_less_one ring q = canonical ring (multiple 1 (1 ∷ replicate ring.parameters 0) q ++ term (ring.modulus - 1) (replicate (places ring) 0) ∷ [])

-- the cost of a product: the number of products of terms, at least 1
abbrev pub product_cost : List Term → List Term → ℕ
product_cost f g = max 1 (length f * length g)

-- the remainder of q*n by B
abbrev pub product_remainder : Ring → List (List Term) → List Term → List Term → ℕ → Ending (List Term)
product_remainder ring B q n units =
    cond (nat_lt units (product_cost q n)) (out_of_budget units)
    (cond (is_too_high (all_products q n)) (out_of_degree (units - product_cost q n))
    (remainder_of (divided ring B (units - product_cost q n) (canonical ring (all_products q n)))))

-- the same with each factor in order, until it is 0
abbrev pub products_remainder : Ring → List (List Term) → List (List Term) → List Term → ℕ → Ending (List Term)
products_remainder ring B N [] units = ended [] units
products_remainder ring B [] (x ∷ q) units = ended (x ∷ q) units
products_remainder ring B (n ∷ N) (x ∷ q) units = followed (product_remainder ring B (x ∷ q) n units) (products_remainder ring B N)

-- whether a list is that of 1 alone
abbrev pub is_one_alone : Ring → List (List Term) → Bool
is_one_alone ring G = pointwise same_poly G (one ring ∷ [])

-- whether B and y*q - 1 contradict each other, by their basis; q is not 0
abbrev pub contradiction_run : BasisRun → Ring → List (List Term) → List Term → ℕ → Ending Bool
contradiction_run basis ring B [] units = ended true units
contradiction_run basis ring B (x ∷ q) units =
    cond (is_too_high (multiple 1 (1 ∷ replicate ring.parameters 0) (x ∷ q))) (out_of_degree units)
    (followed (basis ring (B ++ y_times_less_one ring (x ∷ q) ∷ []) units) (λ G. ended (is_one_alone ring G)))

-- the remainder of the product of N by the basis B of the conditions that have to vanish, and the test of the two
abbrev pub emptiness_from : BasisRun → Ring → List (List Term) → List (List Term) → ℕ → Ending Bool
emptiness_from basis ring N B units =
    followed (products_remainder (y_ring ring) B (with_y ring N) (one (y_ring ring)) units) (contradiction_run basis (y_ring ring) B)

-- the basis of E, and what follows it
abbrev pub emptiness_by : BasisRun → Ring → List (List Term) → List (List Term) → ℕ → Ending Bool
emptiness_by basis ring E N units = followed (basis (y_ring ring) (with_y ring E) units) (emptiness_from basis ring N)

-- the basis of E with a variable above the parameters, by Buchberger's algorithm
abbrev pub vanishing_run : Ring → List (List Term) → ℕ → Ending (List (List Term))
vanishing_run ring E units = basis_run (y_ring ring) (with_y ring E) units

-- the emptiness run, by Buchberger's algorithm
abbrev pub emptiness_run : Ring → List (List Term) → List (List Term) → ℕ → Ending Bool
emptiness_run ring E N units = emptiness_by basis_run ring E N units
