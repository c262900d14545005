-- What parentheses and powers are worth, in units of work: each cost is tried first, and then the degrees.
use Rattle.std.specs.Prelude.{ℕ, zero, suc, ◌-◌, ◌*◌, max, Bool, nat_lt, nat_le, List, ◌∷◌, [], ◌++◌, length, replicate, if◌then◌else◌, Result, Ok, Err}
use Rattle.std.specs.List.{list_all}
use Rattle.cgs_list.specs.Results.{and_then}
use Rattle.cgs_exps.specs.Monomial.{degree}
use Rattle.cgs_poly.specs.Polynomial.{Term, term, places, canonical}
use Rattle.cgs_poly.specs.Product.{scaled, all_products}
use Rattle.cgs_problem.specs.declared.fault.TextKind.{TextKind}
use Rattle.cgs_problem.specs.declared.fault.TextKind.TheVariants as fault
use Rattle.cgs_problem.specs.Sums.{Reader}

-- a polynomial and the units left, or a fault
abbrev pub Valued : Type 0
Valued = Result (List Term × ℕ) TextKind

-- what is left of the units
abbrev pub paid : ℕ → ℕ → Result ℕ TextKind
paid cost units = if nat_lt units cost then Err fault.Large else Ok (units - cost)

-- whether no monomial passes the limit
abbrev pub is_within : Reader → List Term → Bool
is_within reader f = list_all (λ (x : Term). nat_le (degree x.exponents) reader.most) f

abbrev pub within : Reader → List Term → ℕ → List Term → Valued
within reader terms units f = if is_within reader terms then Ok (f, units) else Err fault.Degree

abbrev pub number_value : Reader → ℕ → List Term
number_value reader n = canonical reader.ring (term n (replicate (places reader.ring) 0) ∷ [])

-- One product costs as much as it has products of terms, and at least 1.
abbrev pub times : Reader → List Term → List Term → ℕ → Valued
times reader f g units = and_then (paid (max 1 (length f * length g)) units)
    (λ left. within reader (all_products f g) left (canonical reader.ring (all_products f g)))

-- f, and then so many times g
unfoldable pub times_repeatedly : Reader → List Term → ℕ → List Term → ℕ → Valued
times_repeatedly reader g zero f units = Ok (f, units)
times_repeatedly reader g (suc count) f units = and_then (times reader f g units) (λ next. times_repeatedly reader g count next.0 next.1)

-- one multiplication fewer than the exponent
abbrev pub to_power : Reader → List Term → ℕ → ℕ → Valued
to_power reader f zero units = Ok (number_value reader 1, units)
to_power reader f (suc count) units = times_repeatedly reader f count f units

-- A product is added with its sign. It costs as much as it has terms.
abbrev pub plus_signed : Reader → List Term → ℕ → List Term → ℕ → Valued
plus_signed reader sum sign product units = and_then (paid (length product) units) (λ left. Ok (canonical reader.ring (sum ++ scaled sign product), left))
