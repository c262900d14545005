-- The box of the least powers of the variables, and the standard monomials in it.
use Rattle.std.specs.Prelude.{ℕ, ◌+◌, ◌==◌, ◌&&◌, Bool, true, not, cond, Option, Some, None, List, [], ◌∷◌, ◌++◌, length, take, drop, map, min, nat_le}
use Rattle.std.specs.Prelude.{slice_index, zero, suc}
use Rattle.std.specs.List.{list_any, list_all, filter}
use Rattle.std.specs.Option.{unwrap_or}
use Rattle.cgs_report.specs.declared.standard.Standard.{Standard}
use Rattle.cgs_report.specs.declared.standard.Standard.TheVariants.{NotFinite, Many, Count}
use Rattle.cgs_report.specs.Standard.{has_divisor}

-- whether all exponents are 0
abbrev pub is_one : List ℕ → Bool
is_one m = list_all (λ e. e == 0) m

-- whether no other variable stands in m than that at a place
abbrev pub is_power : ℕ → List ℕ → Bool
is_power i m = is_one (take i m) && is_one (drop (suc i) m)

-- whether the list has a power of the variable at a place, or 1
abbrev pub has_power : ℕ → List (List ℕ) → Bool
has_power i L = list_any (is_power i) L

-- whether it has one for each of the k places from i on
abbrev pub have_powers : List (List ℕ) → ℕ → ℕ → Bool
have_powers L i zero = true
have_powers L i (suc k) = has_power i L && have_powers L (i + 1) k

-- the lesser of an exponent and one that may be there
abbrev pub lesser : ℕ → Option ℕ → ℕ
lesser e None = e
lesser e (Some b) = min e b

-- the least exponent of a power of the variable at a place
abbrev pub least_power : ℕ → List (List ℕ) → Option ℕ
least_power i [] = None
least_power i (l ∷ L) = cond (is_power i l) (Some (lesser (slice_index l i) (least_power i L))) (least_power i L)

-- how many exponents the box has at a place
abbrev pub side : ℕ → List (List ℕ) → ℕ
side i L = unwrap_or (least_power i L) 0

-- the monomials of M with each exponent below b before them
abbrev pub starting : ℕ → List (List ℕ) → List (List ℕ)
starting zero M = []
starting (suc b) M = starting b M ++ map (λ m. b ∷ m) M

-- the monomials in the k variables from place i on whose exponents are below the least powers
abbrev pub box : List (List ℕ) → ℕ → ℕ → List (List ℕ)
box L i zero = [] ∷ []
box L i (suc k) = starting (side i L) (box L (i + 1) k)

-- the standard monomials in the box of the least powers
abbrev pub standard_monomials : ℕ → List (List ℕ) → List (List ℕ)
standard_monomials n L = filter (λ m. not (has_divisor L m)) (box L 0 n)

-- the greatest number that is told
abbrev pub most_counted : ℕ
most_counted = 1000000

-- a count, if it is not too great
abbrev pub counted : ℕ → Standard
counted k = cond (nat_le k most_counted) (Count k) Many

-- what is told of the standard monomials: that they are infinitely many, that they are more than are counted, or their number
abbrev pub standard_of : ℕ → List (List ℕ) → Standard
standard_of n L = cond (have_powers L 0 n) (counted (length (standard_monomials n L))) NotFinite
