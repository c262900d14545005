-- Worked runs, modulo 7 in the parameter a.
use Rattle.std.specs.Prelude.{◌≡◌, true, false, List, [], ◌∷◌}
use Rattle.cgs_poly.specs.Polynomial.{Term, term}
use Rattle.cgs_entry.specs.Examples.{seven, only_a, one}
use Rattle.cgs_divide.specs.Ending.{ended, out_of_budget, out_of_degree}
use Rattle.cgs_radical.specs.EmptinessRun.{emptiness_run}

-- a - 1 and a^2 - a
abbrev pub a_less_one : List Term
a_less_one = term 1 (0 ∷ 1 ∷ []) ∷ term 6 (0 ∷ 0 ∷ []) ∷ []

abbrev pub a_times_a_less_one : List Term
a_times_a_less_one = term 1 (0 ∷ 2 ∷ []) ∷ term 6 (0 ∷ 1 ∷ []) ∷ []

-- a^32767
abbrev pub greatest_power : List Term
greatest_power = term 1 (0 ∷ 32767 ∷ []) ∷ []

-- without conditions there are points; 2 units are needed
abbrev pub NothingIsPossible : Type 0
NothingIsPossible = (emptiness_run seven [] [] 2 ≡ ended false 0) × (emptiness_run seven [] [] 1 ≡ out_of_budget 0)

-- a can be 0; 4 units are needed
abbrev pub ZeroIsPossible : Type 0
ZeroIsPossible = (emptiness_run seven (only_a ∷ []) [] 4 ≡ ended false 0) × (emptiness_run seven (only_a ∷ []) [] 3 ≡ out_of_budget 0)

-- a cannot be 0 and not 0; 3 units are needed
abbrev pub ZeroAndNotIsEmpty : Type 0
ZeroAndNotIsEmpty =
    (emptiness_run seven (only_a ∷ []) (only_a ∷ []) 3 ≡ ended true 0) × (emptiness_run seven (only_a ∷ []) (only_a ∷ []) 2 ≡ out_of_budget 0)

-- 1 cannot be 0, nor can 0 not be 0: 2 units and 1 are needed
abbrev pub OneAmongZeroIsEmpty : Type 0
OneAmongZeroIsEmpty = (emptiness_run seven (one ∷ []) [] 2 ≡ ended true 0) × (emptiness_run seven (one ∷ []) [] 1 ≡ out_of_budget 0)

abbrev pub ZeroAmongNonzeroIsEmpty : Type 0
ZeroAmongNonzeroIsEmpty = (emptiness_run seven [] ([] ∷ []) 1 ≡ ended true 0) × (emptiness_run seven [] ([] ∷ []) 0 ≡ out_of_budget 0)

-- where a^2 - a is 0, a and a - 1 are not both other than 0: with 8 units their product is divided to 0. For each alone there are points, and 20
-- units are needed
abbrev pub ProductIsEmpty : Type 0
ProductIsEmpty =
    (emptiness_run seven (a_times_a_less_one ∷ []) (only_a ∷ a_less_one ∷ []) 8 ≡ ended true 0)
    × (emptiness_run seven (a_times_a_less_one ∷ []) (only_a ∷ a_less_one ∷ []) 7 ≡ out_of_budget 1)
    × (emptiness_run seven (a_times_a_less_one ∷ []) (only_a ∷ []) 20 ≡ ended false 0)
    × (emptiness_run seven (a_times_a_less_one ∷ []) (a_less_one ∷ []) 20 ≡ ended false 0)

-- y*a^32767 has the degree 32768
abbrev pub GreatestPowerIsTooHigh : Type 0
GreatestPowerIsTooHigh = (emptiness_run seven [] (greatest_power ∷ []) 2 ≡ out_of_degree 0) × (emptiness_run seven [] (greatest_power ∷ []) 1 ≡ out_of_budget 0)
