-- Which calls of a source or a sink in memory fail.
use Rattle.std.specs.Prelude.{◌≡◌, ◌+◌, ◌-◌, ◌^◌, ◌==◌, ℕ, Bool, List, min}
use Rattle.std.specs.List.{list_any}
use Rattle.cgs_io.specs.declared.calls.Calls.{Calls}

-- the number of the call is in the list
abbrev pub is_listed : List ℕ → ℕ → Bool
is_listed fails call = list_any (λ n. n == call) fails

-- One call more was made, and the list is the same. The number stands still at the last value of 64 bits.
pub record IsNextCall (before now : Calls) : Type 0 where
  pub fails : now.fails ≡ before.fails
  pub made : now.made ≡ min (before.made + 1) (2 ^ 64 - 1)
