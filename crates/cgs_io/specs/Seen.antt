-- What a source or a sink shows.
use Rattle.std.specs.Prelude.{ℕ, ◌≡◌, List, Option}

-- what it tells at a moment: its bytes, if it tells them, and its count of faults
pub record Seen : Type 0 where
  pub bytes : Option (List ℕ)
  pub faults : ℕ

-- The count of faults is as it was.
abbrev pub IsCalm : Seen → Seen → Type 0
IsCalm before now = now.faults ≡ before.faults
