-- The heap of the open slots.
use Rattle.std.specs.Prelude.{◌≡◌, ℕ, ◌+◌, List, [], ◌∷◌, sum_by}
use Rattle.std.proofs.Common.{zero, suc}
use Rattle.std.specs.declared.cmp.Reverse.{Reverse}
use Rattle.cgs_board.specs.declared.slot.Slot.{Slot}
use Rattle.cgs_board.specs.Slots.{is_open, count_if}

-- 1 where both are the same
abbrev pub same : ℕ → ℕ → ℕ
same zero zero = 1
same zero (suc b) = 0
same (suc a) zero = 0
same (suc a) (suc b) = same a b

-- 1 where what waits is the slot at place i
abbrev pub names : ℕ → ℕ × Reverse ℕ → ℕ
names i waiting = same waiting.1.0 i

-- 1 where place i is one of so many from the first on
abbrev pub names_within : ℕ → ℕ → ℕ → ℕ
names_within i first zero = 0
names_within i first (suc n) = same first i + names_within i (first + 1) n

-- 1 where the slot at place i is open
abbrev pub open_at : {J : Type 0} → List (Slot J) → ℕ → ℕ
open_at [] i = 0
open_at (s ∷ ss) zero = count_if (is_open s.stage)
open_at (s ∷ ss) (suc i) = open_at ss i

-- each open slot waits once, and no other
abbrev pub AreWaiting : {J : Type 0} → List (ℕ × Reverse ℕ) → List (Slot J) → Type 0
AreWaiting waiting slots = (i : ℕ) → sum_by (names i) waiting ≡ open_at slots i
