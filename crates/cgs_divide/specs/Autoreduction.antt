-- Autoreduction: each member of a basis divided by what became of the members before it (Cox, Little, O'Shea, chapter 2, section 7).
use Rattle.std.specs.Prelude.{ℕ, List, [], slice_index_or, take}
use Rattle.cgs_poly.specs.Ring.{Ring}
use Rattle.cgs_poly.specs.Polynomial.{Term}
use Rattle.cgs_divide.specs.Division.{IsRemainder}

-- the result at a place is the remainder of the member of K there, divided by the results before it
abbrev pub IsDividedAt : Ring → List (List Term) → List (List Term) → ℕ → Type 0
IsDividedAt ring K R i = IsRemainder ring (take i R) (slice_index_or K i []) (slice_index_or R i [])
