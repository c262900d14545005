-- A regular tree: each branch above the last level has the same number of children, and each branch on it the entry 0. A branch is its
-- number of children, and how many levels are below it.
use Rattle.std.specs.Prelude.{◌≡◌, ℕ, ◌<◌, List, [], replicate, Option, Some, None, slice_get}
use Rattle.std.proofs.Common.{zero, suc, sym, arith, ap}
use Rattle.std.proofs.lemmas.Option.{none-some, same_Some}
use Rattle.cgs_board.specs.Tree.{Falls}

abbrev pub node_at : ℕ → ℕ → Option ℕ × List (ℕ × ℕ)
node_at width zero = (Some 0, [])
node_at width (suc levels) = (None, replicate width (width, levels))

abbrev pub regular : ℕ × ℕ → List ℕ → Option ℕ × List (ℕ × ℕ)
regular branch path = node_at branch.0 branch.1

abbrev pub levels_below : ℕ × ℕ → List ℕ → ℕ
levels_below branch path = branch.1

in_replicate : {X : Type 0} (n : ℕ) (x : X) (i : ℕ) (y : X) → slice_get (replicate n x) i ≡ Some y → y ≡ x
in_replicate zero x i y at = absurd (none-some y at)
in_replicate (suc n) x zero y at = sym (same_Some x y at)
in_replicate (suc n) x (suc i) y at = in_replicate n x i y at

falls_at : (width levels i : ℕ) (child : ℕ × ℕ) → slice_get (node_at width levels).1 i ≡ Some child → child.1 < levels
falls_at width zero i child at = absurd (none-some child at)
falls_at width (suc levels) i child at = let e = ap (λ b. b.1) (in_replicate width (width, levels) i child at) in omega (arith, e)

pub levels_fall : Falls regular levels_below
levels_fall branch path i child at = falls_at branch.0 branch.1 i child at
