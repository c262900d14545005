-- A tree of one branch a level: the node of n + 1 has the child n, and the node of 0 the entry 0.
use Rattle.std.specs.Prelude.{ℕ, List, [], ◌∷◌, Option, Some, None}
use Rattle.std.proofs.Common.{zero, suc, arith}
use Rattle.std.proofs.lemmas.Option.{none-some, same_Some}
use Rattle.cgs_board.specs.Tree.{Falls}

abbrev pub chain : ℕ → List ℕ → Option ℕ × List ℕ
chain zero path = (Some 0, [])
chain (suc n) path = (None, n ∷ [])

abbrev pub levels : ℕ → List ℕ → ℕ
levels n path = n

pub chain_falls : Falls chain levels
chain_falls zero path i child at = absurd (none-some child at)
chain_falls (suc n) path zero child at = let e = same_Some n child at in omega (arith, e)
chain_falls (suc n) path (suc i) child at = absurd (none-some child at)
