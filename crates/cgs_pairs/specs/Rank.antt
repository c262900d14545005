-- Ranks, which stand for pairs in a queue.
use Rattle.std.specs.Prelude.{◌≡◌, List}
use Rattle.std.specs.List.{AllByRecursion}
use Rattle.cgs_order.specs.declared.block.BlockOrder.{BlockOrder}
use Rattle.cgs_order.specs.TermOrder.{key}
use Rattle.cgs_pairs.specs.declared.pair.Pair.{Pair}
use Rattle.cgs_pairs.specs.declared.rank.Rank.{Rank}

-- the rank has the key list of the pair's lcm, and its places
pub record IsRankOf (order : BlockOrder) (q : Pair) (rank : Rank) : Type 0 where
  pub key : rank.key.items ≡ key order q.lcm
  pub larger : rank.larger ≡ q.larger
  pub smaller : rank.smaller ≡ q.smaller

-- each pair stands under its rank
abbrev pub AreRanked : BlockOrder → List (Rank × Pair) → Type 0
AreRanked order entries = AllByRecursion (λ e. IsRankOf order e.1 e.0) entries
