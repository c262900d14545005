-- How the pairs of a list of members wait: for each member apart, in the order in which they are taken.
use Rattle.std.specs.Prelude.{ℕ, ◌≡◌, ◌+◌, ◌<◌, ◌≤◌, List, [], ◌∷◌, ◌++◌, length, map, slice_index_or}
use Rattle.std.specs.List.{AllByRecursion}
use Rattle.std.specs.Ordering.{match_ordering}
use Rattle.cgs_exps.specs.Monomial.{lcm}
use Rattle.cgs_order.specs.declared.block.BlockOrder.{BlockOrder}
use Rattle.cgs_pairs.specs.declared.pair.Pair.{Pair}
use Rattle.cgs_pairs.specs.declared.rank.Rank.{Rank}
use Rattle.cgs_pairs.specs.declared.runs.Run.{Run}
use Rattle.cgs_pairs.specs.PairOrder.{pair, pair_compared, IsAscending}
use Rattle.cgs_pairs.specs.Rank.{IsRankOf}

-- the order, the leads of the members, and the pairs of their places that wait in the order in which they are taken
pub record WaitingPairs : Type 0 where
  pub order : BlockOrder
  pub leads : List (List ℕ)
  pub pairs : List Pair

-- the pair of two places, by the leads there
abbrev pub pair_at : List (List ℕ) → ℕ → ℕ → Pair
pair_at leads larger smaller = pair (lcm (slice_index_or leads smaller []) (slice_index_or leads larger [])) larger smaller

-- the pairs of one place with smaller places
abbrev pub pairs_at : List (List ℕ) → ℕ → List ℕ → List Pair
pairs_at leads larger [] = []
pairs_at leads larger (i ∷ places) = pair_at leads larger i ∷ pairs_at leads larger places

-- the pairs of a run: that of the rank, and then the others
abbrev pub pairs_of : List (List ℕ) → Rank × Run → List Pair
pairs_of leads e = pairs_at leads e.0.larger (e.0.smaller ∷ e.1.places.items)

abbrev pub pairs_in : List (List ℕ) → List (Rank × Run) → List Pair
pairs_in leads [] = []
pairs_in leads (e ∷ runs) = pairs_of leads e ++ pairs_in leads runs

-- a pair put into an ascending list of pairs, unless it is there
abbrev pub with_new : BlockOrder → Pair → List Pair → List Pair
with_new order x [] = x ∷ []
with_new order x (y ∷ pairs) = match_ordering (pair_compared order x y) (x ∷ y ∷ pairs) (y ∷ pairs) (y ∷ with_new order x pairs)

-- pairs in the order in which they are taken
abbrev pub sorted : BlockOrder → List Pair → List Pair
sorted order [] = []
sorted order (q ∷ pairs) = with_new order q (sorted order pairs)

-- each lead has as many places as the order, and not too many
abbrev pub AreLeads : BlockOrder → List (List ℕ) → Type 0
AreLeads order leads = AllByRecursion (λ m. (length m ≡ order.head + order.tail) × (length m ≤ 17)) leads

-- smaller places whose pairs with one place ascend
pub record IsRun (order : BlockOrder) (leads : List (List ℕ)) (larger : ℕ) (places : List ℕ) : Type 0 where
  pub within : AllByRecursion (λ i. i < length leads) places
  pub ascending : IsAscending order (pairs_at leads larger places)

-- the least pair of a place under its rank, and the others
pub record IsEntry (order : BlockOrder) (leads : List (List ℕ)) (e : Rank × Run) : Type 0 where
  pub within : e.0.larger < length leads
  pub rank : IsRankOf order (pair_at leads e.0.larger e.0.smaller) e.0
  pub run : IsRun order leads e.0.larger (e.0.smaller ∷ e.1.places.items)

-- no run is that of the place
abbrev pub IsFresh : ℕ → List (Rank × Run) → Type 0
IsFresh larger runs = AllByRecursion (λ e. ¬ (e.0.larger ≡ larger)) runs

-- each place has one run at most
abbrev pub AreApart : List (Rank × Run) → Type 0
AreApart [] = Unit {0}
AreApart (e ∷ runs) = IsFresh e.0.larger runs × AreApart runs

pub record AreRuns (order : BlockOrder) (leads : List (List ℕ)) (runs : List (Rank × Run)) : Type 0 where
  pub entries : AllByRecursion (IsEntry order leads) runs
  pub apart : AreApart runs

-- the ranks of the pairs of one place with others
pub record AreRanks (order : BlockOrder) (leads : List (List ℕ)) (larger : ℕ) (places : List ℕ) (ranks : List Rank) : Type 0 where
  pub smaller : map (λ (r : Rank). r.smaller) ranks ≡ places
  pub each : AllByRecursion (λ (r : Rank). IsRankOf order (pair_at leads larger r.smaller) r) ranks
