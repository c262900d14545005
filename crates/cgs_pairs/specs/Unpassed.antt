-- Pairs that are passed whatever was taken so far: by the leads and the order of the pairs alone (Gebauer, Möller, 1988).
use Rattle.std.specs.Prelude.{ℕ, zero, suc, ◌≡◌, ◌⊎◌, ◌<◌, ◌≤◌, Bool, true, false, not, ◌==◌, ◌&&◌, ◌||◌, List, [], ◌∷◌, ◌++◌, length}
use Rattle.std.specs.Prelude.{slice_index_or, cond, nat_lt}
use Rattle.std.specs.List.{AllByRecursion, Contains}
use Rattle.std.specs.Ordering.{is_lt}
use Rattle.cgs_exps.specs.Monomial.{divides, coprime, lcm}
use Rattle.cgs_order.specs.declared.block.BlockOrder.{BlockOrder}
use Rattle.cgs_pairs.specs.declared.pair.Pair.{Pair}
use Rattle.cgs_pairs.specs.PairOrder.{pair_compared}
use Rattle.cgs_pairs.specs.Runs.{pair_at}

-- the pair of two places, whichever is larger
abbrev pub pair_between : List (List ℕ) → ℕ → ℕ → Pair
pair_between leads i j = cond (nat_lt i j) (pair_at leads j i) (pair_at leads i j)

-- the first pair is taken before the second where both wait
abbrev pub precedes : BlockOrder → Pair → Pair → Bool
precedes order p q = is_lt (pair_compared order p q)

-- place k is none of the pair's, the lead m there divides the lcm, and the pairs of k with either place come before the pair
abbrev pub is_earlier_third : BlockOrder → List (List ℕ) → Pair → ℕ → List ℕ → Bool
is_earlier_third order leads q k m =
    not (k == q.smaller) && not (k == q.larger) && divides m q.lcm
    && precedes order (pair_between leads k q.smaller) q && precedes order (pair_between leads k q.larger) q

-- some place from k on is such a third place
abbrev pub has_earlier_third : BlockOrder → List (List ℕ) → Pair → ℕ → List (List ℕ) → Bool
has_earlier_third order leads q k [] = false
has_earlier_third order leads q k (m ∷ rest) = is_earlier_third order leads q k m || has_earlier_third order leads q (suc k) rest

-- the pair is passed whenever it is the least that waits: its leads are coprime, or there is such a third place
abbrev pub is_ever_passed : BlockOrder → List (List ℕ) → Pair → Bool
is_ever_passed order leads q =
    coprime (slice_index_or leads q.smaller []) (slice_index_or leads q.larger []) || has_earlier_third order leads q 0 leads

-- the pairs of a list that are not passed so
abbrev pub unpassed : BlockOrder → List (List ℕ) → List Pair → List Pair
unpassed order leads [] = []
unpassed order leads (q ∷ pairs) = cond (is_ever_passed order leads q) (unpassed order leads pairs) (q ∷ unpassed order leads pairs)

-- leads of n places, which are not too many
abbrev pub AreAlike : ℕ → List (List ℕ) → Type 0
AreAlike n leads = AllByRecursion (λ m. (length m ≡ n) × (n ≤ 17)) leads

-- the lcm of the leads at two places
abbrev pub lcm_at : List (List ℕ) → ℕ → ℕ → List ℕ
lcm_at leads i j = lcm (slice_index_or leads i []) (slice_index_or leads j [])

-- whether the lead at one of some places divides m
abbrev pub has_divisor_at : List (List ℕ) → List ℕ → List ℕ → Bool
has_divisor_at leads m [] = false
has_divisor_at leads m (k ∷ places) = divides (slice_index_or leads k []) m || has_divisor_at leads m places

-- the places whose lcm with the larger one is no multiple of d
abbrev pub without_multiples : List (List ℕ) → ℕ → List ℕ → List ℕ → List ℕ
without_multiples leads larger d [] = []
without_multiples leads larger d (k ∷ places) =
    cond (divides d (lcm_at leads k larger)) (without_multiples leads larger d places) (k ∷ without_multiples leads larger d places)

-- a place put after those whose lcms with the larger one are minimal so far: the first of equal ones stays
abbrev pub with_minimal : List (List ℕ) → ℕ → ℕ → List ℕ → List ℕ
with_minimal leads larger i places =
    cond (has_divisor_at leads (lcm_at leads i larger) places) places (without_multiples leads larger (slice_index_or leads i []) places ++ i ∷ [])

-- of the first places those whose lcms with the larger one are minimal
abbrev pub minimal_places : List (List ℕ) → ℕ → ℕ → List ℕ
minimal_places leads larger zero = []
minimal_places leads larger (suc i) = with_minimal leads larger i (minimal_places leads larger i)

-- the places whose leads have something in common with that at the larger one
abbrev pub without_coprime : List (List ℕ) → ℕ → List ℕ → List ℕ
without_coprime leads larger [] = []
without_coprime leads larger (k ∷ places) =
    cond (coprime (slice_index_or leads k []) (slice_index_or leads larger [])) (without_coprime leads larger places)
    (k ∷ without_coprime leads larger places)

-- each place is below those after it
abbrev pub Ascend : List ℕ → Type 0
Ascend [] = Unit {0}
Ascend (i ∷ places) = AllByRecursion (λ k. i < k) places × Ascend places

-- smaller places of one place, with those of all pairs that are not passed
pub record AreEnough (order : BlockOrder) (leads : List (List ℕ)) (larger : ℕ) (places : List ℕ) : Type 0 where
  pub below : AllByRecursion (λ i. i < larger) places
  pub each : (i : ℕ) → i < larger → Contains places i ⊎ (is_ever_passed order leads (pair_at leads larger i) ≡ true)
