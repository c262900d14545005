-- The ranks of the pairs of one place, once they are sorted, give the places of a run.
use Rattle.std.proofs.Common.{ℕ, suc, ◌≡◌, ◌+◌, ◌<◌, ◌≤◌, ◌⊎◌, inl, inr, Bool, true, false, cond, ◌==◌, List, [], ◌∷◌, ◌++◌, length, get_or, map}
use Rattle.std.proofs.Common.{refl, sym, ap, ◌∙◌, subst, arith}
use Rattle.std.specs.List.{All, AllByRecursion, Contains, sum_by}
use Rattle.std.specs.List.Sorted.{IsPermutation, IsSorted}
use Rattle.std.specs.Ordering.{is_lt}
use Rattle.std.specs.declared.cmp.Ordering.{Ordering}
use Rattle.std.specs.declared.cmp.Ordering.TheVariants.{Less, Equal, Greater}
use Rattle.std.proofs.lemmas.Bool.{eqb-true, eq-eqb}
use Rattle.std.proofs.lemmas.List.{length-map, map-append, get_or-map, get_or_default}
use Rattle.std.proofs.lemmas.List.Sorted.{All-permutation, Contains-permutation, sum_by-IsPermutation}
use Rattle.std.proofs.lemmas.List.Sums.{sum_by-cons}
use Rattle.cgs_list.proofs.ListLemmas.{all_append, all_at_place, all_weaker}
use Rattle.cgs_exps.proofs.MonomialLemmas.{lcm_length}
use Rattle.cgs_order.specs.declared.block.BlockOrder.{BlockOrder}
use Rattle.cgs_pairs.specs.declared.pair.Pair.{Pair}
use Rattle.cgs_pairs.specs.declared.rank.Rank.{Rank}
use Rattle.cgs_pairs.specs.PairOrder.{pair_compared, IsAscending}
use Rattle.cgs_pairs.specs.Rank.{IsRankOf}
use Rattle.cgs_pairs.specs.Runs.{pair_at, pairs_at, AreLeads, IsRun, AreRanks}
use Rattle.cgs_pairs.specs.Unpassed.{is_ever_passed, Ascend, AreEnough}
use Rattle.cgs_pairs.proofs.QueueLemmas.{pair_same, pair_back, ranks_compared, ranked_compared}
use Rattle.cgs_pairs.proofs.RunLemmas.{lead_places}

some_rank : (ranks : List Rank) → 0 < length ranks → Rank
some_rank [] l = absurd (omega arith)
some_rank (r ∷ ranks) l = r

-- ranks with one smaller place

abbrev has_place : ℕ → Rank → ℕ
has_place i r = cond (r.smaller == i) 1 0

abbrev times : ℕ → List Rank → ℕ
times i ranks = sum_by (has_place i) ranks

here_once : (i : ℕ) (r : Rank) → r.smaller ≡ i → has_place i r ≡ 1
here_once i r e = ap (λ b. cond b 1 0) (eq-eqb r.smaller i e)

not_here : (i : ℕ) (r : Rank) → (r.smaller ≡ i → ⊥) → has_place i r ≡ 0
not_here i r n = by_test (r.smaller == i) refl
  where
    by_test : (b : Bool) → (r.smaller == i) ≡ b → ◌≡◌ {A = ℕ} (cond b 1 0) 0
    by_test true e = absurd (n (eqb-true r.smaller i e))
    by_test false e = refl

none_above : (ranks : List Rank) (i : ℕ) → AllByRecursion (λ k. i < k) (map (λ (r : Rank). r.smaller) ranks) → times i ranks ≡ 0
none_above [] i all = refl
none_above (r ∷ ranks) i all =
    let first : i < r.smaller = all.0 in
    let a = not_here i r (λ e. omega (arith, first, e)) in
    let b = none_above ranks i all.1 in
    omega (arith, sum_by-cons (has_place i) r ranks, a, b)

-- of ascending places none stands twice
once : (ranks : List Rank) (i : ℕ) → Ascend (map (λ (r : Rank). r.smaller) ranks) → times i ranks ≤ 1
once [] i a = omega arith
once (r ∷ ranks) i a = by_test (r.smaller == i) refl (once ranks i a.1)
  where
    by_test : (b : Bool) → (r.smaller == i) ≡ b → times i ranks ≤ 1 → times i (r ∷ ranks) ≤ 1
    by_test true e ih =
        let s : r.smaller ≡ i = eqb-true r.smaller i e in
        let none = none_above ranks i (subst (λ n. AllByRecursion (λ k. n < k) (map (λ (x : Rank). x.smaller) ranks)) s a.0) in
        omega (arith, sum_by-cons (has_place i) r ranks, here_once i r s, none)
    by_test false e ih = let z : has_place i r ≡ 0 = ap (λ b. cond b 1 0) e in omega (arith, sum_by-cons (has_place i) r ranks, z, ih)

module _ (order : BlockOrder) (leads : List (List ℕ)) (larger : ℕ) where
  abbrev IsRanked : Rank → Type 0
  IsRanked r = IsRankOf order (pair_at leads larger r.smaller) r

  pub ranks_more : (places : List ℕ) (ranks : List Rank) (n : ℕ) (r : Rank) → AreRanks order leads larger places ranks
      → IsRankOf order (pair_at leads larger n) r → AreRanks order leads larger (places ++ n ∷ []) (ranks ++ r ∷ [])
  ranks_more places ranks n r h is =
      let place : r.smaller ≡ n = is.smaller in
      record {
        smaller = map-append (λ (x : Rank). x.smaller) ranks (r ∷ []) ∙ rw (h.smaller, place) refl;
        each = all_append IsRanked ranks (r ∷ []) h.each (subst (λ i. IsRankOf order (pair_at leads larger i) r) (sym place) is, tt);
      }

  module _ (right : AreLeads order leads) (within : larger < length leads) where
    -- the rank of a pair with a place before
    record IsOne (r : Rank) : Type 0 where
      rank : IsRankOf order (pair_at leads larger r.smaller) r
      below : r.smaller < larger

    alike : (r s : Rank) → IsOne r → IsOne s → ranks_compared r s ≡ pair_compared order (pair_at leads larger r.smaller) (pair_at leads larger s.smaller)
    alike r s h k = ranked_compared order r s (pair_at leads larger r.smaller) (pair_at leads larger s.smaller) h.rank k.rank

    pair_long : (r : Rank) → IsOne r → length (pair_at leads larger r.smaller).lcm ≡ order.head + order.tail
    pair_long r h =
        lcm_length (get_or leads r.smaller []) (get_or leads larger []) (order.head + order.tail)
        (lead_places order leads right r.smaller (let k = h.below in omega arith)).0 (lead_places order leads right larger within).0

    -- no rank is below the one before it, and none stands twice, so each is above it
    next_above : (r s : Rank) (ranks : List Rank) → IsOne r → IsOne s → is_lt (ranks_compared s r) ≡ false → times r.smaller (r ∷ s ∷ ranks) ≤ 1
        → pair_compared order (pair_at leads larger r.smaller) (pair_at leads larger s.smaller) ≡ Less
    next_above r s ranks h k n o = by_order (pair_compared order (pair_at leads larger r.smaller) (pair_at leads larger s.smaller)) refl
      where
        by_order : (c : Ordering) → pair_compared order (pair_at leads larger r.smaller) (pair_at leads larger s.smaller) ≡ c
            → pair_compared order (pair_at leads larger r.smaller) (pair_at leads larger s.smaller) ≡ Less
        by_order Less e = e
        by_order Equal e =
            let same = pair_same order (pair_at leads larger r.smaller) (pair_at leads larger s.smaller) (pair_long r h ∙ sym (pair_long s k)) e in
            let place : r.smaller ≡ s.smaller = ap (λ (q : Pair). q.smaller) same in
            absurd (omega (
              arith,
              o,
              sum_by-cons (has_place r.smaller) r (s ∷ ranks),
              sum_by-cons (has_place r.smaller) s ranks,
              here_once r.smaller r refl,
              here_once r.smaller s (sym place),
            ))
        by_order Greater e =
            let back = alike s r k h ∙ pair_back order (pair_at leads larger r.smaller) (pair_at leads larger s.smaller) e in
            let t : is_lt (ranks_compared s r) ≡ true = ap is_lt back in
            absurd (cc)

    ascending_ranks : (ranks : List Rank) → All IsOne ranks → IsSorted ranks_compared ranks → ((i : ℕ) → times i ranks ≤ 1)
        → IsAscending order (pairs_at leads larger (map (λ r. r.smaller) ranks))
    ascending_ranks [] all h o = tt
    ascending_ranks (r ∷ []) all h o = tt
    ascending_ranks (r ∷ s ∷ ranks) all h o = (
      next_above r s ranks (all 0 r (omega arith)) (all 1 r (omega arith)) (h 0 r (omega arith) (omega arith)) (o r.smaller),
      ascending_ranks (s ∷ ranks) (λ k d l. all (suc k) d (omega arith))
          (λ k d z l.
          let e : suc k + 1 ≡ suc (k + 1) = omega arith in
          subst (λ n. is_lt (ranks_compared (get_or (r ∷ s ∷ ranks) n d) (get_or (s ∷ ranks) k d)) ≡ false) e (h (suc k) d (omega arith) (omega arith)))
          (λ i. omega (arith, o i, sum_by-cons (has_place i) r (s ∷ ranks))),
    )

    places_below : (ranks : List Rank) → All IsOne ranks → AllByRecursion (λ i. i < larger) (map (λ r. r.smaller) ranks)
    places_below [] all = tt
    places_below (r ∷ ranks) all = ((all 0 r (omega arith)).below, places_below ranks (λ k d l. all (suc k) d (omega arith)))

    ones : (ranks : List Rank) → AllByRecursion IsRanked ranks → AllByRecursion (λ i. i < larger) (map (λ (r : Rank). r.smaller) ranks)
        → AllByRecursion IsOne ranks
    ones [] all below = tt
    ones (r ∷ ranks) all below = (record { rank = all.0; below = below.0 }, ones ranks all.1 below.1)

    module _ (queued : List ℕ) (ranks ordered : List Rank) (h : AreRanks order leads larger queued ranks)
        (below : AllByRecursion (λ i. i < larger) queued) (same : IsPermutation ranks ordered) where
      abbrev places : List ℕ
      places = map (λ (r : Rank). r.smaller) ordered

      all_ones : All IsOne ordered
      all_ones = All-permutation IsOne ranks ordered same (λ k d l.
          all_at_place IsOne d ranks (ones ranks h.each (subst (λ is. AllByRecursion (λ i. i < larger) is) (sym h.smaller) below)) k l)

      kept : (i : ℕ) → Contains queued i → Contains places i
      kept i c =
          let long : length ranks ≡ length queued = sym (length-map ranks (λ (r : Rank). r.smaller)) ∙ ap length h.smaller in
          let within : c.0 < length ranks = omega (arith, long, c.1) in
          let first : 0 < length ranks = omega (arith, within) in
          let x : Rank = get_or ranks c.0 (some_rank ranks first) in
          let place : x.smaller ≡ i =
          sym (get_or-map (λ (r : Rank). r.smaller) ranks c.0 (some_rank ranks first) i within) ∙ (ap (λ is. get_or is c.0 i) h.smaller ∙ c.2) in
          let there = Contains-permutation ranks ordered x same (c.0, within, get_or_default ranks c.0 x (some_rank ranks first) within) in
          let k : ℕ = there.0 in (
            k,
            omega (arith, there.1, length-map ordered (λ (r : Rank). r.smaller)),
            get_or-map (λ (r : Rank). r.smaller) ordered k x i there.1 ∙ (ap (λ (r : Rank). r.smaller) there.2 ∙ place),
          )

      pub enough_places : AreEnough order leads larger queued → AreEnough order leads larger places
      enough_places e = record {
        below = places_below ordered all_ones;
        each = λ i l. elim (e.each i l) as (λ _. Contains places i ⊎ (is_ever_passed order leads (pair_at leads larger i) ≡ true)) [
          | inl c ↦ inl (kept i c)
          | inr p ↦ inr p
        ];
      }

      pub sorted_run : Ascend queued → IsSorted ranks_compared ordered → IsRun order leads larger places
      sorted_run a s = record {
        within = all_weaker (λ i. i < larger) (λ i. i < length leads) places (places_below ordered all_ones) (λ i l. omega arith);
        ascending = ascending_ranks ordered all_ones s (λ i.
            let o = once ranks i (subst (λ is. Ascend is) (sym h.smaller) a) in
            omega (arith, o, sum_by-IsPermutation (has_place i) ranks ordered same));
      }
