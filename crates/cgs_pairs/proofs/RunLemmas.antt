-- The runs of a queue: what waits in them, a run that is put among others, and the least of all pairs.
use Rattle.std.proofs.Common.{ℕ, zero, suc, take, zero-add, ◌≡◌, ◌+◌, ◌<◌, ◌≤◌, ◌⊎◌, inl, inr, true, false, List, [], ◌∷◌, ◌++◌, length, get_or, refl, sym}
use Rattle.std.proofs.Common.{ap, ◌∙◌, subst, arith}
use Rattle.std.specs.BTreeMap.{insert_entry}
use Rattle.std.specs.List.{All, AllByRecursion}
use Rattle.std.specs.Map.{keys_of}
use Rattle.std.specs.Ordering.{nat_cmp, match_ordering, ordering_then}
use Rattle.std.specs.Cmp.Lexicographic.{slice_cmp}
use Rattle.std.specs.declared.cmp.Ordering.{Ordering}
use Rattle.std.specs.declared.cmp.Ordering.TheVariants.{Less, Equal, Greater}
use Rattle.std.proofs.lemmas.List.{length-append, length-take, get_or-take, get_or_append_left}
use Rattle.std.proofs.Math.Seq.{get_or-append_seam, take-append_seam}
use Rattle.cgs_list.proofs.ListLemmas.{all_at_place, all_take, all_weaker}
use Rattle.cgs_exps.specs.Monomial.{lcm}
use Rattle.cgs_exps.proofs.MonomialLemmas.{lcm_length}
use Rattle.cgs_order.specs.declared.block.BlockOrder.{BlockOrder}
use Rattle.cgs_order.proofs.OrderLemmas.{nat_cmp_equal}
use Rattle.cgs_pairs.specs.declared.pair.Pair.{Pair}
use Rattle.cgs_pairs.specs.declared.rank.Rank.{Rank}
use Rattle.cgs_pairs.specs.declared.runs.Run.{Run}
use Rattle.cgs_pairs.specs.PairOrder.{pair, pair_compared, with_pairs, IsWaiting, IsAscending, HavePlaces, IsQueue}
use Rattle.cgs_pairs.specs.Rank.{IsRankOf}
use Rattle.cgs_pairs.specs.Runs.{pair_at, pairs_at, pairs_of, pairs_in, sorted, AreLeads, IsRun, IsEntry, IsFresh, AreApart, AreRuns}
use Rattle.cgs_pairs.specs.Unpassed.{is_ever_passed, unpassed, AreEnough}
use Rattle.cgs_pairs.proofs.UnpassedLemmas.{unpassed_from, unpassed_into, unpassed_ascending, unpassed_places, unpassed_before}
use Rattle.cgs_pairs.proofs.QueueLemmas.{both_equal, pair_total, below_others, same_pairs, sorted_from, sorted_into, sorted_ascending}
use Rattle.cgs_pairs.proofs.QueueLemmas.{ranks_compared, ranked_compared, least_first, with_pairs_ascending, sorted_places}
use Rattle.cgs_pairs.proofs.PairLemmas.{pairs_here, pairs_kept, pairs_from}

-- what waits in two lists

pub waiting_left : (q : Pair) (a b : List Pair) → IsWaiting q a → IsWaiting q (a ++ b)
waiting_left q [] b w = absurd w
waiting_left q (x ∷ a) b (inl e) = inl e
waiting_left q (x ∷ a) b (inr w) = inr (waiting_left q a b w)

pub waiting_right : (q : Pair) (a b : List Pair) → IsWaiting q b → IsWaiting q (a ++ b)
waiting_right q [] b w = w
waiting_right q (x ∷ a) b w = inr (waiting_right q a b w)

pub waiting_either : (q : Pair) (a b : List Pair) → IsWaiting q (a ++ b) → IsWaiting q a ⊎ IsWaiting q b
waiting_either q [] b w = inr w
waiting_either q (x ∷ a) b (inl e) = inl (inl e)
waiting_either q (x ∷ a) b (inr w) = elim (waiting_either q a b w) as (λ _. IsWaiting q (x ∷ a) ⊎ IsWaiting q b) [ inl v ↦ inl (inr v) | inr v ↦ inr v ]

places_both : (order : BlockOrder) (a b : List Pair) → HavePlaces order a → HavePlaces order b → HavePlaces order (a ++ b)
places_both order [] b p q = q
places_both order (x ∷ a) b p q = (p.0, places_both order a b p.1 q)

-- the pairs of one place

pub larger_is : (leads : List (List ℕ)) (larger : ℕ) (places : List ℕ) (q : Pair) → IsWaiting q (pairs_at leads larger places) → q.larger ≡ larger
larger_is leads larger [] q w = absurd w
larger_is leads larger (i ∷ places) q (inl e) = ap (λ (p : Pair). p.larger) e
larger_is leads larger (i ∷ places) q (inr w) = larger_is leads larger places q w

module _ (order : BlockOrder) (leads : List (List ℕ)) (right : AreLeads order leads) where
  pub lead_places : (i : ℕ) → i < length leads → (length (get_or leads i []) ≡ order.head + order.tail) × (length (get_or leads i []) ≤ 17)
  lead_places i l = all_at_place (λ (m : List ℕ). (length m ≡ order.head + order.tail) × (length m ≤ 17)) [] leads right i l

  pub run_places : (larger : ℕ) (places : List ℕ) → larger < length leads → AllByRecursion (λ i. i < length leads) places
      → HavePlaces order (pairs_at leads larger places)
  run_places larger [] l all = tt
  run_places larger (i ∷ places) l all = (
    lcm_length (get_or leads i []) (get_or leads larger []) (order.head + order.tail) (lead_places i all.0).0 (lead_places larger l).0,
    run_places larger places l all.1,
  )

  pub runs_places : (runs : List (Rank × Run)) → AllByRecursion (IsEntry order leads) runs → HavePlaces order (pairs_in leads runs)
  runs_places [] all = tt
  runs_places (e ∷ runs) all =
      places_both order (pairs_of leads e) (pairs_in leads runs)
      (run_places e.0.larger (e.0.smaller ∷ e.1.places.items) all.0.within all.0.run.within) (runs_places runs all.1)

  -- lists with the same pairs, in the order in which they are taken
  pub sorted_same : (a b : List Pair) → HavePlaces order a → HavePlaces order b → ((q : Pair) → IsWaiting q a → IsWaiting q b)
      → ((q : Pair) → IsWaiting q b → IsWaiting q a) → sorted order a ≡ sorted order b
  sorted_same a b p r f g =
      same_pairs order (sorted order a) (sorted order b) (sorted_ascending order a) (sorted_ascending order b)
      (λ q w. sorted_into order q b r (f q (sorted_from order q a w))) (λ q w. sorted_into order q a p (g q (sorted_from order q b w)))

  -- a run put among others

  module _ (rank : Rank) (run : Run) (new : IsEntry order leads (rank, run)) where
    abbrev inserted : List (Rank × Run) → List (Rank × Run)
    inserted runs = insert_entry ranks_compared runs rank run

    record IsInserted (runs now : List (Rank × Run)) : Type 0 where
      from : (q : Pair) → IsWaiting q (pairs_in leads now) → IsWaiting q (pairs_of leads (rank, run)) ⊎ IsWaiting q (pairs_in leads runs)
      here : (q : Pair) → IsWaiting q (pairs_of leads (rank, run)) → IsWaiting q (pairs_in leads now)
      kept : (q : Pair) → IsWaiting q (pairs_in leads runs) → IsWaiting q (pairs_in leads now)
      entries : AllByRecursion (IsEntry order leads) now
      fresh : (n : ℕ) → ¬ (rank.larger ≡ n) → IsFresh n runs → IsFresh n now
      apart : AreApart now

    in_front : (runs : List (Rank × Run)) → AreRuns order leads runs → IsFresh rank.larger runs → IsInserted runs ((rank, run) ∷ runs)
    in_front runs h f = record {
      from = λ q w. waiting_either q (pairs_of leads (rank, run)) (pairs_in leads runs) w;
      here = λ q w. waiting_left q (pairs_of leads (rank, run)) (pairs_in leads runs) w;
      kept = λ q w. waiting_right q (pairs_of leads (rank, run)) (pairs_in leads runs) w;
      entries = (new, h.entries);
      fresh = λ n d g. (d, g);
      apart = (f, h.apart);
    }

    behind : (e : Rank × Run) (runs now : List (Rank × Run)) → AreRuns order leads (e ∷ runs) → ¬ (e.0.larger ≡ rank.larger)
        → IsInserted runs now → IsInserted (e ∷ runs) (e ∷ now)
    behind e runs now h d k = record {
      from = λ q w. elim (waiting_either q (pairs_of leads e) (pairs_in leads now) w) as (λ _.
          IsWaiting q (pairs_of leads (rank, run)) ⊎ IsWaiting q (pairs_of leads e ++ pairs_in leads runs)) [
            | inl v ↦ inr (waiting_left q (pairs_of leads e) (pairs_in leads runs) v)
            | inr v ↦ elim (k.from q v) as (λ _. IsWaiting q (pairs_of leads (rank, run)) ⊎ IsWaiting q (pairs_of leads e ++ pairs_in leads runs)) [
              | inl u ↦ inl u
              | inr u ↦ inr (waiting_right q (pairs_of leads e) (pairs_in leads runs) u)
            ]
          ];
      here = λ q w. waiting_right q (pairs_of leads e) (pairs_in leads now) (k.here q w);
      kept = λ q w. elim (waiting_either q (pairs_of leads e) (pairs_in leads runs) w) as (λ _. IsWaiting q (pairs_of leads e ++ pairs_in leads now)) [
        | inl v ↦ waiting_left q (pairs_of leads e) (pairs_in leads now) v
        | inr v ↦ waiting_right q (pairs_of leads e) (pairs_in leads now) (k.kept q v)
      ];
      entries = (h.entries.0, k.entries);
      fresh = λ n c g. (g.0, k.fresh n c g.1);
      apart = (k.fresh e.0.larger (λ s. d (sym s)) h.apart.0, k.apart);
    }

    insertion : (runs : List (Rank × Run)) → AreRuns order leads runs → IsFresh rank.larger runs → IsInserted runs (inserted runs)
    insertion [] h f = in_front [] h f
    insertion (e ∷ runs) h f =
        by_order (ranks_compared rank e.0) refl (insertion runs (record { entries = h.entries.1; apart = h.apart.1 }) f.1)
      where
        by_order : (o : Ordering) → ranks_compared rank e.0 ≡ o → IsInserted runs (inserted runs)
            → IsInserted (e ∷ runs) (match_ordering o ((rank, run) ∷ e ∷ runs) ((e.0, run) ∷ runs) (e ∷ inserted runs))
        by_order Less s k = in_front (e ∷ runs) h f
        by_order Equal s k =
            let x = both_equal (slice_cmp nat_cmp rank.key.items e.0.key.items)
            (ordering_then (nat_cmp rank.larger e.0.larger) (nat_cmp rank.smaller e.0.smaller)) s in
            let y = both_equal (nat_cmp rank.larger e.0.larger) (nat_cmp rank.smaller e.0.smaller) x.1 in
            absurd (f.0 (sym (nat_cmp_equal rank.larger e.0.larger y.0)))
        by_order Greater s k = behind e runs (inserted runs) h f.0 k

    inserted_sorted : (runs : List (Rank × Run)) → AreRuns order leads runs → IsFresh rank.larger runs
        → sorted order (pairs_in leads (inserted runs)) ≡ sorted order (pairs_of leads (rank, run) ++ pairs_in leads runs)
    inserted_sorted runs h f =
        let k = insertion runs h f in
        sorted_same (pairs_in leads (inserted runs)) (pairs_of leads (rank, run) ++ pairs_in leads runs) (runs_places (inserted runs) k.entries)
        (runs_places ((rank, run) ∷ runs) (new, h.entries))
        (λ q w. elim (k.from q w) as (λ _. IsWaiting q (pairs_of leads (rank, run) ++ pairs_in leads runs)) [
          | inl v ↦ waiting_left q (pairs_of leads (rank, run)) (pairs_in leads runs) v
          | inr v ↦ waiting_right q (pairs_of leads (rank, run)) (pairs_in leads runs) v
        ])
        (λ q w. elim (waiting_either q (pairs_of leads (rank, run)) (pairs_in leads runs) w) as (λ _. IsWaiting q (pairs_in leads (inserted runs))) [
          | inl v ↦ k.here q v
          | inr v ↦ k.kept q v
        ])

  module _ (larger smaller : ℕ) (rank : Rank) (run : Run) (is : IsRankOf order (pair_at leads larger smaller) rank) (within : larger < length leads)
      (ordered : IsRun order leads larger (smaller ∷ run.places.items)) where
    -- what holds of the places holds of the rank's
    moved : (P : ℕ → ℕ → Type 0) → P larger smaller → P rank.larger rank.smaller
    moved P h = subst (λ n. P n rank.smaller) (sym is.larger) (subst (λ n. P larger n) (sym is.smaller) h)

    new_entry : IsEntry order leads (rank, run)
    new_entry = record {
      within = subst (λ n. n < length leads) (sym is.larger) within;
      rank = moved (λ l s. IsRankOf order (pair_at leads l s) rank) is;
      run = moved (λ l s. IsRun order leads l (s ∷ run.places.items)) ordered;
    }

    still_fresh : (runs : List (Rank × Run)) → IsFresh larger runs → IsFresh rank.larger runs
    still_fresh runs f = subst (λ n. IsFresh n runs) (sym is.larger) f

    pub put_runs : (runs : List (Rank × Run)) → AreRuns order leads runs → IsFresh larger runs
        → AreRuns order leads (insert_entry ranks_compared runs rank run)
    put_runs runs h f = let k = insertion rank run new_entry runs h (still_fresh runs f) in record { entries = k.entries; apart = k.apart }

    pub put_sorted : (runs : List (Rank × Run)) → AreRuns order leads runs → IsFresh larger runs
        → sorted order (pairs_in leads (insert_entry ranks_compared runs rank run))
        ≡ sorted order (pairs_at leads larger (smaller ∷ run.places.items) ++ pairs_in leads runs)
    put_sorted runs h f =
        inserted_sorted rank run new_entry runs h (still_fresh runs f)
        ∙ sym (moved (λ l s. sorted order (pairs_at leads larger (smaller ∷ run.places.items) ++ pairs_in leads runs)
        ≡ sorted order (pairs_at leads l (s ∷ run.places.items) ++ pairs_in leads runs)) refl)

  -- the least of all pairs

  least_of_runs : (rank : Rank) (x : Pair) → IsRankOf order x rank → (runs : List (Rank × Run)) → AllByRecursion (IsEntry order leads) runs
      → AllByRecursion (λ e. ranks_compared rank e.0 ≡ Less) runs → (q : Pair) → IsWaiting q (pairs_in leads runs) → pair_compared order x q ≡ Less
  least_of_runs rank x h [] all below q w = absurd w
  least_of_runs rank x h (e ∷ runs) all below q w =
      by_part (waiting_either q (pairs_of leads e) (pairs_in leads runs) w) (λ v. least_of_runs rank x h runs all.1 below.1 q v)
    where
      least : pair_compared order x (pair_at leads e.0.larger e.0.smaller) ≡ Less
      least = sym (ranked_compared order rank e.0 x (pair_at leads e.0.larger e.0.smaller) h all.0.rank) ∙ below.0

      by_part : IsWaiting q (pairs_of leads e) ⊎ IsWaiting q (pairs_in leads runs) → (IsWaiting q (pairs_in leads runs) → pair_compared order x q ≡ Less)
          → pair_compared order x q ≡ Less
      by_part (inl (inl s)) ih = subst (λ p. pair_compared order x p ≡ Less) (sym s) least
      by_part (inl (inr v)) ih =
          (pair_total order).trans x (pair_at leads e.0.larger e.0.smaller) q least
          (below_others order (pair_at leads e.0.larger e.0.smaller) (pairs_at leads e.0.larger e.1.places.items) all.0.run.ascending q v)
      by_part (inr v) ih = ih v

  pub taken_first : (e : Rank × Run) (runs : List (Rank × Run)) → AllByRecursion (IsEntry order leads) (e ∷ runs)
      → AllByRecursion (λ o. ranks_compared e.0 o.0 ≡ Less) runs
      → sorted order (pairs_in leads (e ∷ runs))
      ≡ pair_at leads e.0.larger e.0.smaller ∷ sorted order (pairs_at leads e.0.larger e.1.places.items ++ pairs_in leads runs)
  taken_first e runs all below =
      let x : Pair = pair_at leads e.0.larger e.0.smaller in
      let others : List Pair = pairs_at leads e.0.larger e.1.places.items in
      least_first order x (others ++ pairs_in leads runs)
      (λ q w. elim (waiting_either q others (pairs_in leads runs) w) as (λ _. pair_compared order x q ≡ Less) [
        | inl v ↦ below_others order x others all.0.run.ascending q v
        | inr v ↦ least_of_runs e.0 x all.0.rank runs all.1 below q v
      ])

-- a lead put at the end

module _ (leads : List (List ℕ)) (m : List ℕ) where
  lead_same : (i : ℕ) → i < length leads → get_or (leads ++ m ∷ []) i [] ≡ get_or leads i []
  lead_same i l = get_or_append_left leads (m ∷ []) [] i l

  pairs_same : (larger : ℕ) (places : List ℕ) → larger < length leads → AllByRecursion (λ i. i < length leads) places
      → pairs_at (leads ++ m ∷ []) larger places ≡ pairs_at leads larger places
  pairs_same larger [] l all = refl
  pairs_same larger (i ∷ places) l all = rw (lead_same i all.0, lead_same larger l, pairs_same larger places l all.1) refl

  pub runs_same : (order : BlockOrder) (runs : List (Rank × Run)) → AllByRecursion (IsEntry order leads) runs
      → pairs_in (leads ++ m ∷ []) runs ≡ pairs_in leads runs
  runs_same order [] all = refl
  runs_same order (e ∷ runs) all =
      ap (λ ps. ps ++ pairs_in (leads ++ m ∷ []) runs) (pairs_same e.0.larger (e.0.smaller ∷ e.1.places.items) all.0.within all.0.run.within)
      ∙ ap (λ ps. pairs_of leads e ++ ps) (runs_same order runs all.1)

  more : (i : ℕ) → i < length leads → i < length (leads ++ m ∷ [])
  more i l = omega (arith, length-append leads (m ∷ []))

  more_all : (places : List ℕ) → AllByRecursion (λ i. i < length leads) places → AllByRecursion (λ i. i < length (leads ++ m ∷ [])) places
  more_all [] all = tt
  more_all (i ∷ places) all = (more i all.0, more_all places all.1)

  entry_more : (order : BlockOrder) (e : Rank × Run) → IsEntry order leads e → IsEntry order (leads ++ m ∷ []) e
  entry_more order e h =
      let s = pairs_same e.0.larger (e.0.smaller ∷ e.1.places.items) h.within h.run.within in
      record {
        within = more e.0.larger h.within;
        rank = subst (λ n. IsRankOf order (pair (lcm n (get_or (leads ++ m ∷ []) e.0.larger [])) e.0.larger e.0.smaller) e.0)
            (sym (lead_same e.0.smaller h.run.within.0))
            (subst (λ n. IsRankOf order (pair (lcm (get_or leads e.0.smaller []) n) e.0.larger e.0.smaller) e.0) (sym (lead_same e.0.larger h.within)) h.rank);
        run = record {
          within = more_all (e.0.smaller ∷ e.1.places.items) h.run.within;
          ascending = subst (λ ps. IsAscending order ps) (sym s) h.run.ascending;
        };
      }

  entries_more : (order : BlockOrder) (runs : List (Rank × Run)) → AllByRecursion (IsEntry order leads) runs
      → AllByRecursion (IsEntry order (leads ++ m ∷ [])) runs
  entries_more order [] all = tt
  entries_more order (e ∷ runs) all = (entry_more order e all.0, entries_more order runs all.1)

  pub runs_more : (order : BlockOrder) (runs : List (Rank × Run)) → AreRuns order leads runs → AreRuns order (leads ++ m ∷ []) runs
  runs_more order runs h = record { entries = entries_more order runs h.entries; apart = h.apart }

-- the pairs of a place with those before it, of which some that are passed are left out

all_long : (order : BlockOrder) (leads : List (List ℕ)) → AreLeads order leads → AllByRecursion (λ (m : List ℕ). length m ≡ order.head + order.tail) leads
all_long order leads right =
    all_weaker (λ (m : List ℕ). (length m ≡ order.head + order.tail) × (length m ≤ 17))
    (λ (m : List ℕ). length m ≡ order.head + order.tail) leads right (λ m p. p.0)

below_larger : (leads : List (List ℕ)) (larger : ℕ) (runs : List (Rank × Run)) → AllByRecursion (λ e. e.0.larger < larger) runs
    → (q : Pair) → IsWaiting q (pairs_in leads runs) → q.larger < larger
below_larger leads larger [] all q w = absurd w
below_larger leads larger (e ∷ runs) all q w =
    elim (waiting_either q (pairs_of leads e) (pairs_in leads runs) w) as (λ _. q.larger < larger) [
      | inl v ↦ let is = larger_is leads e.0.larger (e.0.smaller ∷ e.1.places.items) q v in let l = all.0 in omega (arith, is, l)
      | inr v ↦ below_larger leads larger runs all.1 q v
    ]

place_of : (leads : List (List ℕ)) (larger : ℕ) (places : List ℕ) → AllByRecursion (λ i. i < larger) places → (q : Pair)
    → IsWaiting q (pairs_at leads larger places) → (i : ℕ) × (i < larger) × (q ≡ pair_at leads larger i)
place_of leads larger [] all q w = absurd w
place_of leads larger (i ∷ places) all q (inl e) = (i, all.0, e)
place_of leads larger (i ∷ places) all q (inr w) = place_of leads larger places all.1 q w

at_place : (leads : List (List ℕ)) (larger : ℕ) (places : List ℕ) (k d : ℕ) → k < length places
    → IsWaiting (pair_at leads larger (get_or places k d)) (pairs_at leads larger places)
at_place leads larger [] k d l = absurd (omega arith)
at_place leads larger (i ∷ places) zero d l = inl refl
at_place leads larger (i ∷ places) (suc k) d l = inr (at_place leads larger places k d (omega arith))

module _ (order : BlockOrder) (leads : List (List ℕ)) (right : AreLeads order leads) (larger : ℕ) (within : larger < length leads) (places : List ℕ)
    (run : IsRun order leads larger places) (all : AreEnough order leads larger places) (runs : List (Rank × Run)) (h : AreRuns order leads runs)
    (below : AllByRecursion (λ e. e.0.larger < larger) runs) where
  abbrev new_pairs : List Pair
  new_pairs = pairs_at leads larger places

  abbrev old_pairs : List Pair
  old_pairs = pairs_in leads runs

  abbrev before : List (List ℕ)
  before = take larger leads

  abbrev with_new_pairs : List Pair
  with_new_pairs = with_pairs order (get_or leads larger []) larger 0 (take larger leads) (sorted order (pairs_in leads runs))

  old_places : HavePlaces order old_pairs
  old_places = runs_places order leads right runs h.entries

  both_places : HavePlaces order (new_pairs ++ old_pairs)
  both_places = places_both order new_pairs old_pairs (run_places order leads right larger places within run.within) old_places

  same_pair : (i : ℕ) → i < larger → pair (lcm (get_or before i []) (get_or leads larger [])) larger (0 + i) ≡ pair_at leads larger i
  same_pair i l = rw (get_or-take larger leads i [] l, zero-add i) refl

  forth : (q : Pair) → IsWaiting q (sorted order (new_pairs ++ old_pairs)) → IsWaiting q with_new_pairs
  forth q w = elim (waiting_either q new_pairs old_pairs (sorted_from order q (new_pairs ++ old_pairs) w)) as (λ _.
      IsWaiting q with_new_pairs) [
        | inl v ↦
            let p = place_of leads larger places all.below q v in
            let l : p.0 < length before = omega (arith, p.1, length-take larger leads) in
            subst (λ x. IsWaiting x with_new_pairs) (same_pair p.0 p.1 ∙ sym p.2)
            (pairs_here order (get_or leads larger []) larger 0 before (sorted order old_pairs) p.0 l)
        | inr v ↦ pairs_kept order (get_or leads larger []) larger 0 before (sorted order old_pairs) q (sorted_into order q old_pairs old_places v)
      ]

  back : (q : Pair) → is_ever_passed order leads q ≡ false → IsWaiting q with_new_pairs → IsWaiting q (sorted order (new_pairs ++ old_pairs))
  back q n w = sorted_into order q (new_pairs ++ old_pairs) both_places
      (elim (pairs_from order (get_or leads larger []) larger 0 before (sorted order old_pairs) q w) as (λ _. IsWaiting q (new_pairs ++ old_pairs)) [
        | inl (k, l, e) ↦
            let m : k < larger = omega (arith, l, length-take larger leads) in
            let is : pair_at leads larger k ≡ q = sym (same_pair k m) ∙ sym e in
            elim (all.each k m) as (λ _. IsWaiting q (new_pairs ++ old_pairs)) [
              | inl c ↦
                  let at : pair_at leads larger (get_or places c.0 k) ≡ q = ap (λ i. pair_at leads larger i) c.2 ∙ is in
                  waiting_left q new_pairs old_pairs (subst (λ x. IsWaiting x new_pairs) at (at_place leads larger places c.0 k c.1))
              | inr p ↦ let t : is_ever_passed order leads q ≡ true = ap (λ x. is_ever_passed order leads x) (sym is) ∙ p in absurd (cc)
            ]
        | inr v ↦ waiting_right q new_pairs old_pairs (sorted_from order q old_pairs v)
      ])

  pub enough_put : unpassed order leads (sorted order (new_pairs ++ old_pairs)) ≡ unpassed order leads with_new_pairs
  enough_put =
      same_pairs order (unpassed order leads (sorted order (new_pairs ++ old_pairs))) (unpassed order leads with_new_pairs)
      (unpassed_ascending order leads (sorted order (new_pairs ++ old_pairs)) (sorted_ascending order (new_pairs ++ old_pairs)))
      (unpassed_ascending order leads with_new_pairs
      (with_pairs_ascending order (get_or leads larger []) larger 0 before (sorted order old_pairs) (lead_places order leads right larger within).0
      (all_take (λ (m : List ℕ). length m ≡ order.head + order.tail) larger leads (all_long order leads right))
      (sorted_ascending order old_pairs) (sorted_places order old_pairs old_places)
      (λ q w. inl (below_larger leads larger runs below q (sorted_from order q old_pairs w)))))
      (λ q w.
      let u = unpassed_from order leads q (sorted order (new_pairs ++ old_pairs)) w in
      unpassed_into order leads q with_new_pairs (forth q u.0) u.1)
      (λ q w.
      let u = unpassed_from order leads q with_new_pairs w in
      unpassed_into order leads q (sorted order (new_pairs ++ old_pairs)) (back q u.1 u.0) u.1)

pub fresh_place : (larger : ℕ) (runs : List (Rank × Run)) → AllByRecursion (λ e. e.0.larger < larger) runs → IsFresh larger runs
fresh_place larger [] all = tt
fresh_place larger (e ∷ runs) all = ((λ s. let l = all.0 in omega (arith, l, s)), fresh_place larger runs all.1)

-- the pairs that wait are those of places that there are

run_within : (leads : List (List ℕ)) (larger : ℕ) (places : List ℕ) → larger < length leads → AllByRecursion (λ i. i < length leads) places → (q : Pair)
    → IsWaiting q (pairs_at leads larger places) → (q.smaller < length leads) × (q.larger < length leads)
run_within leads larger [] l all q w = absurd w
run_within leads larger (i ∷ places) l all q (inl e) = (
  let s : q.smaller ≡ i = ap (λ (p : Pair). p.smaller) e in
      let k = all.0 in
      omega (arith, s, k),
  let s : q.larger ≡ larger = ap (λ (p : Pair). p.larger) e in
      omega (arith, s, l),
)
run_within leads larger (i ∷ places) l all q (inr w) = run_within leads larger places l all.1 q w

runs_within : (order : BlockOrder) (leads : List (List ℕ)) (runs : List (Rank × Run)) → AllByRecursion (IsEntry order leads) runs → (q : Pair)
    → IsWaiting q (pairs_in leads runs) → (q.smaller < length leads) × (q.larger < length leads)
runs_within order leads [] all q w = absurd w
runs_within order leads (e ∷ runs) all q w =
    elim (waiting_either q (pairs_of leads e) (pairs_in leads runs) w) as (λ _. (q.smaller < length leads) × (q.larger < length leads)) [
      | inl v ↦ run_within leads e.0.larger (e.0.smaller ∷ e.1.places.items) all.0.within all.0.run.within q v
      | inr v ↦ runs_within order leads runs all.1 q v
    ]

-- what the queue's calls need

sorted_queue : (order : BlockOrder) (leads : List (List ℕ)) (runs : List (Rank × Run)) → AreLeads order leads → AreRuns order leads runs
    → IsQueue (record { order = order; pairs = sorted order (pairs_in leads runs) })
sorted_queue order leads runs right h = record {
  ascending = sorted_ascending order (pairs_in leads runs);
  places = sorted_places order (pairs_in leads runs) (runs_places order leads right runs h.entries);
}

pub is_queue : (order : BlockOrder) (leads : List (List ℕ)) (runs : List (Rank × Run)) → AreLeads order leads → AreRuns order leads runs
    → IsQueue (record { order = order; pairs = unpassed order leads (sorted order (pairs_in leads runs)) })
is_queue order leads runs right h =
    let q = sorted_queue order leads runs right h in
    record {
      ascending = unpassed_ascending order leads (sorted order (pairs_in leads runs)) q.ascending;
      places = unpassed_places order leads (sorted order (pairs_in leads runs)) q.places;
    }

pub appended : (order : BlockOrder) (leads now : List (List ℕ)) (m : List ℕ) (place : ℕ) (runs after : List (Rank × Run)) → now ≡ leads ++ m ∷ []
    → place ≡ length leads → length m ≡ order.head + order.tail → AreLeads order leads → AreRuns order leads runs
    → unpassed order now (sorted order (pairs_in now after))
    ≡ unpassed order now (with_pairs order (get_or now place []) place 0 (take place now) (sorted order (pairs_in now runs)))
    → unpassed order now (sorted order (pairs_in now after))
    ≡ unpassed order (leads ++ m ∷ []) (with_pairs order m (length leads) 0 leads (unpassed order leads (sorted order (pairs_in leads runs))))
appended order leads now m place runs after is at long right h e =
    let last : get_or now place [] ≡ m = rw (is, at) (get_or-append_seam leads m [] []) in
    let front : take place now ≡ leads = rw (is, at) (take-append_seam leads (m ∷ [])) in
    let old : pairs_in now runs ≡ pairs_in leads runs = rw is (runs_same leads m order runs h.entries) in
    e
    ∙ (rw (last, front, old, at, is) refl
    ∙ sym (unpassed_before order leads m long (all_long order leads right) (sorted order (pairs_in leads runs)) (sorted_queue order leads runs right h)
    (λ q w. runs_within order leads runs h.entries q (sorted_from order q (pairs_in leads runs) w))))

pub below_entries : (rank : Rank) (runs : List (Rank × Run)) → All (λ k. ranks_compared rank k ≡ Less) (keys_of runs)
    → AllByRecursion (λ e. ranks_compared rank e.0 ≡ Less) runs
below_entries rank [] h = tt
below_entries rank (e ∷ runs) h = (h 0 e.0 (omega arith), below_entries rank runs (λ k d l. h (suc k) d (omega arith)))
