-- Pairs that are passed whatever was taken stay so in a longer list, and may be left out before other pairs are put among those that wait.
use Rattle.std.proofs.Common.{ℕ, suc, ◌≡◌, ◌+◌, ◌<◌, ◌≤◌, ◌⊎◌, inl, inr, Bool, true, false, cond, List, [], ◌∷◌, ◌++◌, length, get_or, refl, sym}
use Rattle.std.proofs.Common.{ap, ◌∙◌, subst, arith}
use Rattle.std.specs.List.{AllByRecursion}
use Rattle.std.specs.declared.cmp.Ordering.TheVariants.{Less}
use Rattle.std.proofs.lemmas.Bool.{or_cases, or_left, or_right, false_from_ne_true}
use Rattle.std.proofs.lemmas.List.{get_or_append_left}
use Rattle.cgs_exps.specs.Monomial.{coprime}
use Rattle.cgs_order.specs.declared.block.BlockOrder.{BlockOrder}
use Rattle.cgs_pairs.specs.declared.pair.Pair.{Pair}
use Rattle.cgs_pairs.specs.PairOrder.{pair_compared, with_pairs, IsWaiting, IsAscending, HavePlaces, IsQueue}
use Rattle.cgs_pairs.specs.Runs.{pair_at}
use Rattle.cgs_pairs.specs.Unpassed.{pair_between, is_earlier_third, has_earlier_third, is_ever_passed, unpassed}
use Rattle.cgs_pairs.proofs.PairLemmas.{pairs_here, pairs_kept, pairs_from, IsNewFrom}
use Rattle.cgs_pairs.proofs.QueueLemmas.{ascending_rest, below_others, same_pairs, with_pairs_ascending}

-- a lead put at the end

module _ (leads : List (List ℕ)) (m : List ℕ) where
  -- the pair of two places stays
  pub pair_more : (larger smaller : ℕ) → larger < length leads → smaller < length leads
      → pair_at (leads ++ m ∷ []) larger smaller ≡ pair_at leads larger smaller
  pair_more larger smaller l s = rw (get_or_append_left leads (m ∷ []) [] smaller s, get_or_append_left leads (m ∷ []) [] larger l) refl

  between_more : (i j : ℕ) → i < length leads → j < length leads → pair_between (leads ++ m ∷ []) i j ≡ pair_between leads i j
  between_more i j k l = rw (pair_more i j k l, pair_more j i l k) refl

  module _ (order : BlockOrder) (q : Pair) (smaller : q.smaller < length leads) (larger : q.larger < length leads) where
    third_more : (k : ℕ) (l : List ℕ) → k < length leads → is_earlier_third order (leads ++ m ∷ []) q k l ≡ is_earlier_third order leads q k l
    third_more k l b = rw (between_more k q.smaller b smaller, between_more k q.larger b larger) refl

    thirds_more : (k : ℕ) (rest : List (List ℕ)) → k + length rest ≤ length leads → has_earlier_third order leads q k rest ≡ true
        → has_earlier_third order (leads ++ m ∷ []) q k (rest ++ m ∷ []) ≡ true
    thirds_more k [] b h = absurd (cc)
    thirds_more k (l ∷ rest) b h =
        by_case (or_cases (is_earlier_third order leads q k l) (has_earlier_third order leads q (suc k) rest) h)
        (λ i. thirds_more (suc k) rest (omega arith) i)
      where
        by_case : (is_earlier_third order leads q k l ≡ true) ⊎ (has_earlier_third order leads q (suc k) rest ≡ true)
            → (has_earlier_third order leads q (suc k) rest ≡ true → has_earlier_third order (leads ++ m ∷ []) q (suc k) (rest ++ m ∷ []) ≡ true)
            → has_earlier_third order (leads ++ m ∷ []) q k (l ∷ rest ++ m ∷ []) ≡ true
        by_case (inl e) ih =
            or_left (is_earlier_third order (leads ++ m ∷ []) q k l) (has_earlier_third order (leads ++ m ∷ []) q (suc k) (rest ++ m ∷ []))
            (third_more k l (omega arith) ∙ e)
        by_case (inr e) ih =
            or_right (is_earlier_third order (leads ++ m ∷ []) q k l) (has_earlier_third order (leads ++ m ∷ []) q (suc k) (rest ++ m ∷ [])) (ih e)

    coprime_more : coprime (get_or (leads ++ m ∷ []) q.smaller []) (get_or (leads ++ m ∷ []) q.larger [])
        ≡ coprime (get_or leads q.smaller []) (get_or leads q.larger [])
    coprime_more = rw (get_or_append_left leads (m ∷ []) [] q.smaller smaller, get_or_append_left leads (m ∷ []) [] q.larger larger) refl

    -- a pair that is passed is passed in the longer list
    pub ever_passed_more : is_ever_passed order leads q ≡ true → is_ever_passed order (leads ++ m ∷ []) q ≡ true
    ever_passed_more h =
        by_case (or_cases (coprime (get_or leads q.smaller []) (get_or leads q.larger [])) (has_earlier_third order leads q 0 leads) h)
      where
        by_case : (coprime (get_or leads q.smaller []) (get_or leads q.larger []) ≡ true) ⊎ (has_earlier_third order leads q 0 leads ≡ true)
            → is_ever_passed order (leads ++ m ∷ []) q ≡ true
        by_case (inl e) =
            or_left (coprime (get_or (leads ++ m ∷ []) q.smaller []) (get_or (leads ++ m ∷ []) q.larger []))
            (has_earlier_third order (leads ++ m ∷ []) q 0 (leads ++ m ∷ [])) (coprime_more ∙ e)
        by_case (inr e) =
            or_right (coprime (get_or (leads ++ m ∷ []) q.smaller []) (get_or (leads ++ m ∷ []) q.larger []))
            (has_earlier_third order (leads ++ m ∷ []) q 0 (leads ++ m ∷ [])) (thirds_more 0 leads (omega arith) e)

-- the pairs of a list that are not passed

module _ (order : BlockOrder) (leads : List (List ℕ)) where
  pub unpassed_from : (q : Pair) (pairs : List Pair) → IsWaiting q (unpassed order leads pairs)
      → IsWaiting q pairs × (is_ever_passed order leads q ≡ false)
  unpassed_from q [] w = absurd w
  unpassed_from q (x ∷ pairs) w = by_test (is_ever_passed order leads x) refl w (λ v. unpassed_from q pairs v)
    where
      by_test : (b : Bool) → is_ever_passed order leads x ≡ b → IsWaiting q (cond b (unpassed order leads pairs) (x ∷ unpassed order leads pairs))
          → (IsWaiting q (unpassed order leads pairs) → IsWaiting q pairs × (is_ever_passed order leads q ≡ false))
          → IsWaiting q (x ∷ pairs) × (is_ever_passed order leads q ≡ false)
      by_test true e w ih = let h = ih w in (inr h.0, h.1)
      by_test false e (inl s) ih = (inl s, ap (λ p. is_ever_passed order leads p) s ∙ e)
      by_test false e (inr v) ih = let h = ih v in (inr h.0, h.1)

  pub unpassed_into : (q : Pair) (pairs : List Pair) → IsWaiting q pairs → is_ever_passed order leads q ≡ false
      → IsWaiting q (unpassed order leads pairs)
  unpassed_into q [] w n = absurd w
  unpassed_into q (x ∷ pairs) w n = by_test (is_ever_passed order leads x) refl w (λ v. unpassed_into q pairs v n)
    where
      by_test : (b : Bool) → is_ever_passed order leads x ≡ b → IsWaiting q (x ∷ pairs)
          → (IsWaiting q pairs → IsWaiting q (unpassed order leads pairs))
          → IsWaiting q (cond b (unpassed order leads pairs) (x ∷ unpassed order leads pairs))
      by_test true e (inl s) ih = let t : is_ever_passed order leads q ≡ true = ap (λ p. is_ever_passed order leads p) s ∙ e in absurd (cc)
      by_test true e (inr v) ih = ih v
      by_test false e (inl s) ih = inl s
      by_test false e (inr v) ih = inr (ih v)

  pub unpassed_ascending : (pairs : List Pair) → IsAscending order pairs → IsAscending order (unpassed order leads pairs)
  unpassed_ascending [] a = tt
  unpassed_ascending (x ∷ pairs) a = by_test (is_ever_passed order leads x) (unpassed_ascending pairs (ascending_rest order x pairs a))
    where
      at_front : (ps : List Pair) → IsAscending order ps → ((q : Pair) → IsWaiting q ps → pair_compared order x q ≡ Less) → IsAscending order (x ∷ ps)
      at_front [] a below = tt
      at_front (y ∷ ps) a below = (below y (inl refl), a)

      by_test : (b : Bool) → IsAscending order (unpassed order leads pairs)
          → IsAscending order (cond b (unpassed order leads pairs) (x ∷ unpassed order leads pairs))
      by_test true ih = ih
      by_test false ih =
          at_front (unpassed order leads pairs) ih (λ q w. below_others order x pairs a q (unpassed_from q pairs w).0)

  pub unpassed_places : (pairs : List Pair) → HavePlaces order pairs → HavePlaces order (unpassed order leads pairs)
  unpassed_places [] p = tt
  unpassed_places (x ∷ pairs) p = by_test (is_ever_passed order leads x) (unpassed_places pairs p.1)
    where
      by_test : (b : Bool) → HavePlaces order (unpassed order leads pairs)
          → HavePlaces order (cond b (unpassed order leads pairs) (x ∷ unpassed order leads pairs))
      by_test true ih = ih
      by_test false ih = (p.0, ih)

-- the pairs of a new lead are put among those that wait: which of these are passed may be left out before

module _ (order : BlockOrder) (leads : List (List ℕ)) (m : List ℕ) (long : length m ≡ order.head + order.tail)
    (right : AllByRecursion (λ l. length l ≡ order.head + order.tail) leads) (pairs : List Pair)
    (h : IsQueue (record { order = order; pairs = pairs }))
    (within : (q : Pair) → IsWaiting q pairs → (q.smaller < length leads) × (q.larger < length leads)) where
  abbrev now : List (List ℕ)
  now = leads ++ m ∷ []

  abbrev put : List Pair → List Pair
  put ps = with_pairs order m (length leads) 0 leads ps

  put_ascending : (ps : List Pair) → IsAscending order ps → HavePlaces order ps → ((q : Pair) → IsWaiting q ps → IsWaiting q pairs)
      → IsAscending order (unpassed order now (put ps))
  put_ascending ps a p f =
      unpassed_ascending order now (put ps)
      (with_pairs_ascending order m (length leads) 0 leads ps long right a p (λ q w. inl (within q (f q w)).1))

  put_into : (q : Pair) (ps others : List Pair) → (is_ever_passed order now q ≡ false → IsWaiting q ps → IsWaiting q others)
      → IsWaiting q (unpassed order now (put ps)) → IsWaiting q (unpassed order now (put others))
  put_into q ps others f w =
      let u = unpassed_from order now q (put ps) w in
      unpassed_into order now q (put others) (by_case u.1 (pairs_from order m (length leads) 0 leads ps q u.0)) u.1
    where
      by_case : is_ever_passed order now q ≡ false → IsNewFrom order m (length leads) 0 leads q ⊎ IsWaiting q ps → IsWaiting q (put others)
      by_case n (inl (k, l, e)) = subst (λ x. IsWaiting x (put others)) (sym e) (pairs_here order m (length leads) 0 leads others k l)
      by_case n (inr v) = pairs_kept order m (length leads) 0 leads others q (f n v)

  kept : (q : Pair) → is_ever_passed order now q ≡ false → IsWaiting q pairs → IsWaiting q (unpassed order leads pairs)
  kept q n w =
      unpassed_into order leads q pairs w (false_from_ne_true (is_ever_passed order leads q) (λ e.
      let t = ever_passed_more leads m order q (within q w).0 (within q w).1 e in
      absurd (cc)))

  pub unpassed_before : unpassed order now (put (unpassed order leads pairs)) ≡ unpassed order now (put pairs)
  unpassed_before =
      same_pairs order (unpassed order now (put (unpassed order leads pairs))) (unpassed order now (put pairs))
      (put_ascending (unpassed order leads pairs) (unpassed_ascending order leads pairs h.ascending) (unpassed_places order leads pairs h.places)
      (λ q w. (unpassed_from order leads q pairs w).0))
      (put_ascending pairs h.ascending h.places (λ q w. w))
      (λ q w. put_into q (unpassed order leads pairs) pairs (λ n v. (unpassed_from order leads q pairs v).0) w)
      (λ q w. put_into q pairs (unpassed order leads pairs) (λ n v. kept q n v) w)
