-- The least pair that waits is passed exactly where it is passed for ever: the law of ranks.
use Rattle.std.proofs.Common.{ℕ, suc, ◌≡◌, ◌+◌, ◌<◌, ◌≤◌, ◌⊎◌, inl, inr, Bool, true, false, not, cond, ltb, ◌&&◌, ◌||◌, ◌==◌, List, [], ◌∷◌, ◌++◌}
use Rattle.std.proofs.Common.{length, get_or, zero-add, refl, sym, ap, ◌∙◌, subst, arith}
use Rattle.std.specs.declared.cmp.Ordering.{Ordering}
use Rattle.std.specs.declared.cmp.Ordering.TheVariants.{Less, Equal, Greater}
use Rattle.std.specs.Cmp.{both_ways}
use Rattle.std.specs.Ordering.{is_lt}
use Rattle.std.proofs.Math.Seq.{get_or-append_seam}
use Rattle.std.proofs.lemmas.Bool.{and_parts, and_from, or_left, or_right, eq-eqb, eqb-false, ltb-true, ltb-false, lt-ltb, not-true, cases_lt}
use Rattle.std.proofs.lemmas.List.{length-append, length-map, map-append, get_or_append_left}
use Rattle.cgs_exps.specs.Monomial.{divides, coprime, lcm}
use Rattle.cgs_order.specs.declared.block.BlockOrder.{BlockOrder}
use Rattle.cgs_order.specs.TermOrder.{compared}
use Rattle.cgs_poly.specs.Ring.{Ring}
use Rattle.cgs_poly.specs.Polynomial.{Term, order_of}
use Rattle.cgs_poly.specs.Product.{leading_monomial}
use Rattle.cgs_poly.specs.Monic.{monic_of}
use Rattle.cgs_poly.specs.Same.{is_among}
use Rattle.cgs_algebra.specs.Groebner.{leading_monomial_at}
use Rattle.cgs_pairs.specs.declared.pair.Pair.{Pair}
use Rattle.cgs_pairs.specs.PairOrder.{pair, pair_compared, with_pairs, IsWaiting, IsAscending}
use Rattle.cgs_pairs.specs.Runs.{pair_at, AreLeads}
use Rattle.cgs_pairs.specs.Passed.{has_pair, was_taken, is_third, has_third, is_passed, IsPairOf}
use Rattle.cgs_pairs.specs.Unpassed.{pair_between, precedes, is_earlier_third, has_earlier_third, is_ever_passed, unpassed}
use Rattle.cgs_pairs.proofs.PairLemmas.{pairs_here, pairs_kept, pairs_from}
use Rattle.cgs_pairs.proofs.PassedLemmas.{has_noted, noted_from}
use Rattle.cgs_pairs.proofs.QueueLemmas.{pair_total, below_others, ascending_rest}
use Rattle.cgs_pairs.proofs.EarlierLemmas.{earlier, not_above, pair_long, smaller_divides, larger_divides}
use Rattle.cgs_pairs.proofs.UnpassedLemmas.{pair_more}
use Rattle.cgs_basis.specs.BasisRun.{Completion, Pairs, leads_of, appended, with_generator, with_generators, with_remainder, with_taken, passed_over}
use Rattle.cgs_basis.proofs.StateLemmas.{lead_here}

-- each pair of places waits or was taken, and a pair that was taken comes before each that waits, or was taken before the larger member of that one came
pub record IsLedger (order : BlockOrder) (leads : List (List ℕ)) (pairs : List Pair) (taken : List (ℕ × ℕ)) : Type 0 where
  pub accounted : (larger smaller : ℕ) → smaller < larger → larger < length leads
      → IsWaiting (pair_at leads larger smaller) pairs ⊎ (has_pair larger smaller taken ≡ true)
  pub within : (larger smaller : ℕ) → has_pair larger smaller taken ≡ true → (smaller < length leads) × (larger < length leads)
  pub before : (larger smaller : ℕ) → has_pair larger smaller taken ≡ true → (w : Pair) → IsWaiting w pairs
      → (pair_compared order (pair_at leads larger smaller) w ≡ Less) ⊎ (larger < w.larger)

-- a pair of two places with the lcm of the leads there
pub record IsPairAt (leads : List (List ℕ)) (q : Pair) : Type 0 where
  pub apart : q.smaller < q.larger
  pub within : q.larger < length leads
  pub is : q ≡ pair_at leads q.larger q.smaller

less_from : (o : Ordering) → is_lt o ≡ true → o ≡ Less
less_from Less e = refl
less_from Equal e = absurd (cc)
less_from Greater e = absurd (cc)

-- the law of ranks

module _ (order : BlockOrder) (leads : List (List ℕ)) (right : AreLeads order leads) (q : Pair)
    (pairs : List Pair) (taken : List (ℕ × ℕ)) (a : IsAscending order (q ∷ pairs)) (here : IsPairAt leads q)
    (h : IsLedger order leads (q ∷ pairs) taken) where
  within_smaller : q.smaller < length leads
  within_smaller = omega (arith, here.apart, here.within)

  not_before_itself : (p : Pair) → pair_compared order p q ≡ Less → pair_compared order q p ≡ Less → ⊥
  not_before_itself p l k = let b = (pair_total order).antisymm p q in absurd (cc)

  not_least : (p : Pair) → pair_compared order p q ≡ Less → IsWaiting p (q ∷ pairs) → ⊥
  not_least p l (inl e) = not_before_itself p l (subst (λ x. pair_compared order q x ≡ Less) (sym e) (subst (λ x. pair_compared order x q ≡ Less) e l))
  not_least p l (inr w) = not_before_itself p l (below_others order q pairs a p w)

  -- a pair of places with an lcm that is not above was taken exactly where it comes before
  law : (larger smaller : ℕ) → smaller < larger → larger < length leads → (compared order q.lcm (pair_at leads larger smaller).lcm ≡ Less → ⊥)
      → has_pair larger smaller taken ≡ precedes order (pair_at leads larger smaller) q
  law larger smaller l k not_above = both_ways (has_pair larger smaller taken) (precedes order (pair_at leads larger smaller) q) forth back
    where
      forth : has_pair larger smaller taken ≡ true → precedes order (pair_at leads larger smaller) q ≡ true
      forth e = elim (h.before larger smaller e q (inl refl)) as (λ _. precedes order (pair_at leads larger smaller) q ≡ true) [
        | inl b ↦ ap is_lt b
        | inr b ↦ ap is_lt (earlier order (pair_at leads larger smaller) q not_above (rw (lt-ltb larger q.larger b) refl))
      ]

      back : precedes order (pair_at leads larger smaller) q ≡ true → has_pair larger smaller taken ≡ true
      back e = elim (h.accounted larger smaller l k) as (λ _. has_pair larger smaller taken ≡ true) [
        | inl w ↦ absurd (not_least (pair_at leads larger smaller) (less_from (pair_compared order (pair_at leads larger smaller) q) e) w)
        | inr t ↦ t
      ]

  -- the pair of two places whose leads divide the lcm, whichever is larger
  taken_before : (i j : ℕ) → (i ≡ j → ⊥) → i < length leads → j < length leads → divides (get_or leads i []) q.lcm ≡ true
      → divides (get_or leads j []) q.lcm ≡ true → was_taken i j taken ≡ precedes order (pair_between leads i j) q
  taken_before i j n k l di dj =
      by_test (ltb i j) refl (not_above order leads right q (pair_long order leads right q within_smaller here.within here.is) i j k l di dj)
    where
      by_test : (b : Bool) → ltb i j ≡ b → (compared order q.lcm (cond b (pair_at leads j i) (pair_at leads i j)).lcm ≡ Less → ⊥)
          → cond b (has_pair j i taken) (has_pair i j taken) ≡ precedes order (cond b (pair_at leads j i) (pair_at leads i j)) q
      by_test true e above = law j i (ltb-true i j e) l above
      by_test false e above = law i j (omega (arith, ltb-false i j e, n)) k above

  third_same : (k : ℕ) → k < length leads
      → (((not (k == q.smaller) && not (k == q.larger)) && divides (get_or leads k []) q.lcm) && was_taken k q.smaller taken) && was_taken k q.larger taken
      ≡ is_earlier_third order leads q k (get_or leads k [])
  third_same k l = by_test ((not (k == q.smaller) && not (k == q.larger)) && divides (get_or leads k []) q.lcm) refl
    where
      both : (x y z w : Bool) → x ≡ z → y ≡ w → (x && y) ≡ (z && w)
      both x y z w e f = rw (e, f) refl

      by_test : (b : Bool) → ((not (k == q.smaller) && not (k == q.larger)) && divides (get_or leads k []) q.lcm) ≡ b
          → ((b && was_taken k q.smaller taken) && was_taken k q.larger taken)
          ≡ ((b && precedes order (pair_between leads k q.smaller) q) && precedes order (pair_between leads k q.larger) q)
      by_test false e = refl
      by_test true e =
          let p = and_parts (not (k == q.smaller) && not (k == q.larger)) (divides (get_or leads k []) q.lcm) e in
          let n = and_parts (not (k == q.smaller)) (not (k == q.larger)) p.0 in
          both _ _ _ _
          (taken_before k q.smaller (eqb-false k q.smaller (not-true (k == q.smaller) n.0)) l within_smaller p.1
          (smaller_divides order leads right q within_smaller here.within here.is))
          (taken_before k q.larger (eqb-false k q.larger (not-true (k == q.larger) n.1)) l here.within p.1
          (larger_divides order leads right q within_smaller here.within here.is))

-- the pairs of members

-- a pair of places has the lcm of the leads there
pub known_pair : (G : List (List Term)) (q : Pair) → IsPairOf G q → IsPairAt (leads_of G) q
known_pair G q k = record {
  apart = k.apart;
  within = omega (arith, k.within, length-map G leading_monomial);
  is = λ t. record { lcm = m t; larger = q.larger; smaller = q.smaller };
}
  where
    m : q.lcm ≡ lcm (get_or (leads_of G) q.smaller []) (get_or (leads_of G) q.larger [])
    m = k.lcm ∙ rw (lead_here G q.smaller (omega (arith, k.apart, k.within)), lead_here G q.larger k.within) refl

module _ (order : BlockOrder) (G : List (List Term)) (right : AreLeads order (leads_of G)) (q : Pair)
    (pairs : List Pair) (taken : List (ℕ × ℕ)) (a : IsAscending order (q ∷ pairs)) (known : IsPairOf G q)
    (h : IsLedger order (leads_of G) (q ∷ pairs) taken) where
  here : IsPairAt (leads_of G) q
  here = known_pair G q known

  thirds_same : (k : ℕ) (rest : List (List Term)) → ((j : ℕ) → j < length rest → get_or rest j [] ≡ get_or G (k + j) []) → k + length rest ≡ length G
      → has_third q taken k rest ≡ has_earlier_third order (leads_of G) q k (leads_of rest)
  thirds_same k [] s e = refl
  thirds_same k (f ∷ rest) s e =
      let l : k < length (leads_of G) = omega (arith, e, length-map G leading_monomial) in
      let z : k + 0 ≡ k = omega arith in
      let first : f ≡ get_or G k [] = s 0 (omega arith) ∙ ap (λ n. get_or G n []) z in
      let m : get_or (leads_of G) k [] ≡ leading_monomial f = lead_here G k (omega (arith, e)) ∙ ap leading_monomial (sym first) in
      let one : is_third q taken k f ≡ is_earlier_third order (leads_of G) q k (leading_monomial f) =
      subst (λ m. ((((not (k == q.smaller) && not (k == q.larger)) && divides m q.lcm) && was_taken k q.smaller taken) && was_taken k q.larger taken)
      ≡ is_earlier_third order (leads_of G) q k m) m (third_same order (leads_of G) right q pairs taken a here h k l) in
      either _ _ _ _ one
      (thirds_same (suc k) rest (λ j b. s (suc j) (omega arith) ∙ ap (λ n. get_or G n []) (next j)) (omega (arith, e)))
    where
      next : (j : ℕ) → k + suc j ≡ suc k + j
      next j = omega arith

      either : (x y z w : Bool) → x ≡ z → y ≡ w → (x || y) ≡ (z || w)
      either x y z w e f = rw (e, f) refl

  -- the least pair is passed exactly where it is passed for ever
  pub passed_same : is_passed q G taken ≡ is_ever_passed order (leads_of G) q
  passed_same =
      let z : (j : ℕ) → get_or G j [] ≡ get_or G (0 + j) [] = λ j. ap (λ n. get_or G n []) (sym (zero-add j)) in
      rw (lead_here G q.smaller (omega (arith, known.apart, known.within)), lead_here G q.larger known.within)
      (ap (λ b. coprime (leading_monomial_at G q.smaller) (leading_monomial_at G q.larger) || b)
      (thirds_same 0 G (λ j b. z j) (zero-add (length G))))

-- the pairs that wait and those that were taken, step by step

-- the least pair is taken
pub ledger_taken : (order : BlockOrder) (leads : List (List ℕ)) (q : Pair) (pairs : List Pair) (taken : List (ℕ × ℕ)) → IsAscending order (q ∷ pairs)
    → IsPairAt leads q → IsLedger order leads (q ∷ pairs) taken → IsLedger order leads pairs (with_taken taken q)
ledger_taken order leads q pairs taken a here h = record {
  accounted = λ larger smaller l k. still larger smaller (h.accounted larger smaller l k);
  within = λ larger smaller e. by_noted larger smaller (noted_from larger smaller taken (q.larger, q.smaller) e);
  before = λ larger smaller e w v. by_taken larger smaller w v (noted_from larger smaller taken (q.larger, q.smaller) e);
}
  where
    noted : (larger smaller : ℕ) → q.larger ≡ larger → q.smaller ≡ smaller → has_pair larger smaller (with_taken taken q) ≡ true
    noted larger smaller l s =
        has_noted larger smaller taken (q.larger, q.smaller)
        ∙ or_left (q.larger == larger && q.smaller == smaller) (has_pair larger smaller taken)
        (and_from (q.larger == larger) (q.smaller == smaller) (eq-eqb q.larger larger l) (eq-eqb q.smaller smaller s))

    still : (larger smaller : ℕ) → IsWaiting (pair_at leads larger smaller) (q ∷ pairs) ⊎ (has_pair larger smaller taken ≡ true)
        → IsWaiting (pair_at leads larger smaller) pairs ⊎ (has_pair larger smaller (with_taken taken q) ≡ true)
    still larger smaller (inl (inl e)) = inr (noted larger smaller (ap (λ (p : Pair). p.larger) (sym e)) (ap (λ (p : Pair). p.smaller) (sym e)))
    still larger smaller (inl (inr w)) = inl w
    still larger smaller (inr t) =
        inr (has_noted larger smaller taken (q.larger, q.smaller)
        ∙ or_right (q.larger == larger && q.smaller == smaller) (has_pair larger smaller taken) t)

    by_noted : (larger smaller : ℕ) → (has_pair larger smaller taken ≡ true) ⊎ ((q.larger ≡ larger) × (q.smaller ≡ smaller))
        → (smaller < length leads) × (larger < length leads)
    by_noted larger smaller (inl e) = h.within larger smaller e
    by_noted larger smaller (inr e) = (omega (arith, e.0, e.1, here.apart, here.within), omega (arith, e.0, here.within))

    by_taken : (larger smaller : ℕ) (w : Pair) → IsWaiting w pairs
        → (has_pair larger smaller taken ≡ true) ⊎ ((q.larger ≡ larger) × (q.smaller ≡ smaller))
        → (pair_compared order (pair_at leads larger smaller) w ≡ Less) ⊎ (larger < w.larger)
    by_taken larger smaller w v (inl e) = h.before larger smaller e w (inr v)
    by_taken larger smaller w v (inr e) =
        let is : q ≡ pair_at leads larger smaller = here.is ∙ (ap (λ n. pair_at leads n q.smaller) e.0 ∙ ap (λ n. pair_at leads larger n) e.1) in
        inl (subst (λ p. pair_compared order p w ≡ Less) is (below_others order q pairs a w v))

-- a lead is put at the end, with its pairs

module _ (order : BlockOrder) (leads : List (List ℕ)) (m : List ℕ) (pairs : List Pair) (taken : List (ℕ × ℕ)) (h : IsLedger order leads pairs taken) where
  abbrev now : List (List ℕ)
  now = leads ++ m ∷ []

  abbrev after : List Pair
  after = with_pairs order m (length leads) 0 leads pairs

  long : length now ≡ suc (length leads)
  long = omega (arith, length-append leads (m ∷ []))

  new_pair : (smaller : ℕ) → smaller < length leads → IsWaiting (pair_at now (length leads) smaller) after
  new_pair smaller l =
      let is : pair (lcm (get_or leads smaller []) m) (length leads) (0 + smaller) ≡ pair_at now (length leads) smaller =
      rw (get_or_append_left leads (m ∷ []) [] smaller l, get_or-append_seam leads m [] [], zero-add smaller) refl in
      subst (λ p. IsWaiting p after) is (pairs_here order m (length leads) 0 leads pairs smaller l)

  old_pair : (larger smaller : ℕ) → smaller < larger → larger < length leads
      → IsWaiting (pair_at leads larger smaller) pairs ⊎ (has_pair larger smaller taken ≡ true)
      → IsWaiting (pair_at now larger smaller) after ⊎ (has_pair larger smaller taken ≡ true)
  old_pair larger smaller l k (inl w) =
      inl (subst (λ p. IsWaiting p after) (sym (pair_more leads m larger smaller k (omega arith)))
      (pairs_kept order m (length leads) 0 leads pairs (pair_at leads larger smaller) w))
  old_pair larger smaller l k (inr t) = inr t

  each_pair : (larger smaller : ℕ) → smaller < larger → larger < length now
      → IsWaiting (pair_at now larger smaller) after ⊎ (has_pair larger smaller taken ≡ true)
  each_pair larger smaller l k = by_place (cases_lt larger (length leads))
    where
      by_place : (larger < length leads) ⊎ (length leads ≤ larger) → IsWaiting (pair_at now larger smaller) after ⊎ (has_pair larger smaller taken ≡ true)
      by_place (inl b) = old_pair larger smaller l b (h.accounted larger smaller l b)
      by_place (inr b) =
          let last : length leads ≡ larger = omega (arith, long) in
          inl (subst (λ n. IsWaiting (pair_at now n smaller) after) last (new_pair smaller (omega arith)))

  comes_before : (larger smaller : ℕ) → has_pair larger smaller taken ≡ true → (w : Pair) → IsWaiting w after
      → (pair_compared order (pair_at now larger smaller) w ≡ Less) ⊎ (larger < w.larger)
  comes_before larger smaller e w v =
      let b = h.within larger smaller e in
      elim (pairs_from order m (length leads) 0 leads pairs w v) as (λ _. (pair_compared order (pair_at now larger smaller) w ≡ Less) ⊎ (larger < w.larger)) [
        | inl (k, l, s) ↦ let last : w.larger ≡ length leads = ap (λ (p : Pair). p.larger) s in inr (omega (arith, last, b.1))
        | inr u ↦
            subst (λ p. (pair_compared order p w ≡ Less) ⊎ (larger < w.larger)) (sym (pair_more leads m larger smaller b.1 b.0)) (h.before larger smaller e w u)
      ]

  ledger_more : IsLedger order now after taken
  ledger_more = record {
    accounted = each_pair;
    within = λ larger smaller e. let b = h.within larger smaller e in (omega (arith, long, b.0), omega (arith, long, b.1));
    before = comes_before;
  }

-- the ledger of a completion
abbrev pub HasLedger : Ring → Completion → List (ℕ × ℕ) → Type 0
HasLedger ring s taken = IsLedger (order_of ring) (leads_of s.members) s.pairs taken

module _ (ring : Ring) where
  pub nothing_taken : HasLedger ring (record { members = []; pairs = [] }) []
  nothing_taken = record {
    accounted = λ larger smaller l k. absurd (omega arith);
    within = λ larger smaller e. absurd (cc);
    before = λ larger smaller e. absurd (cc);
  }

  ledger_appended : (s : Completion) (taken : List (ℕ × ℕ)) (g : List Term) → HasLedger ring s taken → HasLedger ring (appended ring s g) taken
  ledger_appended s taken g h =
      let pairs : List Pair = with_pairs (order_of ring) (leading_monomial g) (length s.members) 0 (leads_of s.members) s.pairs in
      subst (λ leads. IsLedger (order_of ring) leads pairs taken) (sym (map-append leading_monomial s.members (g ∷ [])))
      (subst (λ n. IsLedger (order_of ring) (leads_of s.members ++ leading_monomial g ∷ [])
      (with_pairs (order_of ring) (leading_monomial g) n 0 (leads_of s.members) s.pairs) taken) (length-map s.members leading_monomial)
      (ledger_more (order_of ring) (leads_of s.members) (leading_monomial g) s.pairs taken h))

  ledger_generator : (s : Completion) (taken : List (ℕ × ℕ)) (f : List Term) → HasLedger ring s taken → HasLedger ring (with_generator ring s f) taken
  ledger_generator s taken [] h = h
  ledger_generator s taken (x ∷ f) h = by_test (is_among (monic_of ring (x ∷ f)) s.members)
    where
      by_test : (b : Bool) → HasLedger ring (cond b s (appended ring s (monic_of ring (x ∷ f)))) taken
      by_test true = h
      by_test false = ledger_appended s taken (monic_of ring (x ∷ f)) h

  pub ledger_generators : (F : List (List Term)) (s : Completion) (taken : List (ℕ × ℕ)) → HasLedger ring s taken
      → HasLedger ring (with_generators ring s F) taken
  ledger_generators [] s taken h = h
  ledger_generators (f ∷ F) s taken h = ledger_generators F (with_generator ring s f) taken (ledger_generator s taken f h)

  pub ledger_remainder : (s : Completion) (taken : List (ℕ × ℕ)) (r : List Term) → HasLedger ring s taken → HasLedger ring (with_remainder ring s r) taken
  ledger_remainder s taken [] h = h
  ledger_remainder s taken (x ∷ r) h = ledger_appended s taken (monic_of ring (x ∷ r)) h

-- the pairs that are passed are left behind

module _ (order : BlockOrder) (G : List (List Term)) where
  -- the first of some pairs waits first, and the others are those that are not passed for ever
  abbrev pub StartWith : List Pair → List Pair → Type 0
  StartWith [] waiting = waiting ≡ []
  StartWith (q ∷ others) waiting = (rest : List Pair) × (waiting ≡ q ∷ rest) × (unpassed order (leads_of G) rest ≡ others)

  pub record IsPast (others : List Pair) (w : Pairs) : Type 0 where
    pub first : StartWith others w.waiting
    pub ascending : IsAscending order w.waiting
    pub known : (q : Pair) → IsWaiting q w.waiting → IsPairOf G q
    pub ledger : IsLedger order (leads_of G) w.waiting w.taken

  pub passed_past : AreLeads order (leads_of G) → (pairs : List Pair) (taken : List (ℕ × ℕ)) → IsAscending order pairs
      → ((q : Pair) → IsWaiting q pairs → IsPairOf G q) → IsLedger order (leads_of G) pairs taken
      → IsPast (unpassed order (leads_of G) pairs) (passed_over G pairs taken)
  passed_past right [] taken a k h = record { first = refl; ascending = a; known = k; ledger = h }
  passed_past right (q ∷ pairs) taken a k h =
      subst (λ b. IsPast (unpassed order (leads_of G) (q ∷ pairs))
      (cond b (passed_over G pairs (with_taken taken q)) (record { waiting = q ∷ pairs; taken = taken })))
      (sym (passed_same order G right q pairs taken a (k q (inl refl)) h))
      (by_test (is_ever_passed order (leads_of G) q)
      (passed_past right pairs (with_taken taken q) (ascending_rest order q pairs a) (λ p w. k p (inr w))
      (ledger_taken order (leads_of G) q pairs taken a (known_pair G q (k q (inl refl))) h)))
    where
      by_test : (b : Bool) → IsPast (unpassed order (leads_of G) pairs) (passed_over G pairs (with_taken taken q))
          → IsPast (cond b (unpassed order (leads_of G) pairs) (q ∷ unpassed order (leads_of G) pairs))
          (cond b (passed_over G pairs (with_taken taken q)) (record { waiting = q ∷ pairs; taken = taken }))
      by_test true ih = ih
      by_test false ih = record { first = (pairs, refl, refl); ascending = a; known = k; ledger = h }
