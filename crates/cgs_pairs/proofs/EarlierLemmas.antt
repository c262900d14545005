-- A place whose lead divides the lcm of a pair: where its pairs come before that pair, and when that is passed for it.
use Rattle.std.proofs.Common.{ℕ, zero, suc, ◌≡◌, ◌+◌, ◌<◌, ◌⊎◌, inl, inr, Bool, true, false, not, cond, eqb, List, [], ◌∷◌}
use Rattle.std.proofs.Common.{length, get_or, zero-add, refl, sym, ap, ◌∙◌, subst, arith}
use Rattle.std.specs.Prelude.{nat_lt}
use Rattle.std.specs.declared.cmp.Ordering.{Ordering}
use Rattle.std.specs.declared.cmp.Ordering.TheVariants.{Less, Equal, Greater}
use Rattle.std.specs.Ordering.{nat_cmp, is_lt, ordering_then}
use Rattle.std.proofs.lemmas.Bool.Decides.{Decides-eqb, nat_tests}
use Rattle.std.proofs.lemmas.Slice.Eq.{slice_eq-Decides}
use Rattle.std.specs.Cmp.Lexicographic.{pointwise}
use Rattle.std.proofs.lemmas.Bool.{or_left, or_right, ne_eqb, lt-ltb}
use Rattle.cgs_exps.specs.Monomial.{divides, coprime, quotient, lcm}
use Rattle.cgs_exps.proofs.MonomialLemmas.{quotient_product, quotient_length, lcm_length, lcm_divides, divides_lcm_left, lcm_comm}
use Rattle.cgs_order.specs.declared.block.BlockOrder.{BlockOrder}
use Rattle.cgs_order.specs.TermOrder.{compared}
use Rattle.cgs_order.proofs.OrderLemmas.{compared_back, compared_equal, compared_self}
use Rattle.cgs_poly.proofs.ProductOrderLemmas.{compared_grown}
use Rattle.cgs_pairs.specs.declared.pair.Pair.{Pair}
use Rattle.cgs_pairs.specs.PairOrder.{pair_compared}
use Rattle.cgs_pairs.specs.Runs.{pair_at, AreLeads}
use Rattle.cgs_pairs.specs.Unpassed.{pair_between, precedes, is_earlier_third, has_earlier_third, is_ever_passed, lcm_at}
use Rattle.cgs_pairs.proofs.RunLemmas.{lead_places}

-- what a test of two slices says

pub differ_by : (a b : List ℕ) (r : Bool) → r ≡ not (pointwise eqb a b) → r ≡ true → a ≡ b → ⊥
differ_by a b r e t same = let s = (slice_eq-Decides Decides-eqb a b (pointwise eqb a b) refl).1 same in absurd (cc)

pub same_by : (a b : List ℕ) (r : Bool) → r ≡ not (pointwise eqb a b) → r ≡ false → a ≡ b
same_by a b r e f = (slice_eq-Decides Decides-eqb a b (pointwise eqb a b) refl).0 (not_false (pointwise eqb a b) (sym e ∙ f))
  where
    not_false : (t : Bool) → not t ≡ false → t ≡ true
    not_false true n = refl
    not_false false n = absurd (cc)

-- a divisor is not above
pub divisor_not_above : (order : BlockOrder) (m n : List ℕ) → length m ≡ length n → divides m n ≡ true → compared order n m ≡ Less → ⊥
divisor_not_above order m n l d e =
    compared_grown order (quotient n m) m (quotient_length n m (length m) (sym l) refl)
    (subst (λ a. compared order a m ≡ Less) (sym (quotient_product n m (sym l) d)) e)

-- a pair whose lcm is not above comes before where its places do
pub earlier : (order : BlockOrder) (p q : Pair) → (compared order q.lcm p.lcm ≡ Less → ⊥)
    → ordering_then (nat_cmp p.larger q.larger) (nat_cmp p.smaller q.smaller) ≡ Less → pair_compared order p q ≡ Less
earlier order p q n l = by_order (compared order p.lcm q.lcm) refl
  where
    by_order : (o : Ordering) → compared order p.lcm q.lcm ≡ o
        → ordering_then (ordering_then o (nat_cmp p.larger q.larger)) (nat_cmp p.smaller q.smaller) ≡ Less
    by_order Less e = refl
    by_order Equal e = l
    by_order Greater e = absurd (n (compared_back order p.lcm q.lcm e))

-- it comes before, too, where the lcms are not the same
pub lower : (order : BlockOrder) (p q : Pair) → length p.lcm ≡ length q.lcm → (compared order q.lcm p.lcm ≡ Less → ⊥) → (p.lcm ≡ q.lcm → ⊥)
    → pair_compared order p q ≡ Less
lower order p q long n differ = by_order (compared order p.lcm q.lcm) refl
  where
    by_order : (o : Ordering) → compared order p.lcm q.lcm ≡ o
        → ordering_then (ordering_then o (nat_cmp p.larger q.larger)) (nat_cmp p.smaller q.smaller) ≡ Less
    by_order Less e = refl
    by_order Equal e = absurd (differ (compared_equal order p.lcm q.lcm long e))
    by_order Greater e = absurd (n (compared_back order p.lcm q.lcm e))

-- of pairs with one lcm the places decide
same_lcm : (order : BlockOrder) (p q : Pair) → p.lcm ≡ q.lcm
    → pair_compared order p q ≡ ordering_then (nat_cmp p.larger q.larger) (nat_cmp p.smaller q.smaller)
same_lcm order p q e =
    ap (λ o. ordering_then (ordering_then o (nat_cmp p.larger q.larger)) (nat_cmp p.smaller q.smaller))
    (ap (λ m. compared order p.lcm m) (sym e) ∙ compared_self order p.lcm)

larger_less : (a b c d : ℕ) → a < b → ordering_then (nat_cmp a b) (nat_cmp c d) ≡ Less
larger_less a b c d l = rw (lt-ltb a b l) refl

smaller_less : (a c d : ℕ) → c < d → ordering_then (nat_cmp a a) (nat_cmp c d) ≡ Less
smaller_less a c d l = rw (nat_self a, lt-ltb c d l) refl
  where
    nat_self : (x : ℕ) → nat_cmp x x ≡ Equal
    nat_self x = grind (arith, nat_tests)

module _ (order : BlockOrder) (leads : List (List ℕ)) (right : AreLeads order leads) where
  abbrev pub lead : ℕ → List ℕ
  lead i = get_or leads i []

  pub lead_long : (i : ℕ) → i < length leads → length (lead i) ≡ order.head + order.tail
  lead_long i l = (lead_places order leads right i l).0

  between_lcm : (i j : ℕ) → i < length leads → j < length leads → (pair_between leads i j).lcm ≡ lcm (lead i) (lead j)
  between_lcm i j k l = by_test (nat_lt i j)
    where
      by_test : (b : Bool) → (cond b (pair_at leads j i) (pair_at leads i j)).lcm ≡ lcm (lead i) (lead j)
      by_test true = refl
      by_test false = lcm_comm (lead j) (lead i) (lead_long j l ∙ sym (lead_long i k))

  module _ (q : Pair) (long : length q.lcm ≡ order.head + order.tail) (i j : ℕ) (k : i < length leads) (l : j < length leads)
      (di : divides (lead i) q.lcm ≡ true) (dj : divides (lead j) q.lcm ≡ true) where
    between_long : length (pair_between leads i j).lcm ≡ length q.lcm
    between_long =
        ap length (between_lcm i j k l) ∙ (lcm_length (lead i) (lead j) (order.head + order.tail) (lead_long i k) (lead_long j l) ∙ sym long)

    pub not_above : compared order q.lcm (pair_between leads i j).lcm ≡ Less → ⊥
    not_above e =
        divisor_not_above order (lcm (lead i) (lead j)) q.lcm
        (lcm_length (lead i) (lead j) (length q.lcm) (lead_long i k ∙ sym long) (lead_long j l ∙ sym long))
        (lcm_divides (lead i) (lead j) q.lcm (lead_long i k ∙ sym long) (lead_long j l ∙ sym long) di dj)
        (subst (λ m. compared order q.lcm m ≡ Less) (between_lcm i j k l) e)

    pub precedes_lower : (lcm (lead i) (lead j) ≡ q.lcm → ⊥) → precedes order (pair_between leads i j) q ≡ true
    precedes_lower differ =
        ap is_lt (lower order (pair_between leads i j) q between_long not_above (λ e. differ (sym (between_lcm i j k l) ∙ e)))

    pub precedes_same : lcm (lead i) (lead j) ≡ q.lcm
        → precedes order (pair_between leads i j) q
        ≡ is_lt (ordering_then (nat_cmp (pair_between leads i j).larger q.larger) (nat_cmp (pair_between leads i j).smaller q.smaller))
    precedes_same e = ap is_lt (same_lcm order (pair_between leads i j) q (between_lcm i j k l ∙ e))

  module _ (q : Pair) (smaller : q.smaller < length leads) (larger : q.larger < length leads) (is : q ≡ pair_at leads q.larger q.smaller) where
    lcm_is : q.lcm ≡ lcm (lead q.smaller) (lead q.larger)
    lcm_is = ap (λ (p : Pair). p.lcm) is

    same_long : length (lead q.smaller) ≡ length (lead q.larger)
    same_long = lead_long q.smaller smaller ∙ sym (lead_long q.larger larger)

    pub pair_long : length q.lcm ≡ order.head + order.tail
    pair_long =
        ap length lcm_is
        ∙ lcm_length (lead q.smaller) (lead q.larger) (order.head + order.tail) (lead_long q.smaller smaller) (lead_long q.larger larger)

    pub smaller_divides : divides (lead q.smaller) q.lcm ≡ true
    smaller_divides = ap (λ m. divides (lead q.smaller) m) lcm_is ∙ divides_lcm_left (lead q.smaller) (lead q.larger) same_long

    pub larger_divides : divides (lead q.larger) q.lcm ≡ true
    larger_divides =
        ap (λ m. divides (lead q.larger) m) (lcm_is ∙ lcm_comm (lead q.smaller) (lead q.larger) same_long)
        ∙ divides_lcm_left (lead q.larger) (lead q.smaller) (sym same_long)

  -- a place that is found
  pub third_found : (q : Pair) (k i : ℕ) (rest : List (List ℕ)) → i < length rest → is_earlier_third order leads q (k + i) (get_or rest i []) ≡ true
      → has_earlier_third order leads q k rest ≡ true
  third_found q k i [] l e = absurd (omega arith)
  third_found q k zero (m ∷ rest) l e =
      let at : k + 0 ≡ k = omega arith in
      or_left (is_earlier_third order leads q k m) (has_earlier_third order leads q (suc k) rest)
      (subst (λ n. is_earlier_third order leads q n m ≡ true) at e)
  third_found q k (suc i) (m ∷ rest) l e =
      let at : k + suc i ≡ suc k + i = omega arith in
      or_right (is_earlier_third order leads q k m) (has_earlier_third order leads q (suc k) rest)
      (third_found q (suc k) i rest (omega arith) (subst (λ n. is_earlier_third order leads q n (get_or rest i []) ≡ true) at e))

  -- a pair is passed for a place before the larger one whose lead divides the lcm, where that place is smaller or its lcm with the larger one differs
  module _ (larger i k : ℕ) (within : larger < length leads) (below : i < larger) (third : k < larger) (apart : k ≡ i → ⊥)
      (d : divides (lead k) (lcm_at leads i larger) ≡ true) (first : (k < i) ⊎ (lcm_at leads k larger ≡ lcm_at leads i larger → ⊥)) where
    abbrev q : Pair
    q = pair_at leads larger i

    long : length q.lcm ≡ order.head + order.tail
    long = pair_long q (omega arith) within refl

    before_smaller : precedes order (pair_between leads k i) q ≡ true
    before_smaller =
        ap is_lt (earlier order (pair_between leads k i) q (not_above q long k i (omega arith) (omega arith) d (smaller_divides q (omega arith) within refl))
        (larger_less (pair_between leads k i).larger larger (pair_between leads k i).smaller i (by_test (nat_lt k i))))
      where
        by_test : (b : Bool) → (cond b (pair_at leads i k) (pair_at leads k i)).larger < larger
        by_test true = below
        by_test false = third

    between_is : pair_between leads k larger ≡ pair_at leads larger k
    between_is = ap (λ b. cond b (pair_at leads larger k) (pair_at leads k larger)) (lt-ltb k larger third)

    before_larger : precedes order (pair_between leads k larger) q ≡ true
    before_larger = by_case first
      where
        by_case : (k < i) ⊎ (lcm_at leads k larger ≡ lcm_at leads i larger → ⊥) → precedes order (pair_between leads k larger) q ≡ true
        by_case (inl l) =
            ap (λ p. precedes order p q) between_is
            ∙ ap is_lt (earlier order (pair_at leads larger k) q
            (subst (λ (p : Pair). compared order q.lcm p.lcm ≡ Less → ⊥) between_is
            (not_above q long k larger (omega arith) within d (larger_divides q (omega arith) within refl)))
            (smaller_less larger k i l))
        by_case (inr n) = precedes_lower q long k larger (omega arith) within d (larger_divides q (omega arith) within refl) n

    pub passed_by : is_ever_passed order leads q ≡ true
    passed_by =
        or_right (coprime (lead i) (lead larger)) (has_earlier_third order leads q 0 leads)
        (third_found q 0 k leads (omega arith)
        (rw (zero-add k, ne_eqb k i apart, ne_eqb k larger (λ e. omega (arith, e)), d, before_smaller, before_larger) refl))
