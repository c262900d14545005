-- The places with minimal lcms: each pair that is not passed is one of theirs.
use Rattle.std.proofs.Common.{ℕ, zero, suc, ◌≡◌, ◌<◌, ◌≤◌, ◌⊎◌, inl, inr, Bool, true, false, cond, ◌||◌, List, [], ◌∷◌, ◌++◌, length, get_or}
use Rattle.std.proofs.Common.{refl, sym, ap, ◌∙◌, subst, arith}
use Rattle.std.specs.List.{AllByRecursion, Contains}
use Rattle.std.proofs.lemmas.Bool.{or_cases, or_left}
use Rattle.cgs_list.proofs.ListLemmas.{all_append, all_weaker}
use Rattle.cgs_exps.specs.Monomial.{divides, coprime}
use Rattle.cgs_exps.proofs.MonomialLemmas.{divides_lcm_left}
use Rattle.cgs_order.specs.declared.block.BlockOrder.{BlockOrder}
use Rattle.cgs_pairs.specs.Runs.{pair_at, AreLeads}
use Rattle.cgs_pairs.specs.Unpassed.{has_earlier_third, is_ever_passed, lcm_at, has_divisor_at, without_multiples, with_minimal, minimal_places}
use Rattle.cgs_pairs.specs.Unpassed.{without_coprime, Ascend, AreEnough}
use Rattle.cgs_pairs.proofs.EarlierLemmas.{lead_long, passed_by}

-- a place is among some
abbrev IsIn : ℕ → List ℕ → Type 0
IsIn i [] = ⊥
IsIn i (k ∷ places) = (i ≡ k) ⊎ IsIn i places

contained : (i : ℕ) (places : List ℕ) → IsIn i places → Contains places i
contained i [] h = absurd h
contained i (k ∷ places) (inl e) = (0, omega arith, sym e)
contained i (k ∷ places) (inr h) = let c = contained i places h in (suc c.0, omega (arith, c.1), c.2)

in_left : (i : ℕ) (a b : List ℕ) → IsIn i a → IsIn i (a ++ b)
in_left i [] b h = absurd h
in_left i (k ∷ a) b (inl e) = inl e
in_left i (k ∷ a) b (inr h) = inr (in_left i a b h)

in_last : (i : ℕ) (a : List ℕ) → IsIn i (a ++ i ∷ [])
in_last i [] = inl refl
in_last i (k ∷ a) = inr (in_last i a)

all_in : (P : ℕ → Type 0) (places : List ℕ) → AllByRecursion P places → (i : ℕ) → IsIn i places → P i
all_in P [] all i h = absurd h
all_in P (k ∷ places) all i (inl e) = subst P (sym e) all.0
all_in P (k ∷ places) all i (inr h) = all_in P places all.1 i h

ascend_last : (places : List ℕ) (n : ℕ) → Ascend places → AllByRecursion (λ i. i < n) places → Ascend (places ++ n ∷ [])
ascend_last [] n a all = (tt, tt)
ascend_last (i ∷ places) n a all = (all_append (λ k. i < k) places (n ∷ []) a.0 (all.0, tt), ascend_last places n a.1 all.1)

neither : (a b : Bool) → (a || b) ≡ false → (a ≡ false) × (b ≡ false)
neither true b h = absurd (cc)
neither false b h = (refl, h)

module _ (leads : List (List ℕ)) (larger : ℕ) where
  divisor_in : (m : List ℕ) (places : List ℕ) → has_divisor_at leads m places ≡ true
      → (k : ℕ) × IsIn k places × (divides (get_or leads k []) m ≡ true)
  divisor_in m [] h = absurd (cc)
  divisor_in m (k ∷ places) h = elim (or_cases (divides (get_or leads k []) m) (has_divisor_at leads m places) h) as (λ _.
      (i : ℕ) × IsIn i (k ∷ places) × (divides (get_or leads i []) m ≡ true)) [
        | inl e ↦ (k, inl refl, e)
        | inr r ↦ let d = divisor_in m places r in (d.0, inr d.1, d.2)
      ]

  no_divisor : (m : List ℕ) (places : List ℕ) → has_divisor_at leads m places ≡ false → (k : ℕ) → IsIn k places → divides (get_or leads k []) m ≡ false
  no_divisor m [] h k i = absurd i
  no_divisor m (j ∷ places) h k i =
      let both = neither (divides (get_or leads j []) m) (has_divisor_at leads m places) h in
      elim i as (λ _. divides (get_or leads k []) m ≡ false) [
        | inl e ↦ ap (λ n. divides (get_or leads n []) m) e ∙ both.0
        | inr r ↦ no_divisor m places both.1 k r
      ]

  -- places left out
  all_without : (P : ℕ → Type 0) (d : List ℕ) (places : List ℕ) → AllByRecursion P places → AllByRecursion P (without_multiples leads larger d places)
  all_without P d [] all = tt
  all_without P d (k ∷ places) all = by_test (divides d (lcm_at leads k larger)) (all_without P d places all.1)
    where
      by_test : (b : Bool) → AllByRecursion P (without_multiples leads larger d places)
          → AllByRecursion P (cond b (without_multiples leads larger d places) (k ∷ without_multiples leads larger d places))
      by_test true ih = ih
      by_test false ih = (all.0, ih)

  ascend_without : (d : List ℕ) (places : List ℕ) → Ascend places → Ascend (without_multiples leads larger d places)
  ascend_without d [] a = tt
  ascend_without d (k ∷ places) a = by_test (divides d (lcm_at leads k larger)) (ascend_without d places a.1)
    where
      by_test : (b : Bool) → Ascend (without_multiples leads larger d places)
          → Ascend (cond b (without_multiples leads larger d places) (k ∷ without_multiples leads larger d places))
      by_test true ih = ih
      by_test false ih = (all_without (λ i. k < i) d places a.0, ih)

  in_without : (d : List ℕ) (places : List ℕ) (i : ℕ) → IsIn i places
      → IsIn i (without_multiples leads larger d places) ⊎ (divides d (lcm_at leads i larger) ≡ true)
  in_without d [] i h = absurd h
  in_without d (k ∷ places) i h = by_test (divides d (lcm_at leads k larger)) refl h (λ r. in_without d places i r)
    where
      by_test : (b : Bool) → divides d (lcm_at leads k larger) ≡ b → IsIn i (k ∷ places)
          → (IsIn i places → IsIn i (without_multiples leads larger d places) ⊎ (divides d (lcm_at leads i larger) ≡ true))
          → IsIn i (cond b (without_multiples leads larger d places) (k ∷ without_multiples leads larger d places))
          ⊎ (divides d (lcm_at leads i larger) ≡ true)
      by_test true e (inl s) ih = inr (ap (λ n. divides d (lcm_at leads n larger)) s ∙ e)
      by_test true e (inr r) ih = ih r
      by_test false e (inl s) ih = inl (inl s)
      by_test false e (inr r) ih = elim (ih r) as (λ _. IsIn i (k ∷ without_multiples leads larger d places) ⊎ (divides d (lcm_at leads i larger) ≡ true)) [
        | inl w ↦ inl (inr w)
        | inr w ↦ inr w
      ]

  -- coprime leads left out
  all_common : (P : ℕ → Type 0) (places : List ℕ) → AllByRecursion P places → AllByRecursion P (without_coprime leads larger places)
  all_common P [] all = tt
  all_common P (k ∷ places) all = by_test (coprime (get_or leads k []) (get_or leads larger [])) (all_common P places all.1)
    where
      by_test : (b : Bool) → AllByRecursion P (without_coprime leads larger places)
          → AllByRecursion P (cond b (without_coprime leads larger places) (k ∷ without_coprime leads larger places))
      by_test true ih = ih
      by_test false ih = (all.0, ih)

  ascend_common : (places : List ℕ) → Ascend places → Ascend (without_coprime leads larger places)
  ascend_common [] a = tt
  ascend_common (k ∷ places) a = by_test (coprime (get_or leads k []) (get_or leads larger [])) (ascend_common places a.1)
    where
      by_test : (b : Bool) → Ascend (without_coprime leads larger places)
          → Ascend (cond b (without_coprime leads larger places) (k ∷ without_coprime leads larger places))
      by_test true ih = ih
      by_test false ih = (all_common (λ i. k < i) places a.0, ih)

  in_common : (places : List ℕ) (i : ℕ) → IsIn i places
      → IsIn i (without_coprime leads larger places) ⊎ (coprime (get_or leads i []) (get_or leads larger []) ≡ true)
  in_common [] i h = absurd h
  in_common (k ∷ places) i h = by_test (coprime (get_or leads k []) (get_or leads larger [])) refl h (λ r. in_common places i r)
    where
      by_test : (b : Bool) → coprime (get_or leads k []) (get_or leads larger []) ≡ b → IsIn i (k ∷ places)
          → (IsIn i places → IsIn i (without_coprime leads larger places) ⊎ (coprime (get_or leads i []) (get_or leads larger []) ≡ true))
          → IsIn i (cond b (without_coprime leads larger places) (k ∷ without_coprime leads larger places))
          ⊎ (coprime (get_or leads i []) (get_or leads larger []) ≡ true)
      by_test true e (inl s) ih = inr (ap (λ n. coprime (get_or leads n []) (get_or leads larger [])) s ∙ e)
      by_test true e (inr r) ih = ih r
      by_test false e (inl s) ih = inl (inl s)
      by_test false e (inr r) ih = elim (ih r) as (λ _.
          IsIn i (k ∷ without_coprime leads larger places) ⊎ (coprime (get_or leads i []) (get_or leads larger []) ≡ true)) [
            | inl w ↦ inl (inr w)
            | inr w ↦ inr w
          ]

-- the places kept of the first n
record IsKept (order : BlockOrder) (leads : List (List ℕ)) (larger n : ℕ) (places : List ℕ) : Type 0 where
  below : AllByRecursion (λ i. i < n) places
  ascend : Ascend places
  each : (i : ℕ) → i < n → IsIn i places ⊎ (is_ever_passed order leads (pair_at leads larger i) ≡ true)

module _ (order : BlockOrder) (leads : List (List ℕ)) (right : AreLeads order leads) (larger : ℕ) (within : larger < length leads) where
  step : (n : ℕ) (places : List ℕ) → n < larger → IsKept order leads larger n places
      → IsKept order leads larger (suc n) (with_minimal leads larger n places)
  step n places l h = by_test (has_divisor_at leads (lcm_at leads n larger) places) refl
    where
      cases_last : (i : ℕ) → i < suc n → (i < n) ⊎ (i ≡ n)
      cases_last i k = grind (arith)

      wider : (qs : List ℕ) → AllByRecursion (λ i. i < n) qs → AllByRecursion (λ i. i < suc n) qs
      wider qs all = all_weaker (λ i. i < n) (λ i. i < suc n) qs all (λ i k. omega arith)

      below_n : (k : ℕ) → IsIn k places → k < n
      below_n k i = all_in (λ k. k < n) places h.below k i

      new_passed : has_divisor_at leads (lcm_at leads n larger) places ≡ true → is_ever_passed order leads (pair_at leads larger n) ≡ true
      new_passed e =
          let d = divisor_in leads larger (lcm_at leads n larger) places e in
          let b : d.0 < n = below_n d.0 d.1 in
          passed_by order leads right larger n d.0 within l (omega (arith, b)) (λ s. omega (arith, b, s)) d.2 (inl b)

      old_passed : has_divisor_at leads (lcm_at leads n larger) places ≡ false → (i : ℕ) → IsIn i places
          → divides (get_or leads n []) (lcm_at leads i larger) ≡ true → is_ever_passed order leads (pair_at leads larger i) ≡ true
      old_passed e i m d =
          let b = below_n i m in
          passed_by order leads right larger i n within (omega (arith, b)) l (λ s. omega (arith, b, s)) d (inr (λ s.
          let k : i < length leads = omega (arith, b) in
          let none = no_divisor leads larger (lcm_at leads n larger) places e i m in
          let some = divides_lcm_left (get_or leads i []) (get_or leads larger [])
          (lead_long order leads right i k ∙ sym (lead_long order leads right larger within)) in
          let same = ap (λ m. divides (get_or leads i []) m) s in
          absurd (cc)))

      by_test : (b : Bool) → has_divisor_at leads (lcm_at leads n larger) places ≡ b
          → IsKept order leads larger (suc n) (cond b places (without_multiples leads larger (get_or leads n []) places ++ n ∷ []))
      by_test true e = record {
        below = wider places h.below;
        ascend = h.ascend;
        each = λ i k. elim (cases_last i k) as (λ _. IsIn i places ⊎ (is_ever_passed order leads (pair_at leads larger i) ≡ true)) [
          | inl b ↦ h.each i b
          | inr s ↦ inr (ap (λ n. is_ever_passed order leads (pair_at leads larger n)) s ∙ new_passed e)
        ];
      }
      by_test false e =
          let kept : List ℕ = without_multiples leads larger (get_or leads n []) places in
          let all = all_without leads larger (λ i. i < n) (get_or leads n []) places h.below in
          record {
            below = all_append (λ i. i < suc n) kept (n ∷ []) (wider kept all) (omega arith, tt);
            ascend = ascend_last kept n (ascend_without leads larger (get_or leads n []) places h.ascend) all;
            each = λ i k. elim (cases_last i k) as (λ _. IsIn i (kept ++ n ∷ []) ⊎ (is_ever_passed order leads (pair_at leads larger i) ≡ true)) [
              | inl b ↦ stays i (h.each i b)
              | inr s ↦ inl (subst (λ j. IsIn j (kept ++ n ∷ [])) (sym s) (in_last n kept))
            ];
          }
        where
          stays : (i : ℕ) → IsIn i places ⊎ (is_ever_passed order leads (pair_at leads larger i) ≡ true)
              → IsIn i (without_multiples leads larger (get_or leads n []) places ++ n ∷ []) ⊎ (is_ever_passed order leads (pair_at leads larger i) ≡ true)
          stays i (inr p) = inr p
          stays i (inl m) = elim (in_without leads larger (get_or leads n []) places i m) as (λ _.
              IsIn i (without_multiples leads larger (get_or leads n []) places ++ n ∷ []) ⊎ (is_ever_passed order leads (pair_at leads larger i) ≡ true)) [
                | inl w ↦ inl (in_left i (without_multiples leads larger (get_or leads n []) places) (n ∷ []) w)
                | inr d ↦ inr (old_passed e i m d)
              ]

  minimal_kept : (n : ℕ) → n ≤ larger → IsKept order leads larger n (minimal_places leads larger n)
  minimal_kept zero l = record { below = tt; ascend = tt; each = λ i k. absurd (omega arith) }
  minimal_kept (suc n) l = step n (minimal_places leads larger n) (omega arith) (minimal_kept n (omega arith))

  pub enough : AreEnough order leads larger (without_coprime leads larger (minimal_places leads larger larger))
  enough =
      let h = minimal_kept larger (omega arith) in
      let places : List ℕ = minimal_places leads larger larger in
      record {
        below = all_common leads larger (λ i. i < larger) places h.below;
        each = λ i l. elim (h.each i l) as (λ _.
            Contains (without_coprime leads larger places) i ⊎ (is_ever_passed order leads (pair_at leads larger i) ≡ true)) [
              | inl m ↦ common i m
              | inr p ↦ inr p
            ];
      }
    where
      common : (i : ℕ) → IsIn i (minimal_places leads larger larger)
          → Contains (without_coprime leads larger (minimal_places leads larger larger)) i ⊎ (is_ever_passed order leads (pair_at leads larger i) ≡ true)
      common i m = elim (in_common leads larger (minimal_places leads larger larger) i m) as (λ _.
          Contains (without_coprime leads larger (minimal_places leads larger larger)) i ⊎ (is_ever_passed order leads (pair_at leads larger i) ≡ true)) [
            | inl w ↦ inl (contained i (without_coprime leads larger (minimal_places leads larger larger)) w)
            | inr e ↦ inr (or_left (coprime (get_or leads i []) (get_or leads larger [])) (has_earlier_third order leads (pair_at leads larger i) 0 leads) e)
          ]

  pub ascending_places : Ascend (without_coprime leads larger (minimal_places leads larger larger))
  ascending_places = ascend_common leads larger (minimal_places leads larger larger) (minimal_kept larger (omega arith)).ascend

-- the places are below
pub minimal_below : (leads : List (List ℕ)) (larger n : ℕ) → AllByRecursion (λ i. i < n) (minimal_places leads larger n)
minimal_below leads larger zero = tt
minimal_below leads larger (suc n) = by_test (has_divisor_at leads (lcm_at leads n larger) (minimal_places leads larger n)) (minimal_below leads larger n)
  where
    by_test : (b : Bool) → AllByRecursion (λ i. i < n) (minimal_places leads larger n)
        → AllByRecursion (λ i. i < suc n)
        (cond b (minimal_places leads larger n) (without_multiples leads larger (get_or leads n []) (minimal_places leads larger n) ++ n ∷ []))
    by_test true ih = all_weaker (λ i. i < n) (λ i. i < suc n) (minimal_places leads larger n) ih (λ i k. omega arith)
    by_test false ih =
        let kept : List ℕ = without_multiples leads larger (get_or leads n []) (minimal_places leads larger n) in
        all_append (λ i. i < suc n) kept (n ∷ [])
        (all_weaker (λ i. i < n) (λ i. i < suc n) kept (all_without leads larger (λ i. i < n) (get_or leads n []) (minimal_places leads larger n) ih)
        (λ i k. omega arith))
        (omega arith, tt)
