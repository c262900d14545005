-- One place of the walk through the box: what the exponents before a place give, and where to stop.
use Rattle.std.proofs.Common.{ℕ, zero, suc, ◌≡◌, ◌+◌, ◌-◌, ◌<◌, ◌≤◌, inl, inr, Bool, true, false, not, cond, List, [], ◌∷◌, ◌++◌, length, map, min, take, drop}
use Rattle.std.proofs.Common.{set, replicate, nat_le, refl, sym, ap, ◌∙◌, subst, arith, add-one, append_assoc, length-append}
use Rattle.std.proofs.lemmas.Bool.{both_ways, cases_lt, and_parts, le-leb, lt-leb, leb-true}
use Rattle.std.proofs.lemmas.List.{get_or_at, length-replicate, take_more_set, set_split, drop-set-lt, take-replicate, length-take-le, drop-drop}
use Rattle.std.proofs.lemmas.List.{drop-replicate, length-drop}
use Rattle.std.proofs.lemmas.List.Sums.{sum_by-append, sum_by-cons}
use Rattle.cgs_report.specs.Standard.{has_divisor}
use Rattle.cgs_report.specs.Box.{has_power, have_powers, side, starting, box}
use Rattle.cgs_report.specs.Laws.{HavePlaces}
use Rattle.cgs_report.specs.Walk.{standard_after, least_last}
use Rattle.cgs_report.proofs.LastLemmas.{least_divides}
use Rattle.cgs_report.proofs.DivisorLemmas.{divisor_more, corner_divides, side_divides}

-- the count over lists

after_cons : (L : List (List ℕ)) (p x : List ℕ) (M : List (List ℕ))
    → standard_after L p (x ∷ M) ≡ cond (not (has_divisor L (p ++ x))) 1 0 + standard_after L p M
after_cons L p x M = sum_by-cons (λ m. cond (not (has_divisor L (p ++ m))) 1 0) x M

after_append : (L : List (List ℕ)) (p : List ℕ) (M N : List (List ℕ)) → standard_after L p (M ++ N) ≡ standard_after L p M + standard_after L p N
after_append L p M N = sum_by-append (λ m. cond (not (has_divisor L (p ++ m))) 1 0) M N

after_map : (L : List (List ℕ)) (p : List ℕ) (e : ℕ) (M : List (List ℕ)) → standard_after L p (map (λ m. e ∷ m) M) ≡ standard_after L (p ++ e ∷ []) M
after_map L p e [] = refl
after_map L p e (x ∷ M) =
    let a : p ++ e ∷ [] ++ x ≡ p ++ e ∷ x = append_assoc p (e ∷ []) x in
    after_cons L p (e ∷ x) (map (λ m. e ∷ m) M)
    ∙ (ap (λ n. cond (not (has_divisor L (p ++ e ∷ x))) 1 0 + n) (after_map L p e M)
    ∙ (ap (λ l. cond (not (has_divisor L l)) 1 0 + standard_after L (p ++ e ∷ []) M) (sym a) ∙ sym (after_cons L (p ++ e ∷ []) x M)))

-- the monomial that ends in an exponent and 1
abbrev corner : List ℕ → ℕ → ℕ → List ℕ
corner p k e = p ++ e ∷ replicate k 0

module _ (n i k : ℕ) (L : List (List ℕ)) (p : List ℕ) (h : HavePlaces n L) (long : length p ≡ i) (all : n ≡ i + suc k) where
  corner_length : (e : ℕ) → length (corner p k e) ≡ n
  corner_length e = length-append p (e ∷ replicate k 0) ∙ (let b = length-replicate {A = ℕ} k 0 in omega (arith, b))

  -- where the corner has a divisor, so has all that comes after it
  none_after : (e f : ℕ) (M : List (List ℕ)) → has_divisor L (corner p k e) ≡ true → e ≤ f → standard_after L (p ++ f ∷ []) M ≡ 0
  none_after e f [] d l = refl
  none_after e f (x ∷ M) d l =
      let a : p ++ f ∷ [] ++ x ≡ p ++ f ∷ x = append_assoc p (f ∷ []) x in
      let t : has_divisor L (p ++ f ∷ x) ≡ true = divisor_more n L (corner p k e) (p ++ f ∷ x) h (corner_length e) (corner_divides p k e f x l) d in
      let u : has_divisor L (p ++ f ∷ [] ++ x) ≡ true = ap (has_divisor L) a ∙ t in
      after_cons L (p ++ f ∷ []) x M ∙ (let r = none_after e f M d l in rw u (omega (arith, r)))

  pub stop_above : (e f : ℕ) (M : List (List ℕ)) → has_divisor L (corner p k e) ≡ true → e ≤ f
      → standard_after L p (starting f M) ≡ standard_after L p (starting e M)
  stop_above e zero M d l = let z : e ≡ 0 = omega arith in rw z refl
  stop_above e (suc f) M d l =
      elim (cases_lt f e) [
        | inl q ↦ let z : e ≡ suc f = omega arith in rw z refl
        | inr q ↦ after_append L p (starting f M) (map (λ m. f ∷ m) M)
            ∙ (let a = after_map L p f M in let b = none_after e f M d q in let c = stop_above e f M d q in omega (arith, a, b, c))
      ]

  -- one exponent more
  pub one_more : (e : ℕ) (M : List (List ℕ)) → standard_after L p (starting (e + 1) M) ≡ standard_after L p (starting e M) + standard_after L (p ++ e ∷ []) M
  one_more e M = rw add-one (after_append L p (starting e M) (map (λ m. e ∷ m) M) ∙ ap (λ c. standard_after L p (starting e M) + c) (after_map L p e M))

  pub fewer_before : (e f : ℕ) (M : List (List ℕ)) → e ≤ f → standard_after L p (starting e M) ≤ standard_after L p (starting f M)
  fewer_before e zero M l = let z : e ≡ 0 = omega arith in rw z (omega arith)
  fewer_before e (suc f) M l =
      elim (cases_lt f e) [
        | inl q ↦ let z : e ≡ suc f = omega arith in rw z (omega arith)
        | inr q ↦ let a = after_append L p (starting f M) (map (λ m. f ∷ m) M) in let c = fewer_before e f M q in omega (arith, a, c)
      ]

  module _ (power : has_power i L ≡ true) where
    past_side : (e : ℕ) → side i L ≤ e → has_divisor L (corner p k e) ≡ true
    past_side e l = side_divides n i L (corner p k e) h (corner_length e) power (let g = get_or_at p e (replicate k 0) 0 i long in omega (arith, g))

    -- the count is whole where the corner has a divisor
    pub stop_whole : (e : ℕ) (M : List (List ℕ)) → has_divisor L (corner p k e) ≡ true
        → standard_after L p (starting (side i L) M) ≡ standard_after L p (starting e M)
    stop_whole e M d =
        elim (cases_lt e (side i L)) [
          | inl q ↦ stop_above e (side i L) M d (omega arith)
          | inr q ↦ sym (stop_above (side i L) e M (past_side (side i L) (omega arith)) q)
        ]

    pub stop_at_side : (e : ℕ) (M : List (List ℕ)) → side i L ≤ e → standard_after L p (starting (side i L) M) ≡ standard_after L p (starting e M)
    stop_at_side e M l = stop_whole e M (past_side e l)

    -- where it has none, there is one exponent more to count
    pub more_whole : (e : ℕ) (M : List (List ℕ)) → has_divisor L (corner p k e) ≡ false
        → standard_after L p (starting e M) + standard_after L (p ++ e ∷ []) M ≤ standard_after L p (starting (side i L) M)
    more_whole e M d =
        elim (cases_lt e (side i L)) [
          | inl q ↦ let a = one_more e M in let b = fewer_before (e + 1) (side i L) M (omega arith) in omega (arith, a, b)
          | inr q ↦ absurd (both_ways _ d (past_side e q))
        ]

pub box_step : (L : List (List ℕ)) (i n : ℕ) → i < n → box L i (n - i) ≡ starting (side i L) (box L (i + 1) (n - (i + 1)))
box_step L i n l = let e : n - i ≡ suc (n - (i + 1)) = omega arith in rw e refl

pub power_step : (L : List (List ℕ)) (i n : ℕ) → i < n → have_powers L i (n - i) ≡ true → (has_power i L ≡ true) × (have_powers L (i + 1) (n - (i + 1)) ≡ true)
power_step L i n l h = let e : n - i ≡ suc (n - (i + 1)) = omega arith in let s = h in and_parts _ _ (rw e at s)

-- the exponents at hand: some that are set, and 0 after them

take_after : (p q : List ℕ) (n j : ℕ) → n ≡ length p + j → take n (p ++ q) ≡ p ++ take j q
take_after [] q n j e = let f : n ≡ j = omega arith in rw f refl
take_after (x ∷ p) q zero j e = absurd (omega arith)
take_after (x ∷ p) q (suc n) j e = ap (λ l. x ∷ l) (take_after p q n j (omega arith))

-- what stands after a place that is set
rest_zero : (m : List ℕ) (i s : ℕ) → drop i m ≡ replicate (s - i) 0 → drop (i + 1) m ≡ replicate (s - (i + 1)) 0
rest_zero m i s z =
    let e : (s - i) - 1 ≡ s - (i + 1) = omega arith in
    sym (drop-drop 1 i m) ∙ (ap (drop 1) z ∙ (drop-replicate 1 (s - i) 0 ∙ ap (λ j. replicate j 0) e))

pub zeros_after : (m : List ℕ) (i s e : ℕ) → drop i m ≡ replicate (s - i) 0 → drop (i + 1) (set m i e) ≡ replicate (s - (i + 1)) 0
zeros_after m i s e z = drop-set-lt (i + 1) m i e (omega arith) ∙ rest_zero m i s z

-- all exponents are at hand
zeros_length : (m : List ℕ) (i s : ℕ) → i < s → drop i m ≡ replicate (s - i) 0 → length m ≡ s
zeros_length m i s l z =
    let a = ap length z in
    let b = length-drop i m in
    let c = length-replicate {A = ℕ} (s - i) 0 in
    omega (arith, a, b, c)

pub corner_taken : (m : List ℕ) (i n s e : ℕ) → length m ≡ s → i < n → n ≤ s → drop i m ≡ replicate (s - i) 0
    → take n (set m i e) ≡ corner (take i m) (n - (i + 1)) e
corner_taken m i n s e p l b z =
    let k : ℕ = n - (i + 1) in
    let r : ℕ = s - (i + 1) in
    let split : set m i e ≡ take i m ++ e ∷ drop (i + 1) m = rw add-one (set_split m i e (omega arith)) in
    let long : length (take i m) ≡ i = length-take-le i m (omega arith) in
    let f : n ≡ length (take i m) + suc k = omega (arith, long) in
    let t : take k (replicate r 0) ≡ replicate k 0 = take-replicate k r 0 (omega arith) in
    ap (take n) (split ∙ ap (λ q. take i m ++ e ∷ q) (rest_zero m i s z))
    ∙ (take_after (take i m) (e ∷ replicate r 0) n (suc k) f ∙ ap (λ q. take i m ++ e ∷ q) t)

-- the number that was counted before, and up to an exponent at the place

module _ (n i s : ℕ) (L : List (List ℕ)) (m : List ℕ) (h : HavePlaces n L) (l : i < n) (few : n ≤ s) (z : drop i m ≡ replicate (s - i) 0)
    (powers : have_powers L i (n - i) ≡ true) (most before : ℕ) where
  abbrev later : List (List ℕ)
  later = box L (i + 1) (n - (i + 1))

  abbrev up_to : ℕ → ℕ
  up_to e = before + standard_after L (take i m) (starting e later)

  abbrev answer : ℕ
  answer = min (before + standard_after L (take i m) (box L i (n - i))) (most + 1)

  abbrev after_one : ℕ → ℕ → ℕ
  after_one e count = min (count + standard_after L (take (i + 1) (set m i e)) later) (most + 1)

  long : length m ≡ s
  long = zeros_length m i s (omega arith) z

  prefix : length (take i m) ≡ i
  prefix = length-take-le i m (let a = long in omega (arith, a))

  all : n ≡ i + suc (n - (i + 1))
  all = omega arith

  power : has_power i L ≡ true
  power = (power_step L i n l powers).0

  at_corner : (e : ℕ) (b : Bool) → has_divisor L (take n (set m i e)) ≡ b → has_divisor L (corner (take i m) (n - (i + 1)) e) ≡ b
  at_corner e b d = sym (ap (has_divisor L) (corner_taken m i n s e long l few z)) ∙ d

  one_after : (e count : ℕ) → after_one e count ≡ min (count + standard_after L (take i m ++ e ∷ []) later) (most + 1)
  one_after e count = ap (λ p. min (count + standard_after L p later) (most + 1)) (take_more_set m i e (let a = long in omega (arith, a)))

  whole : standard_after L (take i m) (box L i (n - i)) ≡ standard_after L (take i m) (starting (side i L) later)
  whole = ap (standard_after L (take i m)) (box_step L i n l)

  pub answer_at_corner : (e count : ℕ) → count ≡ up_to e → count ≤ most → has_divisor L (take n (set m i e)) ≡ true → count ≡ answer
  answer_at_corner e count c k d =
      let a = whole in
      let b = stop_whole n i (n - (i + 1)) L (take i m) h prefix all power e later (at_corner e true d) in
      omega (arith, a, b)

  pub answer_at_end : (e count : ℕ) → count ≡ up_to e → count ≤ most → side i L ≤ e → count ≡ answer
  answer_at_end e count c k q =
      let a = whole in
      let b = stop_at_side n i (n - (i + 1)) L (take i m) h prefix all power e later q in
      omega (arith, a, b)

  pub answer_when_many : (e count more : ℕ) → count ≡ up_to e → more ≡ after_one e count → most < more → has_divisor L (take n (set m i e)) ≡ false
      → more ≡ answer
  answer_when_many e count more c k many d =
      let a = whole in
      let b = more_whole n i (n - (i + 1)) L (take i m) h prefix all power e later (at_corner e false d) in
      let q = one_after e count in
      omega (arith, a, b, q)

  pub counted_more : (e count more : ℕ) → count ≡ up_to e → more ≡ after_one e count → more ≤ most → more ≡ up_to (e + 1)
  counted_more e count more c k q =
      let b = one_more n i (n - (i + 1)) L (take i m) h prefix all e later in
      let r = one_after e count in
      omega (arith, b, r)

  -- at the last place those below the least exponent with a divisor are counted
  below_least : (b : ℕ) → ((e : ℕ) → e < b → has_divisor L (take i m ++ e ∷ []) ≡ false) → standard_after L (take i m) (starting b ([] ∷ [])) ≡ b
  below_least zero apart = refl
  below_least (suc b) apart =
      let p : List ℕ = take i m in
      let one : standard_after L p (map (λ m. b ∷ m) ([] ∷ [])) ≡ 1 =
      after_cons L p (b ∷ []) [] ∙ rw (apart b (omega arith)) refl in
      let rest = below_least b (λ e k. apart e (omega arith)) in
      after_append L p (starting b ([] ∷ [])) (map (λ m. b ∷ m) ([] ∷ [])) ∙ omega (arith, one, rest)

  pub answer_at_least : i + 1 ≡ n → side i L ≤ 32767 → (least : ℕ) → least ≡ least_last (take i m) L → min (before + least) (most + 1) ≡ answer
  answer_at_least last low least is =
      let p : List ℕ = take i m in
      let none : n - (i + 1) ≡ 0 = omega arith in
      let places : HavePlaces (length p + 1) L = subst (λ k. HavePlaces k L) (let a = prefix in omega (arith, a)) h in
      let at : (e : ℕ) → e < 32768 → has_divisor L (p ++ e ∷ []) ≡ nat_le least e = λ e b.
      least_divides p L e places b ∙ ap (λ k. nat_le k e) (sym is) in
      let past : has_divisor L (p ++ side i L ∷ replicate (n - (i + 1)) 0) ≡ true =
      past_side n i (n - (i + 1)) L p h prefix all power (side i L) (omega arith) in
      let past_last : has_divisor L (p ++ side i L ∷ []) ≡ true = ap (λ k. has_divisor L (p ++ side i L ∷ replicate k 0)) (sym none) ∙ past in
      let below : least ≤ side i L = leb-true least (side i L) (sym (at (side i L) (omega arith)) ∙ past_last) in
      let here : has_divisor L (p ++ least ∷ replicate (n - (i + 1)) 0) ≡ true =
      ap (λ k. has_divisor L (p ++ least ∷ replicate k 0)) none ∙ (at least (omega (arith, below)) ∙ le-leb least least (omega arith)) in
      let boxes : later ≡ [] ∷ [] = ap (λ k. box L (i + 1) k) none in
      let counted : standard_after L p (starting least ([] ∷ [])) ≡ least =
      below_least least (λ e k. at e (omega (arith, below)) ∙ lt-leb least e k) in
      let a = whole in
      let b = stop_whole n i (n - (i + 1)) L p h prefix all power least later here in
      let c : standard_after L p (starting least later) ≡ least = ap (λ M. standard_after L p (starting least M)) boxes ∙ counted in
      omega (arith, a, b, c)

-- the last place has no other after it
pub last_standard : (L : List (List ℕ)) (m : List ℕ) (n i e : ℕ) → has_divisor L (take n (set m i e)) ≡ false → i + 1 ≡ n
    → has_divisor L (take (i + 1) (set m i e)) ≡ false
last_standard L m n i e d q = ap (λ k. has_divisor L (take k (set m i e))) q ∙ d

-- one place that has a power
pub powers_more : (L : List (List ℕ)) (i n : ℕ) → i < n → has_power i L ≡ true → have_powers L (i + 1) (n - (i + 1)) ≡ have_powers L i (n - i)
powers_more L i n l h = let e : n - i ≡ suc (n - (i + 1)) = omega arith in rw (e, h) refl
