-- The box of the least powers: each of its monomials stands there once, and all standard ones do.
use Rattle.std.proofs.Common.{ℕ, zero, suc, ◌≡◌, ◌+◌, ◌-◌, ◌<◌, ◌≤◌, ◌⊎◌, inl, inr, Bool, true, false, not, List, [], ◌∷◌, ◌++◌, length, map, get_or}
use Rattle.std.proofs.Common.{length-append, replicate, refl, sym, ap, ◌∙◌, subst, arith, add-zero}
use Rattle.std.specs.List.{AllByRecursion, IsDistinct, filter}
use Rattle.std.proofs.lemmas.Bool.{and_from, or_cases, or_left, or_right, eq-eqb, ne_eqb, false_from_ne_true, true_from_ne_false, cases_Bool, cases_order}
use Rattle.std.proofs.lemmas.Bool.{both_ways, not-true, not_from_false}
use Rattle.std.proofs.lemmas.List.{get_or_at, length-replicate}
use Rattle.std.proofs.lemmas.Slice.Eq.{bytes_eq-Decides}
use Rattle.std.specs.Str.{bytes_eq}
use Rattle.std.proofs.lemmas.Map.Made.{is_member-filter, length-from_same_keys}
use Rattle.std.proofs.lemmas.Cmp.{nat_list_eq_equiv}
use Rattle.cgs_list.proofs.ListLemmas.{all_append, all_weaker}
use Rattle.cgs_report.specs.Standard.{has_divisor, IsStandard, HasExactly, AreFinite, is_listed}
use Rattle.cgs_report.specs.Box.{has_power, side, starting, box, standard_monomials}
use Rattle.cgs_report.specs.Laws.{HavePlaces}
use Rattle.cgs_report.proofs.DivisorLemmas.{side_divides, no_power-apart}

-- lists where each is apart from each

abbrev Apart : List (List ℕ) → List (List ℕ) → Type 0
Apart M N = AllByRecursion (λ x. AllByRecursion (λ y. bytes_eq x y ≡ false) N) M

all_map : (P : List ℕ → Type 0) (b : ℕ) (M : List (List ℕ)) → ((m : List ℕ) → P (b ∷ m)) → AllByRecursion P (map (λ m. b ∷ m) M)
all_map P b [] h = tt
all_map P b (x ∷ M) h = (h x, all_map P b M h)

all_map_from : (P Q : List ℕ → Type 0) (b : ℕ) (M : List (List ℕ)) → ((m : List ℕ) → P m → Q (b ∷ m)) → AllByRecursion P M
    → AllByRecursion Q (map (λ m. b ∷ m) M)
all_map_from P Q b [] h a = tt
all_map_from P Q b (x ∷ M) h a = (h x a.0, all_map_from P Q b M h a.1)

distinct_append : (M N : List (List ℕ)) → IsDistinct bytes_eq M → IsDistinct bytes_eq N → Apart M N → IsDistinct bytes_eq (M ++ N)
unfolding IsDistinct
distinct_append [] N a b c = b
distinct_append (x ∷ M) N a b c = (all_append (λ y. bytes_eq x y ≡ false) M N a.0 c.0, distinct_append M N a.1 b c.1)

differ : (b e : ℕ) (x y : List ℕ) → (b ≡ e → ⊥) → bytes_eq (b ∷ x) (e ∷ y) ≡ false
differ b e x y n = rw (ne_eqb b e n) refl

same_head : (b : ℕ) (x y : List ℕ) → bytes_eq x y ≡ false → bytes_eq (b ∷ x) (b ∷ y) ≡ false
same_head b x y d = rw (eq-eqb b b refl) d

distinct_map : (b : ℕ) (M : List (List ℕ)) → IsDistinct bytes_eq M → IsDistinct bytes_eq (map (λ m. b ∷ m) M)
unfolding IsDistinct
distinct_map b [] d = tt
distinct_map b (x ∷ M) d = (all_map_from (λ y. bytes_eq x y ≡ false) (λ y. bytes_eq (b ∷ x) y ≡ false) b M (λ m. same_head b x m) d.0, distinct_map b M d.1)

-- a first exponent below b

abbrev StartsUnder : ℕ → List ℕ → Type 0
StartsUnder b [] = ⊥
StartsUnder b (e ∷ m) = e < b

under : (b : ℕ) (M : List (List ℕ)) → AllByRecursion (StartsUnder b) (starting b M)
under zero M = tt
under (suc b) M = all_append (StartsUnder (suc b)) (starting b M) (map (λ m. b ∷ m) M)
    (all_weaker (StartsUnder b) (StartsUnder (suc b)) (starting b M) (under b M) more) (all_map (StartsUnder (suc b)) b M (λ m. omega arith))
  where
    more : (m : List ℕ) → StartsUnder b m → StartsUnder (suc b) m
    more [] h = absurd h
    more (e ∷ m) h = omega arith

under_apart : (b : ℕ) (m : List ℕ) (M : List (List ℕ)) → StartsUnder b m → AllByRecursion (λ y. bytes_eq m y ≡ false) (map (λ m. b ∷ m) M)
under_apart b [] M h = absurd h
under_apart b (e ∷ m) M h = all_map (λ y. bytes_eq (e ∷ m) y ≡ false) b M (λ y. differ e b m y (λ q. omega arith))

pub starting_distinct : (b : ℕ) (M : List (List ℕ)) → IsDistinct bytes_eq M → IsDistinct bytes_eq (starting b M)
unfolding IsDistinct
starting_distinct zero M d = tt
starting_distinct (suc b) M d =
    distinct_append (starting b M) (map (λ m. b ∷ m) M) (starting_distinct b M d) (distinct_map b M d)
    (all_weaker (StartsUnder b) (λ x. AllByRecursion (λ y. bytes_eq x y ≡ false) (map (λ m. b ∷ m) M)) (starting b M) (under b M) (λ m h. under_apart b m M h))

pub box_distinct : (L : List (List ℕ)) (i k : ℕ) → IsDistinct bytes_eq (box L i k)
unfolding IsDistinct
box_distinct L i zero = (tt, tt)
box_distinct L i (suc k) = starting_distinct (side i L) (box L (i + 1) k) (box_distinct L (i + 1) k)

-- how long the monomials are

starting_places : (k b : ℕ) (M : List (List ℕ)) → HavePlaces k M → HavePlaces (suc k) (starting b M)
starting_places k zero M h = tt
starting_places k (suc b) M h =
    all_append (λ m. length m ≡ suc k) (starting b M) (map (λ m. b ∷ m) M) (starting_places k b M h)
    (all_map_from (λ m. length m ≡ k) (λ m. length m ≡ suc k) b M (λ m p. omega arith) h)

pub box_places : (L : List (List ℕ)) (i k : ℕ) → HavePlaces k (box L i k)
box_places L i zero = (refl, tt)
box_places L i (suc k) = starting_places k (side i L) (box L (i + 1) k) (box_places L (i + 1) k)

-- what is there

among_append : (m : List ℕ) (M N : List (List ℕ)) → (is_listed m M ≡ true) ⊎ (is_listed m N ≡ true) → is_listed m (M ++ N) ≡ true
among_append m [] N (inl h) = absurd (both_ways _ refl h)
among_append m [] N (inr h) = h
among_append m (x ∷ M) N (inl h) =
    elim (or_cases _ _ h) [
      | inl t ↦ or_left (bytes_eq m x) (is_listed m (M ++ N)) t
      | inr t ↦ or_right (bytes_eq m x) (is_listed m (M ++ N)) (among_append m M N (inl t))
    ]
among_append m (x ∷ M) N (inr h) = or_right (bytes_eq m x) (is_listed m (M ++ N)) (among_append m M N (inr h))

among_map : (b : ℕ) (m : List ℕ) (M : List (List ℕ)) → is_listed m M ≡ true → is_listed (b ∷ m) (map (λ m. b ∷ m) M) ≡ true
among_map b m [] h = h
among_map b m (x ∷ M) h =
    elim (or_cases _ _ h) [
      | inl t ↦ or_left (bytes_eq (b ∷ m) (b ∷ x)) (is_listed (b ∷ m) (map (λ m. b ∷ m) M)) (rw (eq-eqb b b refl) t)
      | inr t ↦ or_right (bytes_eq (b ∷ m) (b ∷ x)) (is_listed (b ∷ m) (map (λ m. b ∷ m) M)) (among_map b m M t)
    ]

among_starting : (b e : ℕ) (m : List ℕ) (M : List (List ℕ)) → e < b → is_listed m M ≡ true → is_listed (e ∷ m) (starting b M) ≡ true
among_starting zero e m M l h = absurd (omega arith)
among_starting (suc b) e m M l h =
    elim (cases_order e b) [
      | inl q ↦ among_append (e ∷ m) (starting b M) (map (λ m. b ∷ m) M)
          (inr (subst (λ c. is_listed (e ∷ m) (map (λ m. c ∷ m) M) ≡ true) q (among_map e m M h)))
      | inr q ↦ elim q [
        | inl r ↦ among_append (e ∷ m) (starting b M) (map (λ m. b ∷ m) M) (inl (among_starting b e m M r h))
        | inr r ↦ absurd (omega arith)
      ]
    ]

pub among_box : (L : List (List ℕ)) (i k : ℕ) (m : List ℕ) → length m ≡ k → ((j : ℕ) → j < k → get_or m j 0 < side (i + j) L) → is_listed m (box L i k) ≡ true
among_box L i zero [] p h = refl
among_box L i zero (e ∷ m) p h = absurd (omega arith)
among_box L i (suc k) [] p h = absurd (omega arith)
among_box L i (suc k) (e ∷ m) p h =
    among_starting (side i L) e m (box L (i + 1) k) (let q = h 0 (omega arith) in rw add-zero at q)
    (among_box L (i + 1) k m (omega arith) (λ j l. let q = h (suc j) (omega arith) in let r : i + suc j ≡ i + 1 + j = omega arith in rw r at q))

-- the standard ones

pub standard_bound : (n : ℕ) (L : List (List ℕ)) → HavePlaces n L → (m : List ℕ) → IsStandard n L m → (i : ℕ) → has_power i L ≡ true → get_or m i 0 < side i L
standard_bound n L h m s i p = elim (cases_order (get_or m i 0) (side i L)) [
  | inl q ↦ absurd (both_ways _ s.apart (side_divides n i L m h s.places p (omega arith)))
  | inr q ↦ elim q [ inl r ↦ r | inr r ↦ absurd (both_ways _ s.apart (side_divides n i L m h s.places p (omega arith))) ]
]

all_filter : (P : List ℕ → Type 0) (p : List ℕ → Bool) (M : List (List ℕ)) → AllByRecursion P M → AllByRecursion (λ m. P m × (p m ≡ true)) (filter p M)
all_filter P p [] a = tt
all_filter P p (x ∷ M) a = by_test (all_filter P p M a.1) (p x) refl
  where
    by_test : AllByRecursion (λ m. P m × (p m ≡ true)) (filter p M) → (b : Bool) → p x ≡ b → AllByRecursion (λ m. P m × (p m ≡ true)) (filter p (x ∷ M))
    by_test ih true e = rw e ((a.0, e), ih)
    by_test ih false e = rw e ih

distinct_filter : (p : List ℕ → Bool) (M : List (List ℕ)) → IsDistinct bytes_eq M → IsDistinct bytes_eq (filter p M)
unfolding IsDistinct
distinct_filter p [] d = tt
distinct_filter p (x ∷ M) d = by_test (distinct_filter p M d.1)
    (all_weaker (λ y. (bytes_eq x y ≡ false) × (p y ≡ true)) (λ y. bytes_eq x y ≡ false) (filter p M) (all_filter (λ y. bytes_eq x y ≡ false) p M d.0)
    (λ y h. h.0)) (p x) refl
  where
    by_test : IsDistinct bytes_eq (filter p M) → AllByRecursion (λ y. bytes_eq x y ≡ false) (filter p M) → (b : Bool) → p x ≡ b
        → IsDistinct bytes_eq (filter p (x ∷ M))
    by_test ih apart true e = rw e (apart, ih)
    by_test ih apart false e = rw e ih

among_filter : (m : List ℕ) (p : List ℕ → Bool) (M : List (List ℕ)) → p m ≡ true → is_listed m M ≡ true → is_listed m (filter p M) ≡ true
among_filter m p M t h = is_member-filter nat_list_eq_equiv p m (λ x e. ap p ((bytes_eq-Decides m x).0 e)) M ∙ and_from (is_listed m M) (p m) h t

-- the box of the least powers has the standard monomials, where each variable has a power
pub finite_box : (n : ℕ) (L : List (List ℕ)) → HavePlaces n L → ((i : ℕ) → i < n → has_power i L ≡ true) → HasExactly (IsStandard n L) (standard_monomials n L)
finite_box n L h p = record {
  distinct = distinct_filter (λ m. not (has_divisor L m)) (box L 0 n) (box_distinct L 0 n);
  each = all_weaker (λ m. (length m ≡ n) × (not (has_divisor L m) ≡ true)) (IsStandard n L) (standard_monomials n L)
      (all_filter (λ m. length m ≡ n) (λ m. not (has_divisor L m)) (box L 0 n) (box_places L 0 n))
      (λ m e. record { places = e.0; apart = not-true (has_divisor L m) e.1 });
  all = λ m s. among_filter m (λ m. not (has_divisor L m)) (box L 0 n) (not_from_false (has_divisor L m) s.apart)
      (among_box L 0 n m s.places (λ j l. let q = standard_bound n L h m s j (p j l) in let e : 0 + j ≡ j = omega arith in rw e q));
}

-- finitely many only so

abbrev exponents_at : ℕ → List (List ℕ) → ℕ
exponents_at i [] = 0
exponents_at i (x ∷ M) = get_or x i 0 + exponents_at i M

among_exponent : (i : ℕ) (m : List ℕ) (M : List (List ℕ)) → is_listed m M ≡ true → get_or m i 0 ≤ exponents_at i M
among_exponent i m [] h = absurd (both_ways _ refl h)
among_exponent i m (x ∷ M) h =
    elim (or_cases _ _ h) [
      | inl t ↦ let e : get_or m i 0 ≡ get_or x i 0 = ap (λ k. get_or k i 0) ((bytes_eq-Decides m x).0 t) in omega arith
      | inr t ↦ let e = among_exponent i m M t in omega (arith, e)
    ]

pub finite_powers : (n : ℕ) (L : List (List ℕ)) → HavePlaces n L → AreFinite (IsStandard n L) → (i : ℕ) → i < n → has_power i L ≡ true
finite_powers n L h f i l = true_from_ne_false (has_power i L) (λ e. contradiction (n - suc i) (omega arith) e)
  where
    contradiction : (k : ℕ) → n ≡ i + suc k → has_power i L ≡ false → ⊥
    contradiction k p e =
        let top : ℕ = suc (exponents_at i f.monomials) in
        let m : List ℕ = replicate i 0 ++ top ∷ replicate k 0 in
        let long : length m ≡ n = length-append (replicate i 0) (top ∷ replicate k 0)
        ∙ (let a = length-replicate {A = ℕ} i 0 in let b = length-replicate {A = ℕ} k 0 in omega (arith, a, b)) in
        let s : IsStandard n L m = record { places = long; apart = no_power-apart i k top L (subst (λ j. HavePlaces j L) p h) e } in
        let a = among_exponent i m f.monomials (f.all m s) in
        let b : get_or m i 0 ≡ top = get_or_at (replicate i 0) top (replicate k 0) 0 i (length-replicate {A = ℕ} i 0) in
        omega (arith, a, b)

pub one_number : (n : ℕ) (L M N : List (List ℕ)) → HasExactly (IsStandard n L) M → HasExactly (IsStandard n L) N → length M ≡ length N
one_number n L M N a b = length-from_same_keys nat_list_eq_equiv M N a.distinct b.distinct same
  where
    inside : (M : List (List ℕ)) (q : List ℕ) → AllByRecursion (IsStandard n L) M → is_listed q M ≡ true → IsStandard n L q
    inside [] q s e = absurd (both_ways _ refl e)
    inside (x ∷ M) q s e =
        elim (or_cases _ _ e) [
          | inl t ↦ subst (IsStandard n L) (sym ((bytes_eq-Decides q x).0 t)) s.0
          | inr t ↦ inside M q s.1 t
        ]

    same : (q : List ℕ) → is_listed q M ≡ is_listed q N
    same q =
        elim (cases_Bool (is_listed q M)) [
          | inl t ↦ t ∙ sym (b.all q (inside M q a.each t))
          | inr t ↦ t ∙ sym (false_from_ne_true (is_listed q N) (λ e. both_ways _ t (a.all q (inside N q b.each e))))
        ]
