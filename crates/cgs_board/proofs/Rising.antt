-- Lists of things at paths that strictly rise.
use Rattle.std.proofs.Common.{◌≡◌, ℕ, zero, suc, ◌<◌, ◌≤◌, false, List, [], ◌∷◌, ◌++◌, length, get_or, refl, ap, sym, ◌∙◌, subst, arith, inl, inr}
use Rattle.std.specs.declared.cmp.Ordering.{Ordering}
use Rattle.std.specs.declared.cmp.Ordering.TheVariants.{Less, Equal, Greater}
use Rattle.std.specs.Ordering.{is_lt}
use Rattle.std.specs.List.Sorted.{IsSortedByKey, IsPermutation}
use Rattle.std.proofs.lemmas.Bool.{true≢false}
use Rattle.std.proofs.lemmas.Cmp.{nat_list_cmp_total}
use Rattle.std.proofs.lemmas.List.Sorted.{sorted_far, ranks_by, sum_by-IsPermutation}
use Rattle.std.specs.Prelude.{Some, slice_get}
use Rattle.std.proofs.lemmas.Option.{none-some, same_Some}
use Rattle.cgs_board.proofs.HistoryLemmas.{Contains_at}
use Rattle.cgs_path.specs.PathOrder.{compared}
use Rattle.cgs_path.proofs.PathLemmas.{equal_is_same, not_before_itself, not_both_before, greater_is_after}
use Rattle.cgs_board.proofs.Members.{In, Contains_in, in_Contains, in_append_cases, count_at, count_at-cons, at_path, at_most_one, counts_is, counted_is}
use Rattle.cgs_board.proofs.Members.{RepeatsNone, repeats_none_tail, not_repeated}

-- what is not before another path, and is not that path, comes after it
not_before : (p q : List ℕ) (o : Ordering) → compared q p ≡ o → is_lt o ≡ false → (p ≡ q → ⊥) → compared p q ≡ Less
not_before p q Less is other apart = absurd (true≢false other)
not_before p q Equal is other apart = absurd (apart (sym (equal_is_same q p is)))
not_before p q Greater is other apart = greater_is_after q p is

module _ {Y : Type 0} where
  -- the path comes before all paths of the list
  abbrev pub IsBefore : List ℕ → List (List ℕ × Y) → Type 0
  IsBefore p [] = Unit {0}
  IsBefore p (x ∷ xs) = (compared p x.0 ≡ Less) × IsBefore p xs

  -- each path comes before those after it
  abbrev pub Rises : List (List ℕ × Y) → Type 0
  Rises [] = Unit {0}
  Rises (x ∷ xs) = IsBefore x.0 xs × Rises xs

  pub before_in : (p : List ℕ) (x : List ℕ × Y) (xs : List (List ℕ × Y)) → IsBefore p xs → In x xs → compared p x.0 ≡ Less
  before_in p x [] b m = absurd m
  before_in p x (y ∷ xs) b (inl is) = subst (λ (z : List ℕ × Y). compared p z.0 ≡ Less) is b.0
  before_in p x (y ∷ xs) b (inr m) = before_in p x xs b.1 m

  pub before_all : (p : List ℕ) (xs : List (List ℕ × Y)) → ((x : List ℕ × Y) → In x xs → compared p x.0 ≡ Less) → IsBefore p xs
  before_all p [] all = tt
  before_all p (y ∷ xs) all = (all y (inl refl), before_all p xs (λ x m. all x (inr m)))

  pub rises-append : (xs ys : List (List ℕ × Y)) → Rises xs → Rises ys → ((x y : List ℕ × Y) → In x xs → In y ys → compared x.0 y.0 ≡ Less) → Rises (xs ++ ys)
  rises-append [] ys up later between = later
  rises-append (x ∷ xs) ys up later between = (
    before_all x.0 (xs ++ ys) (λ y m. elim (in_append_cases y xs ys m) [ inl a ↦ before_in x.0 y xs up.0 a | inr b ↦ between x y (inl refl) b ]),
    rises-append xs ys up.1 later (λ a b m n. between a b (inr m) n),
  )

  -- a list that rises repeats no path: what stands at the first path does not come later
  pub rises_repeats_none : (xs : List (List ℕ × Y)) → Rises xs → RepeatsNone xs
  rises_repeats_none [] up p = omega arith
  rises_repeats_none (x ∷ xs) up p = by_count (count_at p xs) refl (at_path p x) refl (rises_repeats_none xs up.1 p)
    where
      by_count : (n : ℕ) → count_at p xs ≡ n → (k : ℕ) → at_path p x ≡ k → count_at p xs ≤ 1 → count_at p (x ∷ xs) ≤ 1
      by_count zero is k here few = omega (arith, is, count_at-cons p x xs, at_most_one p x)
      by_count (suc n) is zero here few = omega (arith, here, few, count_at-cons p x xs)
      by_count (suc n) is (suc k) here few =
          let r = counted_is p xs (omega (arith, is)) in
          let same = counts_is p x (omega (arith, here)) in
          absurd (not_before_itself x.0 (subst (λ q. compared x.0 q ≡ Less) (sym r.2 ∙ same) (before_in x.0 r.0 xs up.0 r.1)))

  pub rises_at : (xs : List (List ℕ × Y)) → Rises xs → (i j : ℕ) (x y : List ℕ × Y) → slice_get xs i ≡ Some x → slice_get xs j ≡ Some y → i < j
      → compared x.0 y.0 ≡ Less
  rises_at [] up i j x y at there before = absurd (none-some x at)
  rises_at (z ∷ xs) up i zero x y at there before = absurd (omega (arith, before))
  rises_at (z ∷ xs) up zero (suc j) x y at there before =
      subst (λ (w : List ℕ × Y). compared w.0 y.0 ≡ Less) (same_Some z x at) (before_in z.0 y xs up.0 (in_Contains y xs (Contains_at xs j y there)))
  rises_at (z ∷ xs) up (suc i) (suc j) x y at there before = rises_at xs up.1 i j x y at there (omega (arith, before))

  same_first : (x y : List ℕ × Y) (xs ys : List (List ℕ × Y)) → IsBefore x.0 xs → IsBefore y.0 ys → In x (y ∷ ys) → In y (x ∷ xs) → x ≡ y
  same_first x y xs ys up rising (inl a) n = sym a
  same_first x y xs ys up rising (inr a) (inl b) = b
  same_first x y xs ys up rising (inr a) (inr b) = absurd (not_both_before y.0 x.0 (before_in y.0 x ys rising a) (before_in x.0 y xs up b))

  tail_in : (x y z : List ℕ × Y) (xs ys : List (List ℕ × Y)) → x ≡ y → IsBefore x.0 xs → In z xs → In z (y ∷ ys) → In z ys
  tail_in x y z xs ys same up m (inl a) =
      absurd (not_before_itself x.0 (subst (λ (w : List ℕ × Y). compared x.0 w.0 ≡ Less) (sym (same ∙ a)) (before_in x.0 z xs up m)))
  tail_in x y z xs ys same up m (inr b) = b

  -- two lists that rise and have the same members are equal
  pub rising_same : (xs ys : List (List ℕ × Y)) → Rises xs → Rises ys → ((x : List ℕ × Y) → In x xs → In x ys) → ((x : List ℕ × Y) → In x ys → In x xs)
      → xs ≡ ys
  rising_same [] [] up rising there back = refl
  rising_same [] (y ∷ ys) up rising there back = absurd (back y (inl refl))
  rising_same (x ∷ xs) [] up rising there back = absurd (there x (inl refl))
  rising_same (x ∷ xs) (y ∷ ys) up rising there back =
      let first : x ≡ y = same_first x y xs ys up.0 rising.0 (there x (inl refl)) (back y (inl refl)) in
      let rest : xs ≡ ys = rising_same xs ys up.1 rising.1
      (λ z m. tail_in x y z xs ys first up.0 m (there z (inr m)))
      (λ z m. tail_in y x z ys xs (sym first) rising.0 m (back z (inr m))) in
      λ i. first i ∷ rest i

  -- ---- a sorted list that repeats no path

  abbrev Far : List (List ℕ × Y) → Type 0
  Far xs = (i j : ℕ) (d : List ℕ × Y) → i ≤ j → j < length xs → is_lt (compared (get_or xs j d).0 (get_or xs i d).0) ≡ false

  rises_far : (xs : List (List ℕ × Y)) → Far xs → RepeatsNone xs → Rises xs
  rises_far [] far once = tt
  rises_far (x ∷ xs) far once = (
    before_all x.0 xs (λ y m.
        let c = Contains_in y xs m in
        let lt = c.1 in
        let late : is_lt (compared y.0 x.0) ≡ false = ap (λ (z : List ℕ × Y). is_lt (compared z.0 x.0)) (sym c.2)
        ∙ far 0 (suc c.0) y (omega arith) (omega (arith, lt)) in
        not_before x.0 y.0 (compared y.0 x.0) refl late (not_repeated x y xs once m)),
    rises_far xs (λ i j d le lt. far (suc i) (suc j) d (omega (arith, le)) (omega (arith, lt))) (repeats_none_tail x xs once),
  )

  -- a sorted list of things that stand at distinct paths rises
  pub sorted_rises : (xs ys : List (List ℕ × Y)) → RepeatsNone xs → IsPermutation xs ys → IsSortedByKey (λ (x : List ℕ × Y). x.0) compared ys → Rises ys
  sorted_rises xs ys once moved up =
      rises_far ys (sorted_far (λ x y. is_lt (compared x.0 y.0)) (ranks_by nat_list_cmp_total (λ (x : List ℕ × Y). x.0)) ys up)
      (λ p. omega (arith, sum_by-IsPermutation (at_path p) xs ys moved, once p))
