-- Members of a list by recursion, and lists of things at paths: how many stand at a path, and how long a list is that repeats no path.
use Rattle.std.proofs.Common.{◌≡◌, ℕ, zero, suc, ◌+◌, ◌<◌, ◌≤◌, true, false, List, [], ◌∷◌, ◌++◌, length, get_or, refl, ap, sym, ◌∙◌, subst, arith, inl, inr}
use Rattle.std.specs.Prelude.{◌⊎◌, Contains, flat_map, sum_by, nat_eq}
use Rattle.std.specs.List.Sorted.{IsPermutation}
use Rattle.std.proofs.lemmas.List.Sorted.{Contains-permutation, IsPermutation-sym}
use Rattle.std.specs.Cmp.Lexicographic.{pointwise, bytes_decides}
use Rattle.std.proofs.lemmas.List.Sums.{sum_by-cons, sum_by-append}
use Rattle.std.proofs.lemmas.Bool.{cases_Bool}
use Rattle.cgs_board.specs.Slots.{count_if}

abbrev pub In : {X : Type 0} → X → List X → Type 0
In x [] = ⊥
In x (y ∷ ys) = (y ≡ x) ⊎ In x ys

pub in_append_left : {X : Type 0} (x : X) (xs ys : List X) → In x xs → In x (xs ++ ys)
in_append_left x [] ys m = absurd m
in_append_left x (y ∷ xs) ys (inl is) = inl is
in_append_left x (y ∷ xs) ys (inr m) = inr (in_append_left x xs ys m)

pub in_append_right : {X : Type 0} (x : X) (xs ys : List X) → In x ys → In x (xs ++ ys)
in_append_right x [] ys m = m
in_append_right x (y ∷ xs) ys m = inr (in_append_right x xs ys m)

pub in_append_cases : {X : Type 0} (x : X) (xs ys : List X) → In x (xs ++ ys) → In x xs ⊎ In x ys
in_append_cases x [] ys m = inr m
in_append_cases x (y ∷ xs) ys (inl is) = inl (inl is)
in_append_cases x (y ∷ xs) ys (inr m) = elim (in_append_cases x xs ys m) [ inl a ↦ inl (inr a) | inr b ↦ inr b ]

pub Contains_in : {X : Type 0} (x : X) (xs : List X) → In x xs → Contains xs x
Contains_in x [] m = absurd m
Contains_in x (y ∷ xs) (inl is) = (0, omega arith, is)
Contains_in x (y ∷ xs) (inr m) = let c = Contains_in x xs m in let lt = c.1 in (suc c.0, omega (arith, lt), c.2)

in_at : {X : Type 0} (x : X) (xs : List X) (k : ℕ) → k < length xs → get_or xs k x ≡ x → In x xs
in_at x [] k lt is = absurd (omega arith)
in_at x (y ∷ xs) zero lt is = inl is
in_at x (y ∷ xs) (suc k) lt is = inr (in_at x xs k (omega arith) is)

pub in_Contains : {X : Type 0} (x : X) (xs : List X) → Contains xs x → In x xs
in_Contains x xs c = in_at x xs c.0 c.1 c.2

pub in_permuted : {X : Type 0} (x : X) (xs ys : List X) → IsPermutation xs ys → In x xs → In x ys
in_permuted x xs ys moved m = in_Contains x ys (Contains-permutation xs ys x moved (Contains_in x xs m))

pub permuted_in : {X : Type 0} (x : X) (xs ys : List X) → IsPermutation xs ys → In x ys → In x xs
permuted_in x xs ys moved m = in_permuted x ys xs (IsPermutation-sym xs ys moved) m

-- ---- what a function gives at the elements of a list

pub in_flat_map : {X A : Type 0} (f : X → List A) (a : A) (x : X) (xs : List X) → In x xs → In a (f x) → In a (flat_map f xs)
in_flat_map f a x [] m here = absurd m
in_flat_map f a x (y ∷ xs) (inl is) here = in_append_left a (f y) (flat_map f xs) (subst (λ z. In a (f z)) (sym is) here)
in_flat_map f a x (y ∷ xs) (inr m) here = in_append_right a (f y) (flat_map f xs) (in_flat_map f a x xs m here)

pub flat_map_in : {X A : Type 0} (f : X → List A) (a : A) (xs : List X) → In a (flat_map f xs) → (x : X) × In x xs × In a (f x)
flat_map_in f a [] m = absurd m
flat_map_in f a (y ∷ xs) m = elim (in_append_cases a (f y) (flat_map f xs) m) [
  | inl here ↦ (y, inl refl, here)
  | inr later ↦ let r = flat_map_in f a xs later in (r.0, inr r.1, r.2)
]

-- ---- how many stand at a path

module _ {Y : Type 0} where
  abbrev pub at_path : List ℕ → List ℕ × Y → ℕ
  at_path p x = count_if (pointwise nat_eq p x.0)

  abbrev pub count_at : List ℕ → List (List ℕ × Y) → ℕ
  count_at p xs = sum_by (at_path p) xs

  pub count_at-cons : (p : List ℕ) (x : List ℕ × Y) (xs : List (List ℕ × Y)) → count_at p (x ∷ xs) ≡ at_path p x + count_at p xs
  count_at-cons p x xs = sum_by-cons (at_path p) x xs

  pub count_at-append : (p : List ℕ) (xs ys : List (List ℕ × Y)) → count_at p (xs ++ ys) ≡ count_at p xs + count_at p ys
  count_at-append p xs ys = sum_by-append (at_path p) xs ys

  pub one_at : (p : List ℕ) (x : List ℕ × Y) → p ≡ x.0 → at_path p x ≡ 1
  one_at p x is = ap count_if ((bytes_decides p x.0).1 is)

  none_at : (p : List ℕ) (x : List ℕ × Y) → pointwise nat_eq p x.0 ≡ false → at_path p x ≡ 0
  none_at p x other = ap count_if other

  -- what counts at a path stands there
  pub counts_is : (p : List ℕ) (x : List ℕ × Y) → 1 ≤ at_path p x → p ≡ x.0
  counts_is p x some = elim (cases_Bool (pointwise nat_eq p x.0))
      [ inl same ↦ (bytes_decides p x.0).0 same | inr other ↦ absurd (omega (arith, some, none_at p x other)) ]

  pub at_most_one : (p : List ℕ) (x : List ℕ × Y) → at_path p x ≤ 1
  at_most_one p x = elim (cases_Bool (pointwise nat_eq p x.0)) [
    | inl same ↦ (let e : at_path p x ≡ 1 = ap count_if same in omega (arith, e))
    | inr other
        ↦ (let e : at_path p x ≡ 0 = ap count_if other in omega (arith, e))
  ]

  -- a member counts at its path
  pub counted : (x : List ℕ × Y) (xs : List (List ℕ × Y)) → In x xs → 1 ≤ count_at x.0 xs
  counted x [] m = absurd m
  counted x (y ∷ xs) (inl is) = omega (arith, count_at-cons x.0 y xs, one_at x.0 y (ap (λ z. z.0) (sym is)))
  counted x (y ∷ xs) (inr m) = omega (arith, count_at-cons x.0 y xs, counted x xs m)

  -- what counts at a path is a member there
  pub counted_is : (p : List ℕ) (xs : List (List ℕ × Y)) → 1 ≤ count_at p xs → (x : List ℕ × Y) × In x xs × (p ≡ x.0)
  counted_is p [] some = absurd (omega arith)
  counted_is p (y ∷ xs) some = by_test (cases_Bool (pointwise nat_eq p y.0)) (counted_is p xs)
    where
      by_test : (pointwise nat_eq p y.0 ≡ true) ⊎ (pointwise nat_eq p y.0 ≡ false) → (1 ≤ count_at p xs → (x : List ℕ × Y) × In x xs × (p ≡ x.0))
          → (x : List ℕ × Y) × In x (y ∷ xs) × (p ≡ x.0)
      by_test (inl same) rest = (y, inl refl, (bytes_decides p y.0).0 same)
      by_test (inr other) rest = let r = rest (omega (arith, some, count_at-cons p y xs, none_at p y other)) in (r.0, inr r.1, r.2)

  -- ---- lists that repeat no path

  abbrev pub RepeatsNone : List (List ℕ × Y) → Type 0
  RepeatsNone xs = (p : List ℕ) → count_at p xs ≤ 1

  pub repeats_none_tail : (x : List ℕ × Y) (xs : List (List ℕ × Y)) → RepeatsNone (x ∷ xs) → RepeatsNone xs
  repeats_none_tail x xs once p = omega (arith, once p, count_at-cons p x xs)

  pub not_repeated : (x y : List ℕ × Y) (xs : List (List ℕ × Y)) → RepeatsNone (x ∷ xs) → In y xs → x.0 ≡ y.0 → ⊥
  not_repeated x y xs once m same =
      let here = one_at y.0 x (sym same) in
      omega (arith, once y.0, count_at-cons y.0 x xs, here, counted y xs m)

  -- a list without one of its members
  take_out : (x : List ℕ × Y) (ys : List (List ℕ × Y)) → In x ys
      → (rest : List (List ℕ × Y)) × (length ys ≡ suc (length rest)) × ((y : List ℕ × Y) → In y ys → (x ≡ y) ⊎ In y rest)
  take_out x [] m = absurd m
  take_out x (z ∷ ys) (inl is) = (ys, refl, λ y n. elim n [ inl e ↦ inl (sym is ∙ e) | inr later ↦ inr later ])
  take_out x (z ∷ ys) (inr m) =
      let r = take_out x ys m in
      let long = r.1 in (
        z ∷ r.0,
        ap suc long,
        λ y n. elim n [ inl e ↦ inr (inl e) | inr later ↦ elim (r.2 y later) [ inl e ↦ inl e | inr there ↦ inr (inr there) ] ],
      )

  -- a list that repeats no path is no longer than one that has all its members
  pub no_longer : (xs ys : List (List ℕ × Y)) → RepeatsNone xs → ((x : List ℕ × Y) → In x xs → In x ys) → length xs ≤ length ys
  no_longer [] ys once within = omega arith
  no_longer (x ∷ xs) ys once within =
      let r = take_out x ys (within x (inl refl)) in
      let long = r.1 in
      let rest = no_longer xs r.0 (repeats_none_tail x xs once) (λ y m. elim (r.2 y (within y (inr m))) [
        | inl e ↦ absurd (not_repeated x y xs once m (ap (λ z. z.0) e))
        | inr there ↦ there
      ]) in
      omega (arith, long, rest)
