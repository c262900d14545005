-- Lists that are walked from the front on, until an item fails, and what holds of parts of lists.
use Rattle.std.proofs.Common.{ℕ, zero, suc, ◌≡◌, ◌≤◌, ◌+◌, ◌-◌, ◌↔◌, true, false, IsTrue, Some, List, [], ◌∷◌, ◌++◌, take, drop, refl, sym, ap}
use Rattle.std.proofs.Common.{◌∙◌, subst, arith, add-one}
use Rattle.std.proofs.Common.{◌<◌, length, get_or}
use Rattle.std.specs.List.{slice_get, AllByRecursion}
use Rattle.std.proofs.lemmas.List.{drop_more, drop-drop, take-append-drop}
use Rattle.std.proofs.lemmas.Option.{slice_get_within, get_or_from_slice_get}

pub take_next : {X : Type 0} (xs : List X) (i : ℕ) (x : X) → slice_get xs i ≡ Some x → take (i + 1) xs ≡ take i xs ++ x ∷ []
take_next [] i x e = absurd (cc)
take_next (y ∷ xs) zero x e = let s : y ≡ x = cc in rw s refl
take_next (y ∷ xs) (suc i) x e = rw add-one (ap (λ k. y ∷ k) (rw add-one at (take_next xs i x e)))

pub take_next_from : {X : Type 0} (from i : ℕ) (xs : List X) (x : X) → from ≤ i → slice_get xs i ≡ Some x
    → take (i + 1 - from) (drop from xs) ≡ take (i - from) (drop from xs) ++ x ∷ []
take_next_from zero i xs x l e = rw (plain (i + 1), plain i) (take_next xs i x e)
  where
    plain : (n : ℕ) → n - 0 ≡ n
    plain n = omega arith
take_next_from (suc from) zero xs x l e = absurd (omega arith)
take_next_from (suc from) (suc i) [] x l e = absurd (cc)
take_next_from (suc from) (suc i) (y ∷ xs) x l e =
    let s : suc i - suc from ≡ i - from = omega arith in
    let t : suc i + 1 - suc from ≡ i + 1 - from = omega arith in
    rw (s, t) (take_next_from from i xs x (omega arith) e)

pub is_false : {all : Type 0} → ¬ all → IsTrue false ↔ all
is_false never = ((λ e. cc), (λ a. absurd (never a)))

pub is_true : {all : Type 0} → all → IsTrue true ↔ all
is_true a = ((λ e. a), (λ b. refl))

pub drop_at : {X : Type 0} (xs : List X) (i : ℕ) (x : X) → slice_get xs i ≡ Some x → drop i xs ≡ x ∷ drop (i + 1) xs
drop_at xs i x e = drop_more xs i x (slice_get_within xs i x e) ∙ ap (λ y. y ∷ drop (i + 1) xs) (get_or_from_slice_get xs i x x e)

pub all_at : {X : Type 0} (P : X → Type 0) (xs : List X) (i : ℕ) (x : X) → AllByRecursion P xs → slice_get xs i ≡ Some x → P x
all_at P [] i x all e = cc
all_at P (y ∷ xs) zero x all e = let same : y ≡ x = cc in subst P same all.0
all_at P (y ∷ xs) (suc i) x all e = all_at P xs i x all.1 e

all_here : {X : Type 0} (P : X → Type 0) (all : Type 0) (xs : List X) (i : ℕ) (x : X) → slice_get xs i ≡ Some x
    → (AllByRecursion P (drop i xs) ↔ all) → (P x × AllByRecursion P (drop (i + 1) xs)) ↔ all
all_here P all xs i x e so_far = subst (λ ys. AllByRecursion P ys ↔ all) (drop_at xs i x e) so_far

-- a step at which an item passes, and one at which it fails
pub passes : {X : Type 0} (P : X → Type 0) (all : Type 0) (xs : List X) (i : ℕ) (x : X) → slice_get xs i ≡ Some x
    → P x → (AllByRecursion P (drop i xs) ↔ all) → AllByRecursion P (drop (i + 1) xs) ↔ all
passes P all xs i x e p so_far = let here = all_here P all xs i x e so_far in ((λ rest. here.0 (p, rest)), (λ whole. (here.1 whole).1))

pub fails : {X : Type 0} (P : X → Type 0) (all : Type 0) (xs : List X) (i : ℕ) (x : X) → slice_get xs i ≡ Some x
    → ¬ (P x) → (AllByRecursion P (drop i xs) ↔ all) → IsTrue false ↔ all
fails P all xs i x e never so_far = let here = all_here P all xs i x e so_far in is_false (λ whole. never (here.1 whole).0)

-- what holds of all items of a list, and of all items of its parts

pub all_take : {X : Type 0} (P : X → Type 0) (n : ℕ) (xs : List X) → AllByRecursion P xs → AllByRecursion P (take n xs)
all_take P zero xs all = tt
all_take P (suc n) [] all = tt
all_take P (suc n) (x ∷ xs) all = (all.0, all_take P n xs all.1)

pub all_drop : {X : Type 0} (P : X → Type 0) (n : ℕ) (xs : List X) → AllByRecursion P xs → AllByRecursion P (drop n xs)
all_drop P zero xs all = all
all_drop P (suc n) [] all = tt
all_drop P (suc n) (x ∷ xs) all = all_drop P n xs all.1

pub all_append : {X : Type 0} (P : X → Type 0) (xs ys : List X) → AllByRecursion P xs → AllByRecursion P ys → AllByRecursion P (xs ++ ys)
all_append P [] ys all more = more
all_append P (x ∷ xs) ys all more = (all.0, all_append P xs ys all.1 more)

pub all_push : {X : Type 0} (P : X → Type 0) (xs : List X) (x : X) → AllByRecursion P xs → P x → AllByRecursion P (xs ++ x ∷ [])
all_push P xs x all p = all_append P xs (x ∷ []) all (p, tt)

pub all_parts : {X : Type 0} (P : X → Type 0) (xs ys : List X) → AllByRecursion P (xs ++ ys) → AllByRecursion P xs × AllByRecursion P ys
all_parts P [] ys all = (tt, all)
all_parts P (x ∷ xs) ys all = let rest = all_parts P xs ys all.1 in ((all.0, rest.0), rest.1)

pub all_weaker : {X : Type 0} (P Q : X → Type 0) (xs : List X) → AllByRecursion P xs → ((x : X) → P x → Q x) → AllByRecursion Q xs
all_weaker P Q [] all weaker = tt
all_weaker P Q (x ∷ xs) all weaker = (weaker x all.0, all_weaker P Q xs all.1 weaker)

-- the items from a place on, in two parts
pub drop_parts : {X : Type 0} (from end : ℕ) (xs : List X) → from ≤ end → take (end - from) (drop from xs) ++ drop end xs ≡ drop from xs
drop_parts from end xs le =
    let count : from + (end - from) ≡ end = omega arith in
    let behind : drop end xs ≡ drop (end - from) (drop from xs) = sym (drop-drop (end - from) from xs ∙ ap (λ n. drop n xs) count) in
    ap (λ ys. take (end - from) (drop from xs) ++ ys) behind ∙ take-append-drop (end - from) (drop from xs)

-- each item, by its place

pub all_by_places : {X : Type 0} (P : X → Type 0) (d : X) (xs : List X) → ((i : ℕ) → i < length xs → P (get_or xs i d)) → AllByRecursion P xs
all_by_places P d [] h = tt
all_by_places P d (x ∷ xs) h = (h 0 (omega arith), all_by_places P d xs (λ i l. h (suc i) (omega arith)))

pub all_at_place : {X : Type 0} (P : X → Type 0) (d : X) (xs : List X) → AllByRecursion P xs → (i : ℕ) → i < length xs → P (get_or xs i d)
all_at_place P d [] h i l = absurd (omega arith)
all_at_place P d (x ∷ xs) h zero l = h.0
all_at_place P d (x ∷ xs) h (suc i) l = all_at_place P d xs h.1 i (omega arith)
