-- Names of a list, no two of which are equal.
use Rattle.std.proofs.Common.{◌≡◌, ℕ, ◌↔◌, true, false, IsTrue, List, [], ◌∷◌, length, bytes_eq, arith}
use Rattle.std.proofs.lemmas.Bool.{or_parts}
use Rattle.std.specs.List.{list_any, AllByRecursion, IsDistinct}
use Rattle.cgs_list.proofs.ListLemmas.{is_false, is_true}

-- no name of the list is equal to x
unlike : (x : List ℕ) (ys : List (List ℕ)) → list_any (bytes_eq x) ys ≡ false → AllByRecursion (λ y. bytes_eq x y ≡ false) ys
unlike x [] e = tt
unlike x (y ∷ ys) e = let parts = or_parts (bytes_eq x y) (list_any (bytes_eq x) ys) e in (parts.0, unlike x ys parts.1)

not_unlike : (x : List ℕ) (ys : List (List ℕ)) → list_any (bytes_eq x) ys ≡ true → ¬ (AllByRecursion (λ y. bytes_eq x y ≡ false) ys)
not_unlike x [] e all = cc
not_unlike x (y ∷ ys) e all = not_unlike x ys (rw all.0 at e) all.1

-- a step at which a name does not come again, one at which it does, and the end
pub new_name : (all : Type 0) (x : List ℕ) (ys : List (List ℕ)) → list_any (bytes_eq x) ys ≡ false → (IsDistinct bytes_eq (x ∷ ys) ↔ all)
    → IsDistinct bytes_eq ys ↔ all
unfolding IsDistinct
new_name all x ys e so_far = ((λ rest. so_far.0 (unlike x ys e, rest)), (λ whole. (so_far.1 whole).1))

pub old_name : (all : Type 0) (x : List ℕ) (ys : List (List ℕ)) → list_any (bytes_eq x) ys ≡ true → (IsDistinct bytes_eq (x ∷ ys) ↔ all) → IsTrue false ↔ all
unfolding IsDistinct
old_name all x ys e so_far = is_false (λ whole. not_unlike x ys e (so_far.1 whole).0)

pub no_names : (all : Type 0) (ys : List (List ℕ)) → length ys ≡ 0 → (IsDistinct bytes_eq ys ↔ all) → IsTrue true ↔ all
unfolding IsDistinct
no_names all [] e so_far = is_true (so_far.0 tt)
no_names all (y ∷ ys) e so_far = absurd (omega arith)
