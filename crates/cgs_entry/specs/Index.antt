-- An index of polynomials: a map in order that has the numbers of each.
use Rattle.std.specs.Prelude.{ℕ, ◌≡◌, true, List, ◌++◌, is_some}
use Rattle.std.specs.List.{AllByRecursion}
use Rattle.std.specs.Map.{lookup}
use Rattle.std.specs.Ordering.{nat_cmp, is_eq}
use Rattle.std.specs.Cmp.Lexicographic.{slice_cmp}
use Rattle.cgs_poly.specs.Polynomial.{Term}
use Rattle.cgs_poly.specs.Flat.{coefficients_of, exponents_of}

-- all exponents, and then all coefficients
abbrev pub numbers_of : List Term → List ℕ
numbers_of f = exponents_of f ++ coefficients_of f

-- a key has the numbers of the polynomial; the numbers of a key are given by `items`
abbrev pub IsIndexed : {K X : Type 0} → List (K × X) → (K → List ℕ) → List Term → Type 0
IsIndexed entries items f = is_some (lookup (λ k. is_eq (slice_cmp nat_cmp (numbers_of f) (items k))) entries) ≡ true

-- so for each polynomial of a list
abbrev pub AreIndexed : {K X : Type 0} → List (K × X) → (K → List ℕ) → List (List Term) → Type 0
AreIndexed entries items L = AllByRecursion (λ f. IsIndexed entries items f) L
