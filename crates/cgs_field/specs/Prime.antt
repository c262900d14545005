-- The prime numbers that may be a modulus, and the field that each of them makes.
use Rattle.std.specs.Prelude.{ℕ, ◌≡◌, ◌*◌, ◌%◌, ◌<◌, List, [], ◌∷◌, IsTrue, ◌==◌}
use Rattle.std.specs.List.{list_any}

abbrev pub moduli : List ℕ
moduli = 2 ∷ 3 ∷ 5 ∷ 7 ∷ 11 ∷ 13 ∷ 101 ∷ 251 ∷ 257 ∷ 1009 ∷ 10007 ∷ 32003 ∷ 65521 ∷ []

-- a number of the table
abbrev pub IsModulus : ℕ → Type 0
IsModulus p = IsTrue (list_any (λ q. q == p) moduli)

-- above 1, and divided by no number between 1 and itself
pub record IsPrime (p : ℕ) : Type 0 where
  pub above_one : 1 < p
  pub undivided : (d : ℕ) → 1 < d → d < p → ¬ (p % d ≡ 0)

-- each number that is not 0 modulo p has an inverse
pub record IsField (p : ℕ) : Type 0 where
  pub two : 1 < p
  pub inverse : (b : ℕ) → ¬ (b % p ≡ 0) → (c : ℕ) × ((b * c) % p ≡ 1)
