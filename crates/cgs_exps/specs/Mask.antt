-- Masks: which variables and parameters stand in a monomial, as the bits of a number.
use Rattle.std.specs.Prelude.{ℕ, ◌≡◌, ◌+◌, ◌*◌, Bool, false, cond, ◌==◌, List, [], ◌∷◌, length, get_or, bit_and}
use Rattle.std.specs.Int.{bit_at}
use Rattle.cgs_exps.specs.Monomial.{divides}

-- the number with a bit for each place, the first place's lowest: it is 0 exactly where the exponent is 0
abbrev pub mask : List ℕ → ℕ
mask [] = 0
mask (x ∷ a) = cond (x == 0) 0 1 + 2 * mask a

-- a place's bit is 1 exactly where its exponent is not 0, and no bit after the last place's is 1
abbrev pub MaskHasBits : Type 0
MaskHasBits = (a : List ℕ) (i : ℕ) → bit_at (mask a) i ≡ cond (get_or a i 0 == 0) 0 1

-- each bit of the first number is one of the second
abbrev pub is_within : ℕ → ℕ → Bool
is_within m n = bit_and m n == m

-- a monomial whose mask has a bit that another's lacks does not divide it
abbrev pub DivisorHasMaskWithin : Type 0
DivisorHasMaskWithin = (a b : List ℕ) → length a ≡ length b → is_within (mask a) (mask b) ≡ false → divides a b ≡ false
