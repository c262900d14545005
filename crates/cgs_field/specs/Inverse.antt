-- The inverse of a number modulo p.
use Rattle.std.specs.Prelude.{ℕ, zero, suc, ◌*◌, ◌%◌, ◌==◌, cond}

-- the greatest number below n whose product with a is 1 modulo p, or 0 if there is none
abbrev pub inverse_below : ℕ → ℕ → ℕ → ℕ
inverse_below p a zero = 0
inverse_below p a (suc n) = cond ((a * n) % p == 1) n (inverse_below p a n)

-- the number below p whose product with a is 1 modulo p
unfoldable pub inverse : ℕ → ℕ → ℕ
inverse p a = inverse_below p a p
