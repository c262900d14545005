-- The rows of the extended Euclidean algorithm.
use Rattle.std.proofs.Common.{ℕ, zero, suc, ◌≡◌, ◌+◌, ◌-◌, ◌*◌, ◌%◌, ◌<◌, ◌≤◌, Bool, true, false, not, refl, sym, ap, ◌∙◌, arith}
use Rattle.std.proofs.Math.Nat.{zero-mod, mod_self, mod-eq_of_lt, mul-mod_left, mul_comm, add_comm}
use Rattle.std.proofs.lemmas.Nat.{mul-le}
use Rattle.cgs_field.specs.Prime.{IsPrime}
use Rattle.cgs_field.proofs.ModularLemmas.{mod_add, mod_mul, mod_cancel}

-- the factor times a is the remainder modulo p, or its opposite
abbrev pub Gives : ℕ → ℕ → Bool → ℕ → ℕ → Type 0
Gives p a false factor remainder = (factor * a) % p ≡ remainder % p
Gives p a true factor remainder = (factor * a + remainder) % p ≡ 0

-- two neighbouring rows: a remainder and its factor, and those before
pub record AreRows (p a : ℕ) (opposite : Bool) (before factor_before remainder factor : ℕ) : Type 0 where
  pub whole : factor * before + factor_before * remainder ≡ p
  pub earlier : Gives p a (not opposite) factor_before before
  pub later : Gives p a opposite factor remainder
  pub falling : remainder < before
  pub positive : 0 < remainder
  pub some : 0 < factor

pub first_rows : (p a : ℕ) → 0 < a → a < p → AreRows p a false p 0 a 1
first_rows p a positive below = record {
  whole = omega arith;
  earlier = let e : 0 * a + p ≡ p = omega arith in ap (λ n. n % p) e ∙ mod_self p;
  later = let e : 1 * a ≡ a = omega arith in ap (λ n. n % p) e;
  falling = below;
  positive = positive;
  some = omega arith;
}

-- the next row is that before without the quotient times the later one
gives_next : (p a : ℕ) (opposite : Bool) (b s r f q n : ℕ) → 0 < p → q * r + n ≡ b → Gives p a (not opposite) s b
    → Gives p a opposite f r → Gives p a (not opposite) (s + q * f) n
gives_next p a false b s r f q n pos d e l =
    let m : (q * (f * a)) % p ≡ (q * r) % p = mod_mul p q q (f * a) r refl l in
    let t : ((s * a + n) + q * (f * a)) % p ≡ ((s * a + n) + q * r) % p = mod_add p (s * a + n) (s * a + n) (q * (f * a)) (q * r) refl m in
    let u : (s + q * f) * a + n ≡ (s * a + n) + q * (f * a) = omega arith in
    let v : (s * a + n) + q * r ≡ s * a + b = omega (arith, d) in
    ap (λ k. k % p) u ∙ t ∙ ap (λ k. k % p) v ∙ e
gives_next p a true b s r f q n pos d e l =
    let m : (q * (f * a + r)) % p ≡ (q * 0) % p = mod_mul p q q (f * a + r) 0 refl (l ∙ sym (zero-mod p)) in
    let t : (s * a + q * (f * a + r)) % p ≡ (b + q * 0) % p = mod_add p (s * a) b (q * (f * a + r)) (q * 0) e m in
    let u : (s + q * f) * a + q * r ≡ s * a + q * (f * a + r) = omega arith in
    let v : b + q * 0 ≡ n + q * r = omega (arith, d) in
    mod_cancel p ((s + q * f) * a) n (q * r) pos (ap (λ k. k % p) u ∙ t ∙ ap (λ k. k % p) v)

whole_next : (p b s r f q n : ℕ) → q * r + n ≡ b → f * b + s * r ≡ p → (s + q * f) * r + f * n ≡ p
whole_next p b s r f q n d w =
    let u : (s + q * f) * r + f * n ≡ f * (q * r + n) + s * r = omega arith in
    u ∙ ap (λ k. f * k + s * r) d ∙ w

-- the remainder before is at most p
before_bound : (p b s r f : ℕ) → f * b + s * r ≡ p → 0 < f → b ≤ p
before_bound p b s r f w some = omega (arith, w, mul-le 1 b f b some (omega arith))

pub factor_bound : (p b s r f q n : ℕ) → q * r + n ≡ b → f * b + s * r ≡ p → 0 < r → s + q * f ≤ p
factor_bound p b s r f q n d w positive =
    omega (arith, whole_next p b s r f q n d w, mul-le (s + q * f) 1 (s + q * f) r (omega arith) positive)

-- no remainder above 1 divides the one before, since it would divide p
next_positive : (p b s r f q n : ℕ) → IsPrime p → q * r + n ≡ b → f * b + s * r ≡ p → r < b → 0 < f → 1 < r → 0 < n
next_positive p b s r f q zero prime d w falling some above =
    let w' = whole_next p b s r f q 0 d w in
    let e : p ≡ (s + q * f) * r = omega (arith, w') in
    absurd (prime.undivided r above (omega (arith, before_bound p b s r f w some)) (ap (λ k. k % r) e ∙ mul-mod_left (s + q * f) r))
next_positive p b s r f q (suc n) prime d w falling some above = omega arith

quotient_positive : (b r q n : ℕ) → q * r + n ≡ b → r < b → n < r → 0 < q
quotient_positive b r zero n d falling below = absurd (omega (arith, d))
quotient_positive b r (suc q) n d falling below = omega arith

pub next_rows : (p a : ℕ) (opposite : Bool) (b s r f q n : ℕ) → IsPrime p → q * r + n ≡ b → n < r → 1 < r
    → AreRows p a opposite b s r f → AreRows p a (not opposite) r f n (s + q * f)
next_rows p a opposite b s r f q n prime d below above h = record {
  whole = whole_next p b s r f q n d h.whole;
  earlier = back opposite h.later;
  later = gives_next p a opposite b s r f q n (omega (arith, prime.above_one)) d h.earlier h.later;
  falling = below;
  positive = next_positive p b s r f q n prime d h.whole h.falling h.some above;
  some = omega (arith, mul-le 1 1 q f (quotient_positive b r q n d h.falling below) h.some);
}
  where
    back : (o : Bool) → Gives p a o f r → Gives p a (not (not o)) f r
    back false g = g
    back true g = g

-- the last row has the remainder 1
pub last_factor : (p a b s r f : ℕ) (opposite : Bool) → r ≤ 1 → AreRows p a opposite b s r f → f < p
last_factor p a b s r f opposite end h =
    omega (arith, h.whole, h.some, h.falling, h.positive, mul-le f 2 f b (omega arith) (omega (arith, h.falling, h.positive)))

pub last_plain : (p a b s r f : ℕ) → IsPrime p → r ≤ 1 → AreRows p a false b s r f → (a * f) % p ≡ 1
last_plain p a b s r f prime end h =
    let one : r ≡ 1 = omega (arith, h.positive) in
    let two : 1 < p = prime.above_one in
    ap (λ n. n % p) (mul_comm a f) ∙ h.later ∙ ap (λ n. n % p) one ∙ mod-eq_of_lt two

pub last_opposite : (p a b s r f : ℕ) → IsPrime p → r ≤ 1 → AreRows p a true b s r f → (a * (p - f)) % p ≡ 1
last_opposite p a b s r f prime end h =
    let one : r ≡ 1 = omega (arith, h.positive) in
    let two : 1 < p = prime.above_one in
    let g : ℕ = p - f in
    let e : g + f ≡ p = omega (arith, last_factor p a b s r f true end h) in
    let u : a * g + f * a ≡ a * (g + f) = gather a g f in
    let v : (a * g + f * a) % p ≡ 0 = ap (λ n. n % p) (u ∙ ap (λ n. a * n) e) ∙ mul-mod_left a p in
    let w : (1 + f * a) % p ≡ 0 = ap (λ n. n % p) (add_comm 1 (f * a) ∙ ap (λ n. f * a + n) (sym one)) ∙ h.later in
    mod_cancel p (a * g) 1 (f * a) (omega arith) (v ∙ sym w) ∙ mod-eq_of_lt two
  where
    gather : (a g f : ℕ) → a * g + f * a ≡ a * (g + f)
    gather a g f = omega arith
