-- Sums and products modulo p.
use Rattle.std.proofs.Common.{ℕ, zero, suc, ◌≡◌, ◌+◌, ◌-◌, ◌*◌, ◌%◌, ◌<◌, refl, sym, ap, ◌∙◌, arith}
use Rattle.std.proofs.Math.Nat.{add-mod, mul-mod_right, zero-mod, add_comm, mul-add}
use Rattle.std.proofs.lemmas.Nat.{mul-mod}

pub mod_add : (p a b c d : ℕ) → a % p ≡ b % p → c % p ≡ d % p → (a + c) % p ≡ (b + d) % p
mod_add p a b c d e f = cc (add-mod a c p, add-mod b d p)

pub mod_mul : (p a b c d : ℕ) → a % p ≡ b % p → c % p ≡ d % p → (a * c) % p ≡ (b * d) % p
mod_mul p a b c d e f = cc (mul-mod a c p, mul-mod b d p)

-- c and p-1 times c
pub mod_opposite : (p c : ℕ) → 0 < p → (c + (p - 1) * c) % p ≡ 0
mod_opposite p c h =
    let e : c + (p - 1) * c ≡ p * c = times_less p c h in
    ap (λ n. n % p) e ∙ mul-mod_right p c
  where
    times_less : (p c : ℕ) → 0 < p → c + (p - 1) * c ≡ p * c
    times_less zero c h = absurd (omega arith)
    times_less (suc q) c h = let e : suc q - 1 ≡ q = omega arith in rw e (omega arith)

-- a summand on both sides falls away
pub mod_cancel : (p a b c : ℕ) → 0 < p → (a + c) % p ≡ (b + c) % p → a % p ≡ b % p
mod_cancel p a b c h e =
    let z = mod_opposite p c h in
    let s : ((a + c) + (p - 1) * c) % p ≡ ((b + c) + (p - 1) * c) % p = mod_add p (a + c) (b + c) ((p - 1) * c) ((p - 1) * c) e refl in
    let l : (a + (c + (p - 1) * c)) % p ≡ (a + 0) % p = mod_add p a a (c + (p - 1) * c) 0 refl (z ∙ sym (zero-mod p)) in
    let r : (b + (c + (p - 1) * c)) % p ≡ (b + 0) % p = mod_add p b b (c + (p - 1) * c) 0 refl (z ∙ sym (zero-mod p)) in
    let la : (a + c) + (p - 1) * c ≡ a + (c + (p - 1) * c) = omega arith in
    let lb : (b + c) + (p - 1) * c ≡ b + (c + (p - 1) * c) = omega arith in
    let za : a + 0 ≡ a = omega arith in
    let zb : b + 0 ≡ b = omega arith in
    cc

-- x - y, and y - x turned round
pub mod_twice : (p x y : ℕ) → 0 < p → (x + (p - 1) * y) % p ≡ ((p - 1) * (y + (p - 1) * x)) % p
mod_twice p x y h =
    let q : ℕ = p - 1 in
    let z : (q * x + q * (q * x)) % p ≡ (x + q * x) % p =
    let l : q * x + q * (q * x) ≡ q * x + (p - 1) * (q * x) = refl in
    mod_opposite p (q * x) h ∙ sym (mod_opposite p x h) in
    let k : (q * (q * x) + q * x) % p ≡ (x + q * x) % p = ap (λ n. n % p) (add_comm (q * (q * x)) (q * x)) ∙ z in
    let s : (q * (q * x)) % p ≡ x % p = mod_cancel p (q * (q * x)) x (q * x) h k in
    let e : q * (y + q * x) ≡ q * (q * x) + q * y = mul-add q y (q * x) ∙ add_comm (q * y) (q * (q * x)) in
    sym (ap (λ n. n % p) e ∙ mod_add p (q * (q * x)) x (q * y) (q * y) s refl)

-- the rest of k times x where its multiple of y is joined to c times y
gather_sum : (q k x y c z : ℕ) → (k + c) * y + ((k * x + (q * k) * y) + z) ≡ (k * x + (c * y + z)) + (k * y + q * (k * y))
gather_sum q k x y c z = omega arith

pub mod_gather : (p k x y c z : ℕ) → 0 < p → (k * x + (c * y + z)) % p ≡ ((k + c) * y + ((k * x + ((p - 1) * k) * y) + z)) % p
mod_gather p k x y c z h =
    let a : ℕ = k * x + (c * y + z) in
    let s : (a + (k * y + (p - 1) * (k * y))) % p ≡ (a + 0) % p =
    mod_add p a a (k * y + (p - 1) * (k * y)) 0 refl (mod_opposite p (k * y) h ∙ sym (zero-mod p)) in
    let e : a + 0 ≡ a = omega arith in
    sym (ap (λ n. n % p) (gather_sum (p - 1) k x y c z) ∙ (s ∙ ap (λ n. n % p) e))
