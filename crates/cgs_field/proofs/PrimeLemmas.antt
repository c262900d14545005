-- Each modulus of the table is prime, and makes a field.
use Rattle.std.proofs.Common.{ℕ, zero, suc, ◌≡◌, ◌+◌, ◌-◌, ◌*◌, ◌/◌, ◌%◌, ◌<◌, ◌≤◌, ◌⊎◌, inl, inr, Bool, true, ◌&&◌, ◌||◌, not, List, [], ◌∷◌, refl, sym, ap}
use Rattle.std.proofs.Common.{◌∙◌, subst, arith, eqb, ltb, leb, ◌==◌}
use Rattle.std.specs.List.{list_any}
use Rattle.std.proofs.Math.Nat.{mod-lt, mod-eq_of_lt, mod_self, div-add-mod', mul-mod_left, mul_comm, add_comm}
use Rattle.std.proofs.lemmas.Bool.{and_parts, or_cases, not-true, ltb-true, leb-true, eqb-true, eqb-false, cases_order, cases_lt}
use Rattle.std.proofs.lemmas.Nat.{mul-mod_first, mul-le}
use Rattle.cgs_field.specs.Prime.{moduli, IsModulus, IsPrime, IsField}
use Rattle.cgs_field.proofs.ModularLemmas.{mod_mul, mod_opposite, mod_cancel}

-- no d with 1 < d < p, up to n, divides p
abbrev has_no_divisor : ℕ → ℕ → Bool
has_no_divisor p zero = true
has_no_divisor p (suc n) = (ltb n 1 || leb p (suc n) || not (eqb (p % suc n) 0)) && has_no_divisor p n

divisor_step : (p n a : ℕ) → (has_no_divisor p n ≡ true → a ≤ n → ⊥) → has_no_divisor p (suc n) ≡ true → a ≤ suc n → 1 < a → a < p → p % a ≡ 0 → ⊥
divisor_step p n a ih t l u v e = by_place (cases_order a (suc n))
  where
    parts : ((ltb n 1 || leb p (suc n) || not (eqb (p % suc n) 0)) ≡ true) × (has_no_divisor p n ≡ true)
    parts = and_parts (ltb n 1 || leb p (suc n) || not (eqb (p % suc n) 0)) (has_no_divisor p n) t

    before : a ≡ suc n → (ltb n 1 ≡ true) ⊎ (leb p (suc n) ≡ true) → ⊥
    before q (inl k) = omega (arith, ltb-true n 1 k)
    before q (inr k) = omega (arith, leb-true p (suc n) k)

    here : a ≡ suc n → ((ltb n 1 || leb p (suc n)) ≡ true) ⊎ (not (eqb (p % suc n) 0) ≡ true) → ⊥
    here q (inr k) = eqb-false (p % suc n) 0 (not-true (eqb (p % suc n) 0) k) (subst (λ d. p % d ≡ 0) q e)
    here q (inl k) = before q (or_cases (ltb n 1) (leb p (suc n)) k)

    by_place : (a ≡ suc n) ⊎ ((a < suc n) ⊎ (suc n < a)) → ⊥
    by_place (inl q) = here q (or_cases (ltb n 1 || leb p (suc n)) (not (eqb (p % suc n) 0)) parts.0)
    by_place (inr (inl q)) = ih parts.1 (omega arith)
    by_place (inr (inr q)) = omega arith

divisor_found : (p n a : ℕ) → has_no_divisor p n ≡ true → a ≤ n → 1 < a → a < p → p % a ≡ 0 → ⊥
divisor_found p zero a t l u v e = omega arith
divisor_found p (suc n) a t l u v e = divisor_step p n a (λ k m. divisor_found p n a k m u v e) t l u v e

-- trial division up to 255 is enough below 65536
indivisible : (p : ℕ) → has_no_divisor p 255 ≡ true → p < 65536 → (a : ℕ) → 1 < a → a < p → p % a ≡ 0 → ⊥
indivisible p t l a u v e = by_size (cases_lt a 256)
  where
    by_size : (a < 256) ⊎ (256 ≤ a) → ⊥
    by_size (inl s) = divisor_found p 255 a t (omega arith) u v e
    by_size (inr s) =
        let k : ℕ = p / a in
        let whole : k * a + p % a ≡ p = div-add-mod' p a in
        let ka : k * a ≡ p = omega arith in
        let small : k < 256 = below k (cases_lt k 256) ka in
        let large : 1 < k = above k (cases_lt 1 k) ka in
        let z : p % k ≡ 0 = ap (λ n. n % k) (sym ka ∙ mul_comm k a) ∙ mul-mod_left a k in
        divisor_found p 255 k t (omega arith) large (omega arith) z
      where
        below : (k : ℕ) → (k < 256) ⊎ (256 ≤ k) → k * a ≡ p → k < 256
        below k (inl q) ka = q
        below k (inr q) ka = absurd (omega (arith, mul-le 256 256 k a q s))

        above : (k : ℕ) → (1 < k) ⊎ (k ≤ 1) → k * a ≡ p → 1 < k
        above k (inl q) ka = q
        above k (inr q) ka = absurd (omega (arith, mul-le k a 1 a q (omega arith)))

positive : (n : ℕ) → (n ≡ 0 → ⊥) → 0 < n
positive zero h = absurd (h refl)
positive (suc n) h = omega arith

abbrev Inverse : ℕ → ℕ → Type 0
Inverse p a = (c : ℕ) × ((a * c) % p ≡ 1)

-- a and the remainder of p by a
inverse_step : (p a s c q : ℕ) → 0 < p → q * a + s ≡ p → (s * c) % p ≡ 1 → (a * ((p - 1) * (q * c))) % p ≡ 1
inverse_step p a s c q pos e h =
    let z : (q * a + (p - 1) * (q * a)) % p ≡ 0 = mod_opposite p (q * a) pos in
    let y : (q * a + s) % p ≡ 0 = ap (λ n. n % p) e ∙ mod_self p in
    let w : ((p - 1) * (q * a) + q * a) % p ≡ (s + q * a) % p =
    ap (λ n. n % p) (add_comm ((p - 1) * (q * a)) (q * a)) ∙ (z ∙ (sym y ∙ ap (λ n. n % p) (add_comm (q * a) s))) in
    let m : ((p - 1) * (q * a)) % p ≡ s % p = mod_cancel p ((p - 1) * (q * a)) s (q * a) pos w in
    let f : a * ((p - 1) * (q * c)) ≡ ((p - 1) * (q * a)) * c = regroup (p - 1) a q c in
    ap (λ n. n % p) f ∙ (mod_mul p ((p - 1) * (q * a)) s c c m refl ∙ h)
  where
    regroup : (t a q c : ℕ) → a * (t * (q * c)) ≡ (t * (q * a)) * c
    regroup t a q c = omega arith

-- by induction on a, with the remainder of p by a
inverse_below : (p : ℕ) → IsPrime p → (n a : ℕ) → a < n → 0 < a → a < p → Inverse p a
inverse_below p prime zero a l u v = absurd (omega arith)
inverse_below p prime (suc n) a l u v =
    by_size a refl (cases_lt 1 a) (λ s. inverse_below p prime n (p % a) (omega (arith, mod-lt p u)) s (omega (arith, mod-lt p u)))
  where
    by_size : (b : ℕ) → b ≡ a → (1 < b) ⊎ (b ≤ 1) → (0 < p % a → (c : ℕ) × (((p % a) * c) % p ≡ 1)) → (c : ℕ) × ((a * c) % p ≡ 1)
    by_size b e (inr s) ih =
        let one : a ≡ 1 = omega arith in
        let two : 1 < p = prime.above_one in
        (1, ap (λ n. (n * 1) % p) one ∙ mod-eq_of_lt two)
    by_size b e (inl s) ih =
        let nz : 0 < p % a = positive (p % a) (prime.undivided a (omega arith) v) in
        let c = ih nz in
        ((p - 1) * ((p / a) * c.0), inverse_step p a (p % a) c.0 (p / a) (omega arith) (div-add-mod' p a) c.1)

pub field_of_prime : (p : ℕ) → IsPrime p → IsField p
field_of_prime p prime = record {
  two = prime.above_one;
  inverse = λ b nz.
      let r : ℕ = b % p in
      let i = inverse_below p prime (suc r) r (omega arith) (positive r nz) (mod-lt b (omega (arith, prime.above_one))) in
      (i.0, sym (mul-mod_first b i.0 p) ∙ i.1);
}

-- each number of the list passes trial division
abbrev are_prime : List ℕ → Bool
are_prime [] = true
are_prime (p ∷ ps) = ltb 1 p && ltb p 65536 && has_no_divisor p 255 && are_prime ps

record IsSmallPrime (p : ℕ) : Type 0 where
  prime : IsPrime p
  small : p < 65536

small_primes : (ps : List ℕ) → are_prime ps ≡ true → (p : ℕ) → list_any (λ q. q == p) ps ≡ true → IsSmallPrime p
small_primes [] t p e = absurd (grind (arith, e))
small_primes (q ∷ ps) t p e =
    let a = and_parts (ltb 1 q && ltb q 65536 && has_no_divisor q 255) (are_prime ps) t in
    let b = and_parts (ltb 1 q && ltb q 65536) (has_no_divisor q 255) a.0 in
    let c = and_parts (ltb 1 q) (ltb q 65536) b.0 in
    let small : q < 65536 = ltb-true q 65536 c.1 in
    let here : IsSmallPrime q = record { prime = record { above_one = ltb-true 1 q c.0; undivided = indivisible q b.1 small }; small = small } in
    elim (or_cases (q == p) (list_any (λ r. r == p) ps) e) [
      | inl same ↦ subst IsSmallPrime (eqb-true q p same) here
      | inr other ↦ small_primes ps a.1 p other
    ]

pub modulus_prime : (p : ℕ) → IsModulus p → IsPrime p
modulus_prime p h = (small_primes moduli refl p h).prime

pub modulus_small : (p : ℕ) → IsModulus p → p < 65536
modulus_small p h = (small_primes moduli refl p h).small

pub modulus_field : (p : ℕ) → IsModulus p → IsField p
modulus_field p h = field_of_prime p (modulus_prime p h)
