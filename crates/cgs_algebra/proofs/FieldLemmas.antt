-- Numbers modulo a prime: no two of them have the product 0, and each has a multiple of each other as its opposite.
use Rattle.std.proofs.Common.{ℕ, ◌≡◌, ◌+◌, ◌-◌, ◌*◌, ◌%◌, ◌<◌, ◌⊎◌, inl, inr, Bool, true, false, refl, sym, ap, ◌∙◌, arith, eqb}
use Rattle.std.proofs.Math.Nat.{zero-mod, zero-mul, mul-one, mod-eq_of_lt}
use Rattle.std.proofs.lemmas.Bool.{eqb-true, eqb-false}
use Rattle.cgs_field.specs.Prime.{IsField}
use Rattle.cgs_field.proofs.ModularLemmas.{mod_add, mod_mul, mod_opposite}

-- a product is 0 only where a factor is
pub no_zero_divisors : (p : ℕ) → IsField p → (b c : ℕ) → (b * c) % p ≡ 0 → (b % p ≡ 0) ⊎ (c % p ≡ 0)
no_zero_divisors p field b c e = by_zero (eqb (b % p) 0) refl
  where
    by_zero : (t : Bool) → eqb (b % p) 0 ≡ t → (b % p ≡ 0) ⊎ (c % p ≡ 0)
    by_zero true q = inl (eqb-true (b % p) 0 q)
    by_zero false q =
        let i = field.inverse b (eqb-false (b % p) 0 q) in
        let d : ℕ = i.0 in
        let one : 1 % p ≡ 1 = mod-eq_of_lt field.two in
        let s : (c * (b * d)) % p ≡ (c * 1) % p = mod_mul p c c (b * d) 1 refl (i.1 ∙ sym one) in
        let l : c * (b * d) ≡ (b * c) * d = omega arith in
        let z : ((b * c) * d) % p ≡ (0 * d) % p = mod_mul p (b * c) 0 d d (e ∙ sym (zero-mod p)) refl in
        inr (ap (λ n. n % p) (sym (mul-one c)) ∙ (sym s ∙ (ap (λ n. n % p) l ∙ (z ∙ (ap (λ n. n % p) (zero-mul d) ∙ zero-mod p)))))

-- what c has to be joined to: q times d is its opposite
pub record IsOpposite (p c d : ℕ) : Type 0 where
  pub factor : ℕ
  pub opposite : (c + factor * d) % p ≡ 0

-- a number has an opposite multiple of 1
pub opposite_of_one : (p c : ℕ) → 0 < p → IsOpposite p c 1
opposite_of_one p c pos = record {
  factor = (p - 1) * c;
  opposite = let e : c + ((p - 1) * c) * 1 ≡ c + (p - 1) * c = ap (λ n. c + n) (mul-one ((p - 1) * c)) in ap (λ n. n % p) e ∙ mod_opposite p c pos;
}

-- in a field, of each number that is not 0
pub opposite_in_field : (p c d : ℕ) → IsField p → (d % p ≡ 0 → ⊥) → IsOpposite p c d
opposite_in_field p c d field some =
    let e = field.inverse d some in
    let pos : 0 < p = omega (arith, field.two) in
    record {
      factor = (p - 1) * (c * e.0);
      opposite =
          let one : (c * (d * e.0)) % p ≡ (c * 1) % p = mod_mul p c c (d * e.0) 1 refl (e.1 ∙ sym (one_small p field.two)) in
          let two : ((p - 1) * (c * (d * e.0))) % p ≡ ((p - 1) * (c * 1)) % p = mod_mul p (p - 1) (p - 1) _ _ refl one in
          let s : (c + (p - 1) * (c * (d * e.0))) % p ≡ (c + (p - 1) * (c * 1)) % p = mod_add p c c _ _ refl two in
          let l : c + ((p - 1) * (c * e.0)) * d ≡ c + (p - 1) * (c * (d * e.0)) = regroup (p - 1) c e.0 d in
          let k : c + (p - 1) * (c * 1) ≡ c + (p - 1) * c = ap (λ n. c + (p - 1) * n) (mul-one c) in
          ap (λ n. n % p) l ∙ (s ∙ (ap (λ n. n % p) k ∙ mod_opposite p c pos));
    }
  where
    one_small : (p : ℕ) → 1 < p → 1 % p ≡ 1
    one_small p h = mod-eq_of_lt h

    regroup : (q c e d : ℕ) → c + (q * (c * e)) * d ≡ c + q * (c * (d * e))
    regroup q c e d = omega arith
