-- The inverse of a number modulo p is one, and the only one below p.
use Rattle.std.proofs.Common.{ℕ, zero, suc, ◌≡◌, ◌*◌, ◌%◌, ◌<◌, ◌≤◌, Bool, true, false, cond, refl, sym, ap, ◌∙◌, arith, eqb}
use Rattle.std.proofs.Math.Nat.{mod-lt, mod-mod, mod-eq_of_lt, zero-mod}
use Rattle.std.proofs.lemmas.Bool.{eqb-true, eqb-false}
use Rattle.cgs_field.specs.Prime.{IsField}
use Rattle.cgs_field.specs.Inverse.{inverse_below, inverse}
use Rattle.cgs_field.proofs.ModularLemmas.{mod_mul}

inverse_found : (p a n b : ℕ) → b < n → (a * b) % p ≡ 1 → (a * inverse_below p a n) % p ≡ 1
inverse_found p a zero b l e = absurd (omega arith)
inverse_found p a (suc n) b l e = step (eqb ((a * n) % p) 1) refl (λ k. inverse_found p a n b k e)
  where
    below : ¬ ((a * n) % p ≡ 1) → (t : Bool) → eqb b n ≡ t → b < n
    below other true q = absurd (other (ap (λ k. (a * k) % p) (sym (eqb-true b n q)) ∙ e))
    below other false q = let apart = eqb-false b n q in omega arith

    step : (t : Bool) → eqb ((a * n) % p) 1 ≡ t → (b < n → (a * inverse_below p a n) % p ≡ 1) → (a * cond t n (inverse_below p a n)) % p ≡ 1
    step true q ih = eqb-true ((a * n) % p) 1 q
    step false q ih = ih (below (eqb-false ((a * n) % p) 1 q) (eqb b n) refl)

inverse_small : (p a n : ℕ) → 0 < p → n ≤ p → inverse_below p a n < p
inverse_small p a zero pos l = pos
inverse_small p a (suc n) pos l = step (eqb ((a * n) % p) 1) (inverse_small p a n pos (omega arith))
  where
    step : (t : Bool) → inverse_below p a n < p → cond t n (inverse_below p a n) < p
    step true ih = omega arith
    step false ih = ih

pub inverse_times : (p a : ℕ) → IsField p → 0 < a → a < p → (a * inverse p a) % p ≡ 1
unfolding inverse
inverse_times p a field l h =
    let i = field.inverse a (λ e. omega (arith, mod-eq_of_lt h, e)) in
    let s : (a * (i.0 % p)) % p ≡ 1 = mod_mul p a a (i.0 % p) i.0 refl (mod-mod i.0 p) ∙ i.1 in
    inverse_found p a p (i.0 % p) (mod-lt i.0 (omega (arith, field.two))) s

pub inverse_less : (p a : ℕ) → 0 < p → inverse p a < p
unfolding inverse
inverse_less p a pos = inverse_small p a p pos (omega arith)

pub inverse_positive : (p a : ℕ) → IsField p → 0 < a → a < p → 0 < inverse p a
inverse_positive p a field l h = by_zero (eqb (inverse p a) 0) refl
  where
    by_zero : (b : Bool) → eqb (inverse p a) 0 ≡ b → 0 < inverse p a
    by_zero true e =
        let z : inverse p a ≡ 0 = eqb-true (inverse p a) 0 e in
        let s : a * inverse p a ≡ 0 = rw z (omega arith) in
        let bad : ◌≡◌ {A = ℕ} 0 1 = sym (zero-mod p) ∙ (ap (λ n. n % p) (sym s) ∙ inverse_times p a field l h) in
        absurd (omega arith)
    by_zero false e = let n = eqb-false (inverse p a) 0 e in omega (arith, n)

-- b is b * (a * inverse), and the inverse is inverse * (a * b)
pub inverse_is : (p a b : ℕ) → IsField p → 0 < a → a < p → b < p → (a * b) % p ≡ 1 → b ≡ inverse p a
inverse_is p a b field l h below e =
    let i : ℕ = inverse p a in
    let one : 1 % p ≡ 1 = mod-eq_of_lt field.two in
    let s : (b * (a * i)) % p ≡ (b * 1) % p = mod_mul p b b (a * i) 1 refl (inverse_times p a field l h ∙ sym one) in
    let t : (i * (a * b)) % p ≡ (i * 1) % p = mod_mul p i i (a * b) 1 refl (e ∙ sym one) in
    let f : b * (a * i) ≡ i * (a * b) = omega arith in
    let u : b * 1 ≡ b = omega arith in
    let v : i * 1 ≡ i = omega arith in
    let k : b % p ≡ i % p = sym (ap (λ n. n % p) u) ∙ (sym s ∙ (ap (λ n. n % p) f ∙ (t ∙ ap (λ n. n % p) v))) in
    sym (mod-eq_of_lt below) ∙ (k ∙ mod-eq_of_lt (inverse_less p a (omega (arith, field.two))))
