-- The laws of masks.
use Rattle.std.proofs.Common.{ℕ, zero, suc, ◌≡◌, ◌+◌, ◌*◌, ◌≤◌, ◌<◌, ◌^◌, Bool, true, false, cond, ◌==◌, ◌&&◌, ◌||◌, eqb}
use Rattle.std.proofs.Common.{List, [], ◌∷◌, length, take, drop, refl, ap, ◌∙◌, arith}
use Rattle.std.specs.Prelude.{bit_and}
use Rattle.std.proofs.lemmas.Bool.{and_parts, leb-true}
use Rattle.std.proofs.lemmas.Bool.Decides.{nat_tests}
use Rattle.std.proofs.lemmas.Nat.{and_block, and_comm, pow_pos}
use Rattle.std.proofs.Math.Nat.{pow-succ', mul_left_comm}
use Rattle.cgs_exps.specs.Monomial.{divides, coprime}
use Rattle.cgs_exps.specs.Mask.{mask}

bit_small : (empty : Bool) → cond empty 0 1 < 2
bit_small true = omega arith
bit_small false = omega arith

-- a mask has no bit above the last place
pub mask_small : (a : List ℕ) (n : ℕ) → length a ≤ n → mask a < 2 ^ n
mask_small [] n p = pow_pos n
mask_small (x ∷ a) zero p = absurd (omega arith)
mask_small (x ∷ a) (suc n) p = omega (arith, bit_small (x == 0), mask_small a n (omega arith), pow-succ' 2 n)

bit_more : (s t : Bool) → (t ≡ true → s ≡ true) → bit_and (cond s 0 1) (cond t 0 1) ≡ cond s 0 1
bit_more true t h = refl
bit_more false true h = absurd (cc (h refl))
bit_more false false h = refl

and_first : (r s m n : ℕ) → r < 2 → s < 2 → bit_and (r + 2 * m) (s + 2 * n) ≡ bit_and r s + 2 * bit_and m n
and_first r s m n p q =
    let first : r + 2 * m ≡ m * 2 ^ 1 + r = omega arith in
    let second : s + 2 * n ≡ n * 2 ^ 1 + s = omega arith in
    let joined : bit_and m n * 2 ^ 1 + bit_and r s ≡ bit_and r s + 2 * bit_and m n = omega arith in
    rw (first, second) (and_block 1 m n r s p q ∙ joined)

-- a divisor's mask is within that of what it divides
pub mask_divides : (a b : List ℕ) → length a ≡ length b → divides a b ≡ true → bit_and (mask a) (mask b) ≡ mask a
mask_divides [] b p d = refl
mask_divides (x ∷ xs) [] p d = absurd (omega arith)
mask_divides (x ∷ xs) (y ∷ ys) p d =
    let parts = and_parts _ _ d in
    let le : x ≤ y = leb-true x y parts.0 in
    and_first (cond (x == 0) 0 1) (cond (y == 0) 0 1) (mask xs) (mask ys) (bit_small (x == 0)) (bit_small (y == 0))
    ∙ cc (bit_more (x == 0) (y == 0) (λ e. grind (arith, nat_tests)), mask_divides xs ys (omega arith) parts.1)

-- monomials are coprime where their masks have no bit in common

pub no_bit_first : (empty : Bool) (m : ℕ) → eqb (cond empty 0 1 + 2 * m) 0 ≡ (empty && eqb m 0)
no_bit_first true m = grind (arith, nat_tests)
no_bit_first false m = grind (arith, nat_tests)

bit_of_both : (s t : Bool) → bit_and (cond s 0 1) (cond t 0 1) ≡ cond (s || t) 0 1
bit_of_both true t = refl
bit_of_both false true = refl
bit_of_both false false = refl

pub masks_coprime : (a b : List ℕ) → eqb (bit_and (mask a) (mask b)) 0 ≡ coprime a b
masks_coprime [] b = refl
masks_coprime (x ∷ xs) [] = ap (λ n. eqb n 0) (and_comm (mask (x ∷ xs)) 0)
masks_coprime (x ∷ xs) (y ∷ ys) =
    let e : bit_and (mask (x ∷ xs)) (mask (y ∷ ys)) ≡ cond (x == 0 || y == 0) 0 1 + 2 * bit_and (mask xs) (mask ys)
    = and_first (cond (x == 0) 0 1) (cond (y == 0) 0 1) (mask xs) (mask ys) (bit_small (x == 0)) (bit_small (y == 0))
    ∙ ap (λ n. n + 2 * bit_and (mask xs) (mask ys)) (bit_of_both (x == 0) (y == 0)) in
    ap (λ n. eqb n 0) e ∙ (no_bit_first (x == 0 || y == 0) (bit_and (mask xs) (mask ys)) ∙ ap (λ t. (x == 0 || y == 0) && t) (masks_coprime xs ys))

-- the mask of the first places, and that of the places after them
pub mask_parts : (n : ℕ) (a : List ℕ) → n ≤ length a → mask (drop n a) * 2 ^ n + mask (take n a) ≡ mask a
mask_parts zero a p = omega arith
mask_parts (suc n) [] p = absurd (omega arith)
mask_parts (suc n) (x ∷ a) p =
    let e : mask (drop n a) * 2 ^ suc n ≡ 2 * (mask (drop n a) * 2 ^ n)
    = ap (λ k. mask (drop n a) * k) (pow-succ' 2 n) ∙ mul_left_comm (mask (drop n a)) 2 (2 ^ n) in
    omega (arith, e, mask_parts n a (omega arith))
