-- The operations on lanes are those on lists.
use lib.Lanes.{zip2, Each2, sel_l, mask_l, sum_l, top}
use lib.ListN.{replicate}
use mir.Syntax.{w16}
use mir.Val.{bits, hbits}
use Rattle.std.proofs.Common.{ℕ, ◌≡◌, ◌+◌, ◌-◌, ◌%◌, ◌^◌, ◌≤◌, Bool, true, false, cond, not, ◌&&◌, ◌==◌, nat_le, eqb, ltb, max}
use Rattle.std.proofs.Common.{List, [], ◌∷◌, length, map, get_or, refl, sym, ap, ◌∙◌, arith}
use Rattle.std.proofs.Math.ListN.{get_or-map}
use Rattle.std.proofs.lemmas.Bool.{and_parts, leb-true}
use Rattle.std.proofs.lemmas.Bool.Decides.{nat_tests}
use Rattle.std.proofs.lemmas.Simd.{tops_compared, mask_l-mod, bit_mask_l, bitmask_splat, length-zip2, sum-zip2}
use Rattle.std.specs.Int.{bit_at}
use Rattle.cgs_exps.specs.Monomial.{degree, divides, lcm}
use Rattle.cgs_exps.specs.Mask.{mask}
use Rattle.cgs_exps.proofs.MonomialLemmas.{degree_first}
use Rattle.cgs_exps.proofs.MaskLemmas.{no_bit_first}

pub sum_of_lanes : (a : List ℕ) → sum_l a ≡ degree a
sum_of_lanes [] = refl
sum_of_lanes (x ∷ a) = omega (arith, sum_of_lanes a, degree_first x a)

pub sum_of_both : (a b : List ℕ) → length a ≡ length b → sum_l (zip2 (λ x y. x + y) a b) ≡ degree a + degree b
sum_of_both a b p = omega (arith, sum-zip2 a b p, sum_of_lanes a, sum_of_lanes b)

pub greatest_of_lanes : (a b : List ℕ) → sel_l (map (top (hbits w16)) (zip2 (λ (x y : ℕ). cond (ltb x y) (2 ^ bits w16 - 1) 0) a b)) b a ≡ lcm a b
greatest_of_lanes a b = ap (λ tests. sel_l tests b a) (tops_compared w16 ltb a b) ∙ greatest a b
  where
    greatest : (a b : List ℕ) → sel_l (zip2 ltb a b) b a ≡ lcm a b
    greatest [] b = refl
    greatest (x ∷ a) [] = refl
    greatest (x ∷ a) (y ∷ b) =
        let head : cond (ltb x y) y x ≡ max x y = grind (arith, nat_tests) in
        cc (head, greatest a b)

-- a mask as that of the tests of its places

bit_of : (empty : Bool) → cond {A = ℕ} (not empty) 1 0 ≡ cond empty 0 1
bit_of true = refl
bit_of false = refl

tests_of : (a : List ℕ) → mask_l (map (λ x. not (eqb x 0)) a) ≡ mask a
tests_of [] = refl
tests_of (x ∷ a) = cc (bit_of (x == 0), tests_of a)

pub mask_bits : (a : List ℕ) (i : ℕ) → bit_at (mask a) i ≡ cond (get_or a i 0 == 0) 0 1
mask_bits a i =
    ap (λ m. bit_at m i) (sym (tests_of a))
    ∙ (bit_mask_l (map (λ x. not (eqb x 0)) a) i ∙ (ap (λ t. cond {A = ℕ} t 1 0) (get_or-map (λ x. not (eqb x 0)) a i 0) ∙ bit_of (get_or a i 0 == 0)))

pub mask_of_lanes : (a : List ℕ) → length a ≡ 16
    → mask_l (map (top (hbits w16)) (zip2 (λ (x y : ℕ). cond (not (eqb x y)) (2 ^ bits w16 - 1) 0) a (replicate 16 0))) % 2 ^ 64 ≡ mask a
mask_of_lanes a p = bitmask_splat w16 (λ x y. not (eqb x y)) a 16 0 p (omega arith) ∙ tests_of a

-- no lane of b is below that of a: the mask of those that are is 0
pub none_of_lanes : (a b : List ℕ) → length a ≡ 16 → length b ≡ 16
    → eqb (mask_l (map (top (hbits w16)) (zip2 (λ (x y : ℕ). cond (ltb x y) (2 ^ bits w16 - 1) 0) b a)) % 2 ^ 64) 0 ≡ divides a b
none_of_lanes a b p q =
    let l : length (zip2 ltb b a) ≤ 64 = omega (arith, length-zip2 ltb b a (omega arith)) in
    ap (λ tests. eqb (mask_l tests % 2 ^ 64) 0) (tops_compared w16 ltb b a) ∙ (ap (λ n. eqb n 0) (mask_l-mod (zip2 ltb b a) 64 l) ∙ none a b)
  where
    none : (a b : List ℕ) → eqb (mask_l (zip2 ltb b a)) 0 ≡ divides a b
    none [] [] = refl
    none [] (y ∷ b) = refl
    none (x ∷ a) [] = refl
    none (x ∷ a) (y ∷ b) =
        let e : cond {A = ℕ} (ltb y x) 1 0 ≡ cond (nat_le x y) 0 1 = grind (arith, nat_tests) in
        rw e (no_bit_first (nat_le x y) (mask_l (zip2 ltb b a)) ∙ ap (λ t. nat_le x y && t) (none a b))

-- the lanes of a divisor can be subtracted
pub no_lane_below : (a b : List ℕ) → divides b a ≡ true → Each2 (λ x y. y ≤ x) a b
no_lane_below [] b d = tt
no_lane_below (x ∷ a) [] d = tt
no_lane_below (x ∷ a) (y ∷ b) d =
    let parts = and_parts _ _ d in
    (leb-true y x parts.0, no_lane_below a b parts.1)
