-- The laws of monomials.
use Rattle.std.proofs.Common.{ℕ, ◌≡◌, ◌+◌, ◌-◌, ◌≤◌, sym, ap, ◌∙◌, true, List, [], ◌∷◌, length, take, refl, add_assoc, arith, max, zero, suc, replicate}
use Rattle.std.proofs.lemmas.Bool.{and_parts, and_from, leb-true, le-leb}
use Rattle.std.proofs.lemmas.List.Sums.{sum_by-cons}
use Rattle.cgs_exps.specs.Monomial.{degree, product, divides, quotient, lcm}

pub product_assoc : (a b c : List ℕ) → product (product a b) c ≡ product a (product b c)
product_assoc [] b c = refl
product_assoc (x ∷ xs) [] c = refl
product_assoc (x ∷ xs) (y ∷ ys) [] = refl
product_assoc (x ∷ xs) (y ∷ ys) (z ∷ zs) = cc (add_assoc x y z, product_assoc xs ys zs)

pub product_comm : (a b : List ℕ) → product a b ≡ product b a
product_comm [] [] = refl
product_comm [] (y ∷ ys) = refl
product_comm (x ∷ xs) [] = refl
product_comm (x ∷ xs) (y ∷ ys) =
    let e : x + y ≡ y + x = omega arith in
    cc (e, product_comm xs ys)

pub product_length : (a b : List ℕ) (n : ℕ) → length a ≡ n → length b ≡ n → length (product a b) ≡ n
product_length [] b n p q = p
product_length (x ∷ xs) [] n p q = q
product_length (x ∷ xs) (y ∷ ys) n p q =
    let e : length (product xs ys) ≡ length xs = product_length xs ys (length xs) refl (omega arith) in
    omega arith

pub product_cancel : (t a b : List ℕ) → length t ≡ length a → length t ≡ length b → product t a ≡ product t b → a ≡ b
product_cancel [] [] [] p q e = refl
product_cancel [] [] (y ∷ ys) p q e = absurd (omega arith)
product_cancel [] (x ∷ xs) b p q e = absurd (omega arith)
product_cancel (t ∷ ts) [] b p q e = absurd (omega arith)
product_cancel (t ∷ ts) (x ∷ xs) [] p q e = absurd (omega arith)
product_cancel (t ∷ ts) (x ∷ xs) (y ∷ ys) p q e =
    let h : t + x ≡ t + y = cc in
    let k : product ts xs ≡ product ts ys = cc in
    let head : x ≡ y = omega arith in
    cc (head, product_cancel ts xs ys (omega arith) (omega arith) k)

-- the quotient product the divisor
pub quotient_product : (a b : List ℕ) → length a ≡ length b → divides b a ≡ true → product (quotient a b) b ≡ a
quotient_product [] [] p d = refl
quotient_product [] (y ∷ ys) p d = absurd (omega arith)
quotient_product (x ∷ xs) [] p d = absurd (omega arith)
quotient_product (x ∷ xs) (y ∷ ys) p d =
    let parts = and_parts _ _ d in
    let le : y ≤ x = leb-true y x parts.0 in
    let e : (x - y) + y ≡ x = omega arith in
    cc (e, quotient_product xs ys (omega arith) parts.1)

pub quotient_length : (a b : List ℕ) (n : ℕ) → length a ≡ n → length b ≡ n → length (quotient a b) ≡ n
quotient_length [] b n p q = p
quotient_length (x ∷ xs) [] n p q = q
quotient_length (x ∷ xs) (y ∷ ys) n p q =
    let e : length (quotient xs ys) ≡ length xs = quotient_length xs ys (length xs) refl (omega arith) in
    omega arith

pub lcm_length : (a b : List ℕ) (n : ℕ) → length a ≡ n → length b ≡ n → length (lcm a b) ≡ n
lcm_length [] b n p q = p
lcm_length (x ∷ xs) [] n p q = q
lcm_length (x ∷ xs) (y ∷ ys) n p q =
    let e : length (lcm xs ys) ≡ length xs = lcm_length xs ys (length xs) refl (omega arith) in
    omega arith

-- a multiple is divisible
pub divides_product : (t a : List ℕ) → divides a (product t a) ≡ true
divides_product [] [] = refl
divides_product [] (x ∷ xs) = refl
divides_product (t ∷ ts) [] = refl
divides_product (t ∷ ts) (x ∷ xs) =
    let le : x ≤ t + x = omega arith in
    cc (le-leb x (t + x) le, divides_product ts xs)

-- a common multiple is divisible by the least one
pub lcm_divides : (a b c : List ℕ) → length a ≡ length c → length b ≡ length c → divides a c ≡ true → divides b c ≡ true → divides (lcm a b) c ≡ true
lcm_divides [] b c p q d e = refl
lcm_divides (x ∷ xs) [] c p q d e = refl
lcm_divides (x ∷ xs) (y ∷ ys) [] p q d e = refl
lcm_divides (x ∷ xs) (y ∷ ys) (z ∷ zs) p q d e =
    let dp = and_parts _ _ d in
    let ep = and_parts _ _ e in
    let l : x ≤ z = leb-true x z dp.0 in
    let m : y ≤ z = leb-true y z ep.0 in
    let k : max x y ≤ z = omega arith in
    cc (le-leb (max x y) z k, lcm_divides xs ys zs (omega arith) (omega arith) dp.1 ep.1)

pub divides_lcm_left : (a b : List ℕ) → length a ≡ length b → divides a (lcm a b) ≡ true
divides_lcm_left [] b p = refl
divides_lcm_left (x ∷ xs) [] p = absurd (omega arith)
divides_lcm_left (x ∷ xs) (y ∷ ys) p =
    let k : x ≤ max x y = omega arith in
    cc (le-leb x (max x y) k, divides_lcm_left xs ys (omega arith))

pub lcm_comm : (a b : List ℕ) → length a ≡ length b → lcm a b ≡ lcm b a
lcm_comm [] [] p = refl
lcm_comm [] (y ∷ ys) p = absurd (omega arith)
lcm_comm (x ∷ xs) [] p = absurd (omega arith)
lcm_comm (x ∷ xs) (y ∷ ys) p =
    let k : max x y ≡ max y x = omega arith in
    cc (k, lcm_comm xs ys (omega arith))

pub one_product : (n : ℕ) (a : List ℕ) → length a ≡ n → product (replicate n 0) a ≡ a
one_product zero [] p = refl
one_product zero (x ∷ xs) p = absurd (omega arith)
one_product (suc n) [] p = absurd (omega arith)
one_product (suc n) (x ∷ xs) p =
    let e : 0 + x ≡ x = omega arith in
    cc (e, one_product n xs (omega arith))

pub divides_trans : (a b c : List ℕ) → length a ≡ length b → divides a b ≡ true → divides b c ≡ true → divides a c ≡ true
divides_trans [] b c p d e = refl
divides_trans (x ∷ xs) [] c p d e = absurd (omega arith)
divides_trans (x ∷ xs) (y ∷ ys) [] p d e = refl
divides_trans (x ∷ xs) (y ∷ ys) (z ∷ zs) p d e =
    let dp = and_parts _ _ d in
    let ep = and_parts _ _ e in
    let l : x ≤ y = leb-true x y dp.0 in
    let m : y ≤ z = leb-true y z ep.0 in
    let k : x ≤ z = omega arith in
    and_from _ _ (le-leb x z k) (divides_trans xs ys zs (omega arith) dp.1 ep.1)

pub divides_zeros : (n : ℕ) (a : List ℕ) → length a ≡ n → divides a (replicate n 0) ≡ true → a ≡ replicate n 0
divides_zeros zero [] p d = refl
divides_zeros zero (x ∷ xs) p d = absurd (omega arith)
divides_zeros (suc n) [] p d = absurd (omega arith)
divides_zeros (suc n) (x ∷ xs) p d =
    let dp = and_parts _ _ d in
    let l : x ≤ 0 = leb-true x 0 dp.0 in
    let k : x ≡ 0 = omega arith in
    cc (k, divides_zeros n xs (omega arith) dp.1)

pub take_divides : (n : ℕ) (a b : List ℕ) → divides a b ≡ true → divides (take n a) (take n b) ≡ true
take_divides zero a b d = refl
take_divides (suc n) [] b d = refl
take_divides (suc n) (x ∷ xs) [] d = refl
take_divides (suc n) (x ∷ xs) (y ∷ ys) d = let dp = and_parts _ _ d in and_from _ _ dp.0 (take_divides n xs ys dp.1)

pub divides_both : (a b : List ℕ) → length a ≡ length b → divides a b ≡ true → divides b a ≡ true → a ≡ b
divides_both [] [] p d e = refl
divides_both [] (y ∷ ys) p d e = absurd (omega arith)
divides_both (x ∷ xs) [] p d e = absurd (omega arith)
divides_both (x ∷ xs) (y ∷ ys) p d e =
    let dp = and_parts _ _ d in
    let ep = and_parts _ _ e in
    let l : x ≤ y = leb-true x y dp.0 in
    let m : y ≤ x = leb-true y x ep.0 in
    let k : x ≡ y = omega arith in
    cc (k, divides_both xs ys (omega arith) dp.1 ep.1)

-- degrees

pub degree_first : (x : ℕ) (a : List ℕ) → degree (x ∷ a) ≡ x + degree a
degree_first x a = sum_by-cons (λ n. n) x a

-- the degree of a product is the sum of the degrees
pub degree_product : (a b : List ℕ) → length a ≡ length b → degree (product a b) ≡ degree a + degree b
degree_product [] [] p = refl
degree_product [] (y ∷ ys) p = absurd (omega arith)
degree_product (x ∷ xs) [] p = absurd (omega arith)
degree_product (x ∷ xs) (y ∷ ys) p =
    let e : degree (product xs ys) ≡ degree xs + degree ys = degree_product xs ys (omega arith) in
    omega (arith, e, degree_first x xs, degree_first y ys, degree_first (x + y) (product xs ys))

-- a divisor's degree is at most that of what it divides
pub degree_divides : (a b : List ℕ) → length a ≡ length b → divides a b ≡ true → degree a ≤ degree b
degree_divides [] [] p d = omega arith
degree_divides [] (y ∷ ys) p d = absurd (omega arith)
degree_divides (x ∷ xs) [] p d = absurd (omega arith)
degree_divides (x ∷ xs) (y ∷ ys) p d =
    let parts = and_parts _ _ d in
    let l : x ≤ y = leb-true x y parts.0 in
    omega (arith, l, degree_divides xs ys (omega arith) parts.1, degree_first x xs, degree_first y ys)

-- the degree of a quotient is the difference of the degrees
pub degree_quotient : (a b : List ℕ) → length a ≡ length b → divides b a ≡ true → degree (quotient a b) + degree b ≡ degree a
degree_quotient a b p d =
    let l : length (quotient a b) ≡ length b = quotient_length a b (length b) p refl in
    sym (degree_product (quotient a b) b l) ∙ ap degree (quotient_product a b p d)
