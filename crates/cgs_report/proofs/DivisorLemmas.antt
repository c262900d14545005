-- Divisors in a list of monomials, and powers of one variable.
use Rattle.std.proofs.Common.{ℕ, zero, suc, ◌≡◌, ◌+◌, ◌≤◌, ◌||◌, inl, inr, min, nat_le, Bool, true, false, cond, Option, Some, None, List, [], ◌∷◌, ◌++◌}
use Rattle.std.proofs.Common.{length, take, drop, get_or, replicate, refl, sym, ap, ◌∙◌, arith}
use Rattle.std.specs.Option.{is_some, unwrap_or}
use Rattle.std.proofs.lemmas.Bool.{and_parts, and_from, or_cases, or_left, or_right, or_parts, or_from, leb-true, le-leb, eqb-true, false_from_ne_true}
use Rattle.std.proofs.lemmas.Bool.{cases_lt, both_ways}
use Rattle.cgs_exps.specs.Monomial.{divides}
use Rattle.cgs_exps.proofs.MonomialLemmas.{divides_trans, divides_zeros}
use Rattle.cgs_algebra.proofs.OneLemmas.{divides_by_one}
use Rattle.cgs_report.specs.Standard.{has_divisor}
use Rattle.cgs_report.specs.Box.{is_one, is_power, has_power, lesser, least_power, side}
use Rattle.cgs_report.specs.Laws.{HavePlaces}

-- what a multiple of a multiple is
pub divisor_more : (n : ℕ) (L : List (List ℕ)) (a b : List ℕ) → HavePlaces n L → length a ≡ n → divides a b ≡ true → has_divisor L a ≡ true
    → has_divisor L b ≡ true
divisor_more n [] a b h p d e = absurd (both_ways _ refl e)
divisor_more n (l ∷ L) a b h p d e =
    elim (or_cases _ _ e) [
      | inl t ↦ or_left (divides l b) (has_divisor L b) (divides_trans l a b (h.0 ∙ sym p) t d)
      | inr t ↦ or_right (divides l b) (has_divisor L b) (divisor_more n L a b h.1 p d t)
    ]

-- 1, and exponents before others

pub is_one-divides : (l m : List ℕ) → is_one l ≡ true → divides l m ≡ true
is_one-divides [] m e = refl
is_one-divides (x ∷ l) [] e = refl
is_one-divides (x ∷ l) (y ∷ m) e =
    let parts = and_parts _ _ e in
    let z : x ≡ 0 = eqb-true x 0 parts.0 in
    and_from (nat_le x y) (divides l m) (le-leb x y (omega arith)) (is_one-divides l m parts.1)

pub divides_after : (p a b : List ℕ) → divides a b ≡ true → divides (p ++ a) (p ++ b) ≡ true
divides_after [] a b d = d
divides_after (x ∷ p) a b d = and_from (nat_le x x) (divides (p ++ a) (p ++ b)) (le-leb x x (omega arith)) (divides_after p a b d)

-- greater exponents at a place, after the same ones and before 1
pub corner_divides : (p : List ℕ) (k e f : ℕ) (m : List ℕ) → e ≤ f → divides (p ++ e ∷ replicate k 0) (p ++ f ∷ m) ≡ true
corner_divides p k e f m l = divides_after p (e ∷ replicate k 0) (f ∷ m) (and_from (nat_le e f) (divides (replicate k 0) m) (le-leb e f l) (divides_by_one k m))

-- powers

pub power_divides : (i : ℕ) (l m : List ℕ) → length l ≡ length m → is_power i l ≡ true → get_or l i 0 ≤ get_or m i 0 → divides l m ≡ true
power_divides i [] m p e h = refl
power_divides i (x ∷ l) [] p e h = refl
power_divides zero (x ∷ l) (y ∷ m) p e h = and_from (nat_le x y) (divides l m) (le-leb x y h) (is_one-divides l m e)
power_divides (suc i) (x ∷ l) (y ∷ m) p e h =
    let parts = and_parts _ _ e in
    let first = and_parts _ _ parts.0 in
    let z : x ≡ 0 = eqb-true x 0 first.0 in
    and_from (nat_le x y) (divides l m) (le-leb x y (omega arith))
    (power_divides i l m (omega arith) (and_from (is_one (take i l)) (is_one (drop (suc i) l)) first.1 parts.1) h)

zeros_one : (k : ℕ) → is_one (replicate k 0) ≡ true
zeros_one zero = refl
zeros_one (suc k) = zeros_one k

divides-is_one : (k : ℕ) (l : List ℕ) → length l ≡ k → divides l (replicate k 0) ≡ true → is_one l ≡ true
divides-is_one k l p d = ap is_one (divides_zeros k l p d) ∙ zeros_one k

-- what divides a power is one
pub divides-is_power : (i k f : ℕ) (l : List ℕ) → length l ≡ i + suc k → divides l (replicate i 0 ++ f ∷ replicate k 0) ≡ true → is_power i l ≡ true
divides-is_power i k f [] p d = absurd (omega arith)
divides-is_power zero k f (x ∷ l) p d = divides-is_one k l (omega arith) (and_parts _ _ d).1
divides-is_power (suc i) k f (x ∷ l) p d =
    let parts = and_parts _ _ d in
    let le : x ≤ 0 = leb-true x 0 parts.0 in
    let z : x ≡ 0 = omega arith in
    let rest = divides-is_power i k f l (omega arith) parts.1 in
    rw z rest

pub no_power-apart : (i k f : ℕ) (L : List (List ℕ)) → HavePlaces (i + suc k) L → has_power i L ≡ false
    → has_divisor L (replicate i 0 ++ f ∷ replicate k 0) ≡ false
no_power-apart i k f [] h e = refl
no_power-apart i k f (l ∷ L) h e =
    let parts = or_parts _ _ e in
    or_from (divides l (replicate i 0 ++ f ∷ replicate k 0)) (has_divisor L (replicate i 0 ++ f ∷ replicate k 0))
    (false_from_ne_true _ (λ d. both_ways _ parts.0 (divides-is_power i k f l h.0 d)))
    (no_power-apart i k f L h.1 parts.1)

-- the least power

pub has_power-some : (i : ℕ) (L : List (List ℕ)) → is_some (least_power i L) ≡ has_power i L
has_power-some i [] = refl
has_power-some i (l ∷ L) = by_test (has_power-some i L) (is_power i l) refl
  where
    by_test : is_some (least_power i L) ≡ has_power i L → (b : Bool) → is_power i l ≡ b → is_some (least_power i (l ∷ L)) ≡ has_power i (l ∷ L)
    by_test ih true e = rw e refl
    by_test ih false e = rw e ih

-- it divides what has as great an exponent there
pub side_divides : (n i : ℕ) (L : List (List ℕ)) (m : List ℕ) → HavePlaces n L → length m ≡ n → has_power i L ≡ true → side i L ≤ get_or m i 0
    → has_divisor L m ≡ true
side_divides n i [] m h p e le = absurd (both_ways _ refl e)
side_divides n i (l ∷ L) m h p e le = by_test (side_divides n i L m h.1 p) (is_power i l) refl
  where
    later : (has_power i L ≡ true → side i L ≤ get_or m i 0 → has_divisor L m ≡ true) → has_power i L ≡ true → side i L ≤ get_or m i 0
        → has_divisor (l ∷ L) m ≡ true
    later ih t s = or_right (divides l m) (has_divisor L m) (ih t s)

    here : is_power i l ≡ true → get_or l i 0 ≤ get_or m i 0 → has_divisor (l ∷ L) m ≡ true
    here t s = or_left (divides l m) (has_divisor L m) (power_divides i l m (h.0 ∙ sym p) t s)

    bound : unwrap_or (cond (is_power i l) (Some (lesser (get_or l i 0) (least_power i L))) (least_power i L)) 0 ≤ get_or m i 0
    bound = le

    by_rest : (has_power i L ≡ true → side i L ≤ get_or m i 0 → has_divisor L m ≡ true) → is_power i l ≡ true → (o : Option ℕ) → least_power i L ≡ o
        → has_divisor (l ∷ L) m ≡ true
    by_rest ih t None o = here t (let s = bound in rw (t, o) at s)
    by_rest ih t (Some b) o =
        let s = bound in
        let q : min (get_or l i 0) b ≤ get_or m i 0 = rw (t, o) at s in
        elim (cases_lt b (get_or l i 0)) [
          | inl c ↦ later ih (sym (has_power-some i L) ∙ ap is_some o) (let g : b ≤ get_or m i 0 = omega arith in rw o g)
          | inr c ↦ here t (omega arith)
        ]

    by_test : (has_power i L ≡ true → side i L ≤ get_or m i 0 → has_divisor L m ≡ true) → (b : Bool) → is_power i l ≡ b → has_divisor (l ∷ L) m ≡ true
    by_test ih true t = by_rest ih t (least_power i L) refl
    by_test ih false t =
        let s = bound in
        let u : (is_power i l || has_power i L) ≡ true = e in
        later ih (rw t at u) (rw t at s)
