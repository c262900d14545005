-- The first divisor, the limit on degrees, and a term added to the quotient at a place.
use Rattle.std.proofs.Common.{ℕ, zero, suc, ◌≡◌, ◌+◌, ◌<◌, ◌≤◌, Bool, true, false, cond, ◌||◌, List, [], ◌∷◌, ◌++◌, length, get_or, map, ltb, refl, ap, arith}
use Rattle.std.proofs.lemmas.Bool.{ltb-true, ltb-false}
use Rattle.std.specs.declared.cmp.Ordering.TheVariants.{Less}
use Rattle.cgs_exps.specs.Monomial.{product, degree, divides}
use Rattle.cgs_order.specs.TermOrder.{compared}
use Rattle.cgs_poly.specs.Ring.{Ring}
use Rattle.cgs_poly.specs.Polynomial.{Term, order_of, total, HasLowDegrees, greatest_degree}
use Rattle.cgs_poly.specs.Product.{multiple, all_products, leading_monomial}
use Rattle.cgs_poly.proofs.SumLemmas.{total_append}
use Rattle.cgs_algebra.specs.Groebner.{leading_monomial_at}
use Rattle.cgs_divide.specs.DivisionRun.{first_divisor, is_too_high, added_at}
use Rattle.cgs_divide.specs.Division.{products, TermsBelow, MultiplesBelow}

-- the first divisor

pub divisor_divides : (G : List (List Term)) (m : List ℕ) → first_divisor G m < length G → divides (leading_monomial_at G (first_divisor G m)) m ≡ true
divisor_divides [] m h = absurd (omega arith)
divisor_divides (g ∷ G) m h = by_test (divides (leading_monomial g) m) refl h (divisor_divides G m)
  where
    by_test : (b : Bool) → divides (leading_monomial g) m ≡ b → cond b 0 (suc (first_divisor G m)) < suc (length G)
        → (first_divisor G m < length G → divides (leading_monomial_at G (first_divisor G m)) m ≡ true)
        → divides (leading_monomial_at (g ∷ G) (cond b 0 (suc (first_divisor G m)))) m ≡ true
    by_test true e l ih = e
    by_test false e l ih = ih (omega arith)

pub none_divides : (G : List (List Term)) (m : List ℕ) → length G ≤ first_divisor G m → (i : ℕ) → i < length G → divides (leading_monomial_at G i) m ≡ true → ⊥
none_divides [] m h i l d = omega arith
none_divides (g ∷ G) m h i l d = by_test (divides (leading_monomial g) m) refl h i l d (none_divides G m)
  where
    by_test : (b : Bool) → divides (leading_monomial g) m ≡ b → suc (length G) ≤ cond b 0 (suc (first_divisor G m))
        → (i : ℕ) → i < suc (length G) → divides (leading_monomial_at (g ∷ G) i) m ≡ true
        → (length G ≤ first_divisor G m → (i : ℕ) → i < length G → divides (leading_monomial_at G i) m ≡ true → ⊥) → ⊥
    by_test true e h i l d ih = omega arith
    by_test false e h zero l d ih = cc
    by_test false e h (suc i) l d ih = ih (omega arith) i (omega arith) d

-- the limit on degrees

pub not_too_high : (f : List Term) → is_too_high f ≡ false → HasLowDegrees f
not_too_high [] e = tt
not_too_high (x ∷ f) e = by_test (ltb greatest_degree (degree x.exponents)) refl e (not_too_high f)
  where
    by_test : (b : Bool) → ltb greatest_degree (degree x.exponents) ≡ b → (b || is_too_high f) ≡ false
        → (is_too_high f ≡ false → HasLowDegrees f) → HasLowDegrees (x ∷ f)
    by_test true t k ih = absurd (cc)
    by_test false t k ih = (ltb-false greatest_degree (degree x.exponents) t, ih k)

pub too_high : (f : List Term) → is_too_high f ≡ true → HasLowDegrees f → ⊥
too_high [] e h = cc
too_high (x ∷ f) e h = by_test (ltb greatest_degree (degree x.exponents)) refl e (λ k. too_high f k h.1)
  where
    by_test : (b : Bool) → ltb greatest_degree (degree x.exponents) ≡ b → (b || is_too_high f) ≡ true → (is_too_high f ≡ true → ⊥) → ⊥
    by_test true t k ih = omega (arith, ltb-true greatest_degree (degree x.exponents) t, h.0)
    by_test false t k ih = ih k

-- a term added at a place

pub added_length : (i : ℕ) (x : Term) (quotients : List (List Term)) → length (added_at i x quotients) ≡ length quotients
added_length i x [] = refl
added_length zero x (q ∷ quotients) = refl
added_length (suc i) x (q ∷ quotients) = ap suc (added_length i x quotients)

pub total_added : (w : List ℕ → ℕ) (i : ℕ) (x : Term) (quotients G : List (List Term)) → length quotients ≡ length G → i < length G
    → total w (products (added_at i x quotients) G) ≡ total w (multiple x.coefficient x.exponents (get_or G i [])) + total w (products quotients G)
total_added w i x [] G l h = absurd (omega arith)
total_added w i x (q ∷ quotients) [] l h = absurd (omega arith)
total_added w zero x (q ∷ quotients) (g ∷ G) l h =
    let m : List Term = multiple x.coefficient x.exponents g in
    let a = total_append w (m ++ all_products q g) (products quotients G) in
    let b = total_append w m (all_products q g) in
    let c = total_append w (all_products q g) (products quotients G) in
    omega (arith, a, b, c)
total_added w (suc i) x (q ∷ quotients) (g ∷ G) l h =
    let a = total_append w (all_products q g) (products (added_at i x quotients) G) in
    let b = total_append w (all_products q g) (products quotients G) in
    omega (arith, a, b, total_added w i x quotients G (omega arith) (omega arith))

pub below_added : (ring : Ring) (m : List ℕ) (i : ℕ) (x : Term) (quotients G : List (List Term)) → length quotients ≡ length G → i < length G
    → compared (order_of ring) (product x.exponents (leading_monomial_at G i)) m ≡ Less
    → MultiplesBelow ring m quotients G → MultiplesBelow ring m (added_at i x quotients) G
below_added ring m i x [] G l h s b = absurd (omega arith)
below_added ring m i x (q ∷ quotients) [] l h s b = absurd (omega arith)
below_added ring m zero x (q ∷ quotients) (g ∷ G) l h s b = ((s, b.0), b.1)
below_added ring m (suc i) x (q ∷ quotients) (g ∷ G) l h s b = (b.0, below_added ring m i x quotients G (omega arith) (omega arith) s b.1)

-- the quotient at a place
pub below_at : (ring : Ring) (m : List ℕ) (i : ℕ) (quotients G : List (List Term))
    → length quotients ≡ length G → i < length G → MultiplesBelow ring m quotients G
    → TermsBelow ring m (leading_monomial_at G i) (get_or quotients i [])
below_at ring m i [] G l h b = absurd (omega arith)
below_at ring m i (q ∷ quotients) [] l h b = absurd (omega arith)
below_at ring m zero (q ∷ quotients) (g ∷ G) l h b = b.0
below_at ring m (suc i) (q ∷ quotients) (g ∷ G) l h b = below_at ring m i quotients G (omega arith) (omega arith) b.1

-- quotients that are all 0

abbrev pub zeros : List (List Term) → List (List Term)
zeros G = map (λ g. []) G

pub zeros_length : (G : List (List Term)) → length (zeros G) ≡ length G
zeros_length [] = refl
zeros_length (g ∷ G) = ap suc (zeros_length G)

pub zeros_products : (G : List (List Term)) → products (zeros G) G ≡ []
zeros_products [] = refl
zeros_products (g ∷ G) = zeros_products G

pub zeros_below : (ring : Ring) (m : List ℕ) (G : List (List Term)) → MultiplesBelow ring m (zeros G) G
zeros_below ring m [] = tt
zeros_below ring m (g ∷ G) = (tt, zeros_below ring m G)
