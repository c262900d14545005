-- Sums of terms under weights of their monomials, and what holds of each monomial.
use Rattle.std.proofs.Common.{ℕ, ◌≡◌, ◌+◌, ◌*◌, List, [], ◌∷◌, ◌++◌, ap, ◌∙◌, sym, refl, arith, length}
use Rattle.std.proofs.Math.Nat.{mul-add, mul_left_comm}
use Rattle.cgs_exps.specs.Monomial.{product}
use Rattle.cgs_poly.specs.Ring.{Ring}
use Rattle.cgs_poly.specs.Polynomial.{Term, places, total, IsOfRing}
use Rattle.cgs_poly.specs.Product.{multiple, all_products}
use Rattle.cgs_poly.proofs.SumLemmas.{total_append}
use Rattle.cgs_poly.proofs.ProductLemmas.{total_multiple}

-- P holds of each monomial
abbrev pub Each : (List ℕ → Type 0) → List Term → Type 0
Each P [] = Unit {0}
Each P (y ∷ f) = P y.exponents × Each P f

-- weights that agree give one sum
pub total_same : (P : List ℕ → Type 0) (v w : List ℕ → ℕ) (f : List Term) → Each P f → ((m : List ℕ) → P m → v m ≡ w m) → total v f ≡ total w f
total_same P v w [] h e = refl
total_same P v w (y ∷ f) h e = cc (e y.exponents h.0, total_same P v w f h.1 e)

pub each_append : (P : List ℕ → Type 0) (f g : List Term) → Each P f → Each P g → Each P (f ++ g)
each_append P [] g h k = k
each_append P (y ∷ f) g h k = (h.0, each_append P f g h.1 k)

pub each_multiple : (P Q : List ℕ → Type 0) (c : ℕ) (t : List ℕ) (f : List Term) → Each P f → ((m : List ℕ) → P m → Q (product t m)) → Each Q (multiple c t f)
each_multiple P Q c t [] h k = tt
each_multiple P Q c t (y ∷ f) h k = (k y.exponents h.0, each_multiple P Q c t f h.1 k)

pub each_products : (P Q R : List ℕ → Type 0) (q f : List Term) → Each P q → Each Q f → ((u m : List ℕ) → P u → Q m → R (product u m))
    → Each R (all_products q f)
each_products P Q R [] f h k e = tt
each_products P Q R (y ∷ q) f h k e =
    each_append R (multiple y.coefficient y.exponents f) (all_products q f) (each_multiple Q R y.coefficient y.exponents f k (λ m z. e y.exponents m h.0 z))
    (each_products P Q R q f h.1 k e)

-- so many exponents as the ring has places
abbrev pub HasLength : Ring → List ℕ → Type 0
HasLength ring m = length m ≡ places ring

pub each_length : (ring : Ring) (f : List Term) → IsOfRing ring f → Each (HasLength ring) f
each_length ring [] h = tt
each_length ring (y ∷ f) h = (h.0, each_length ring f h.1)

-- sums over products, where the second list is a sum
pub products_plus : (q f g h : List Term) → ((w : List ℕ → ℕ) → total w f ≡ total w g + total w h) → (w : List ℕ → ℕ)
    → total w (all_products q f) ≡ total w (all_products q g) + total w (all_products q h)
products_plus [] f g h e w = refl
products_plus (y ∷ q) f g h e w =
    let i = total_append w (multiple y.coefficient y.exponents f) (all_products q f) in
    let j = total_append w (multiple y.coefficient y.exponents g) (all_products q g) in
    let k = total_append w (multiple y.coefficient y.exponents h) (all_products q h) in
    let l = total_multiple w y.coefficient y.exponents f in
    let m = total_multiple w y.coefficient y.exponents g in
    let n = total_multiple w y.coefficient y.exponents h in
    let o = e (λ x. w (product y.exponents x)) in
    join y.coefficient (total (λ x. w (product y.exponents x)) f) (total (λ x. w (product y.exponents x)) g) (total (λ x. w (product y.exponents x)) h) _ _ _
    _ _ _ i j k l m n o (products_plus q f g h e w)
  where
    join : (c a b d a' b' d' i j k : ℕ) {mf mg mh : ℕ} → i ≡ mf + a' → j ≡ mg + b' → k ≡ mh + d' → mf ≡ c * a → mg ≡ c * b → mh ≡ c * d → a ≡ b + d
        → a' ≡ b' + d' → i ≡ j + k
    join c a b d a' b' d' i j k p q r s t u v x = let z : c * a ≡ c * (b + d) = ap (λ n. c * n) v in omega arith

pub multiple_plus : (c : ℕ) (t : List ℕ) (f g h : List Term) → ((w : List ℕ → ℕ) → total w f ≡ total w g + total w h) → (w : List ℕ → ℕ)
    → total w (multiple c t f) ≡ total w (multiple c t g) + total w (multiple c t h)
multiple_plus c t f g h e w = total_multiple w c t f
    ∙ (ap (λ n. c * n) (e (λ x. w (product t x))) ∙ (mul-add c _ _ ∙ cc (total_multiple w c t g, total_multiple w c t h)))

pub products_multiple : (w : List ℕ → ℕ) (c : ℕ) (t : List ℕ) (q g : List Term)
    → total w (all_products q (multiple c t g)) ≡ c * total (λ u. total (λ n. w (product u (product t n))) g) q
products_multiple w c t [] g = omega arith
products_multiple w c t (y ∷ q) g =
    let i = total_append w (multiple y.coefficient y.exponents (multiple c t g)) (all_products q (multiple c t g)) in
    let j = total_multiple w y.coefficient y.exponents (multiple c t g) in
    let k = total_multiple (λ x. w (product y.exponents x)) c t g in
    let z : y.coefficient * (c * total (λ n. w (product y.exponents (product t n))) g)
    ≡ c * (y.coefficient * total (λ n. w (product y.exponents (product t n))) g) =
    mul_left_comm y.coefficient c (total (λ n. w (product y.exponents (product t n))) g) in
    let e : total w (multiple y.coefficient y.exponents (multiple c t g)) ≡ c * (y.coefficient * total (λ n. w (product y.exponents (product t n))) g) = j
    ∙ (ap (λ n. y.coefficient * n) k ∙ z) in
    i ∙ (cc (e, products_multiple w c t q g)
    ∙ sym (mul-add c (y.coefficient * total (λ n. w (product y.exponents (product t n))) g) (total (λ u. total (λ n. w (product u (product t n))) g) q)))
