-- Lists whose terms are changed one by one, as a merge does on the way: still canonical, and one sum with the multiple.
use Rattle.std.proofs.Common.{ℕ, ◌≡◌, ◌+◌, ◌*◌, ◌%◌, ◌<◌, List, [], ◌∷◌, ◌++◌, length, refl, sym, ap, ◌∙◌, arith}
use Rattle.std.proofs.Math.Nat.{mod-lt, mod-eq_of_lt, zero-mod}
use Rattle.std.proofs.lemmas.Nat.{mul-mod_first}
use Rattle.std.specs.declared.cmp.Ordering.TheVariants.{Less}
use Rattle.cgs_field.specs.Prime.{IsField, IsModulus}
use Rattle.cgs_field.proofs.ModularLemmas.{mod_add, mod_mul}
use Rattle.cgs_field.proofs.PrimeLemmas.{modulus_field}
use Rattle.cgs_exps.specs.Monomial.{product}
use Rattle.cgs_exps.proofs.MonomialLemmas.{product_length}
use Rattle.cgs_order.specs.TermOrder.{compared}
use Rattle.cgs_terms.specs.declared.ring.Ring.{Ring}
use Rattle.cgs_terms.specs.Polynomial.{Term, places, order_of, total, StartsBelow, IsCanonical, canonical}
use Rattle.cgs_terms.specs.Product.{scaled, multiple}
use Rattle.cgs_terms.specs.Merge.{changed}
use Rattle.cgs_terms.proofs.SumLemmas.{Alike, alike_same, alike_back, alike_append, total_scaled}
use Rattle.cgs_terms.proofs.ProductLemmas.{total_multiple, multiple_of_ring, scaled_of_ring}
use Rattle.cgs_terms.proofs.RingLemmas.{modulus_positive}
use Rattle.cgs_terms.proofs.CanonicalLemmas.{canonical_same, canonical_of_ring, canonical_itself}
use Rattle.cgs_terms.proofs.CanonicalLemmas.{append_of_ring}
use Rattle.cgs_terms.proofs.ProductOrderLemmas.{compared_shift}

-- coefficients that stay 1 to p-1, and monomials that stay in order
pub changed_canonical : (ring : Ring) (a : ℕ → ℕ) (b : List ℕ → List ℕ) → ((c : ℕ) → 0 < c → c < ring.modulus → (0 < a c) × (a c < ring.modulus))
    → ((m : List ℕ) → length m ≡ places ring → length (b m) ≡ places ring)
    → ((m n : List ℕ) → length m ≡ places ring → length n ≡ places ring → compared (order_of ring) m n ≡ Less → compared (order_of ring) (b m) (b n) ≡ Less)
    → (g : List Term) → IsCanonical ring g → IsCanonical ring (changed a b g)
changed_canonical ring a b u l o [] h = tt
changed_canonical ring a b u l o (x ∷ g) h =
    let s = u x.coefficient h.0 h.1 in
    (s.0, s.1, l x.exponents h.2, starts g h.3 h.4, changed_canonical ring a b u l o g h.4)
  where
    starts : (g : List Term) → StartsBelow ring x.exponents g → IsCanonical ring g → StartsBelow ring (b x.exponents) (changed a b g)
    starts [] s k = tt
    starts (y ∷ g) s k = o y.exponents x.exponents k.2 h.2 s

-- no zero divisors
no_zero : (p c d : ℕ) → IsField p → 0 < c → c < p → 0 < d → d < p → (c * d) % p ≡ 0 → ⊥
no_zero p c d field sc lc sd ld z =
    let cn : c % p ≡ c = mod-eq_of_lt lc in
    let dn : d % p ≡ d = mod-eq_of_lt ld in
    let i = field.inverse c (λ e. omega (arith, cn, e)) in
    let one : 1 % p ≡ 1 = mod-eq_of_lt field.two in
    let l : (d * (c * i.0)) % p ≡ (d * 1) % p = mod_mul p d d (c * i.0) 1 refl (i.1 ∙ sym one) in
    let r : (i.0 * (c * d)) % p ≡ (i.0 * 0) % p = mod_mul p i.0 i.0 (c * d) 0 refl (z ∙ sym (zero-mod p)) in
    let e : d * (c * i.0) ≡ i.0 * (c * d) = omega arith in
    let f : d * 1 ≡ d = omega arith in
    let g : i.0 * 0 ≡ 0 = omega arith in
    let k : d ≡ 0 = sym dn ∙ (sym (ap (λ n. n % p) f) ∙ (sym l ∙ (ap (λ n. n % p) e ∙ (r ∙ (ap (λ n. n % p) g ∙ zero-mod p))))) in
    omega arith

pub times_unit : (p c : ℕ) → IsModulus p → 0 < c → c < p → (d : ℕ) → 0 < d → d < p → (0 < (c * d) % p) × ((c * d) % p < p)
times_unit p c modulus sc lc d sd ld =
    let z = no_zero p c d (modulus_field p modulus) sc lc sd ld in
    (omega (arith, z), mod-lt (c * d) (omega arith))

-- with a number and a monomial as factor
pub multiple_canonical : (ring : Ring) (c : ℕ) (t : List ℕ) (g : List Term) → IsModulus ring.modulus → 0 < c → c < ring.modulus → length t ≡ places ring
    → IsCanonical ring g → IsCanonical ring (changed (λ d. (c * d) % ring.modulus) (product t) g)
multiple_canonical ring c t g r sc lc l h =
    changed_canonical ring (λ d. (c * d) % ring.modulus) (product t) (times_unit ring.modulus c r sc lc) (λ m k. product_length t m (places ring) l k)
    (λ m n k j s. compared_shift (order_of ring) t m n (l ∙ sym k) (l ∙ sym j) ∙ s) g h

-- with a number as factor
pub scaled_canonical : (ring : Ring) (c : ℕ) (g : List Term) → IsModulus ring.modulus → 0 < c → c < ring.modulus
    → IsCanonical ring g → IsCanonical ring (changed (λ d. (c * d) % ring.modulus) (λ m. m) g)
scaled_canonical ring c g r sc lc h =
    changed_canonical ring (λ d. (c * d) % ring.modulus) (λ m. m) (times_unit ring.modulus c r sc lc) (λ m k. k) (λ m n k j s. s) g h

total_changed : (p c : ℕ) (b : List ℕ → List ℕ) (w : List ℕ → ℕ) (g : List Term)
    → total w (changed (λ d. (c * d) % p) b g) % p ≡ (c * total (λ m. w (b m)) g) % p
total_changed p c b w [] = let z : c * 0 ≡ 0 = omega arith in ap (λ n. n % p) (sym z)
total_changed p c b w (x ∷ g) =
    let v : ℕ = w (b x.exponents) in
    let t : ℕ = total (λ m. w (b m)) g in
    let e : ((c * x.coefficient) % p * w (b x.exponents) + total w (changed (λ d. (c * d) % p) b g)) % p
    ≡ ((c * x.coefficient) * w (b x.exponents) + c * total (λ m. w (b m)) g) % p =
    mod_add p _ _ _ _ (mul-mod_first (c * x.coefficient) (w (b x.exponents)) p) (total_changed p c b w g) in
    let r : (c * x.coefficient) * w (b x.exponents) + c * total (λ m. w (b m)) g ≡ c * (x.coefficient * w (b x.exponents) + total (λ m. w (b m)) g) =
    omega arith in
    e ∙ ap (λ n. n % p) r

pub changed_multiple : (p c : ℕ) (t : List ℕ) (g : List Term) → Alike p (changed (λ d. (c * d) % p) (product t) g) (multiple c t g)
changed_multiple p c t g = record { under = λ w. total_changed p c (product t) w g ∙ ap (λ n. n % p) (sym (total_multiple w c t g)) }

pub changed_scaled : (p c : ℕ) (g : List Term) → Alike p (changed (λ d. (c * d) % p) (λ m. m) g) (scaled c g)
changed_scaled p c g = record { under = λ w. total_changed p c (λ m. m) w g ∙ ap (λ n. n % p) (sym (total_scaled w c g)) }

-- the canonical lists

pub canonical_multiple : (ring : Ring) (c : ℕ) (t : List ℕ) (g : List Term) → IsModulus ring.modulus → 0 < c → c < ring.modulus → length t ≡ places ring
    → IsCanonical ring g → canonical ring (changed (λ d. (c * d) % ring.modulus) (product t) g) ≡ canonical ring (multiple c t g)
canonical_multiple ring c t g r sc lc l h =
    let k = multiple_canonical ring c t g r sc lc l h in
    canonical_same ring (changed (λ d. (c * d) % ring.modulus) (product t) g) (multiple c t g) (modulus_positive ring.modulus r)
    (canonical_of_ring ring (changed (λ d. (c * d) % ring.modulus) (product t) g) k) (multiple_of_ring ring c t g l (canonical_of_ring ring g h))
    (changed_multiple ring.modulus c t g)

pub canonical_scaled : (ring : Ring) (c : ℕ) (g : List Term) → IsModulus ring.modulus → 0 < c → c < ring.modulus → IsCanonical ring g
    → canonical ring (scaled c g) ≡ changed (λ d. (c * d) % ring.modulus) (λ m. m) g
canonical_scaled ring c g r sc lc h =
    let k = scaled_canonical ring c g r sc lc h in
    let pos = modulus_positive ring.modulus r in
    canonical_same ring (scaled c g) (changed (λ d. (c * d) % ring.modulus) (λ m. m) g) pos (scaled_of_ring ring c g (canonical_of_ring ring g h))
    (canonical_of_ring ring (changed (λ d. (c * d) % ring.modulus) (λ m. m) g) k)
    (alike_back (changed_scaled ring.modulus c g)) ∙ canonical_itself ring (changed (λ d. (c * d) % ring.modulus) (λ m. m) g) pos k

-- f with a multiple of g, as it is changed on the way
pub canonical_with_multiple : (ring : Ring) (c : ℕ) (t : List ℕ) (f g : List Term) → IsModulus ring.modulus → 0 < c
    → c < ring.modulus → length t ≡ places ring → IsCanonical ring f → IsCanonical ring g
    → canonical ring (f ++ changed (λ d. (c * d) % ring.modulus) (product t) g) ≡ canonical ring (f ++ multiple c t g)
canonical_with_multiple ring c t f g r sc lc l h k =
    let a = canonical_of_ring ring f h in
    let b = canonical_of_ring ring (changed (λ d. (c * d) % ring.modulus) (product t) g) (multiple_canonical ring c t g r sc lc l k) in
    let d = multiple_of_ring ring c t g l (canonical_of_ring ring g k) in
    canonical_same ring (f ++ changed (λ d. (c * d) % ring.modulus) (product t) g) (f ++ multiple c t g) (modulus_positive ring.modulus r)
    (append_of_ring ring f (changed (λ d. (c * d) % ring.modulus) (product t) g) a b) (append_of_ring ring f (multiple c t g) a d)
    (alike_append (alike_same ring.modulus f) (changed_multiple ring.modulus c t g))
