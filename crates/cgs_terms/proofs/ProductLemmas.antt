-- Multiples and products of lists of terms: their sums, their monomials and their degrees.
use Rattle.std.proofs.lemmas.List.{drop-drop}
use Rattle.std.proofs.Math.Seq.{take-add}
use Rattle.std.proofs.Common.{ℕ, zero, suc, ◌≡◌, ◌+◌, ◌-◌, ◌*◌, ◌<◌, ◌≤◌, max, Bool, true, false, List, [], ◌∷◌, ◌++◌, length, take, drop, append_assoc, refl}
use Rattle.std.proofs.Common.{sym, ap, ◌∙◌, subst, arith}
use Rattle.std.proofs.Math.Nat.{mul_assoc}
use Rattle.cgs_field.proofs.ModularLemmas.{mod_mul}
use Rattle.cgs_exps.specs.Monomial.{degree, product}
use Rattle.cgs_exps.proofs.MonomialLemmas.{product_assoc, product_length, degree_product}
use Rattle.cgs_terms.specs.declared.ring.Ring.{Ring}
use Rattle.cgs_terms.specs.Polynomial.{Term, places, total, IsOfRing, IsPoly, canonical, HasLowDegrees, greatest_degree}
use Rattle.cgs_terms.specs.Product.{scaled, multiple, all_products, top_degree}
use Rattle.cgs_terms.specs.Merge.{CanMultiply, EachTerm}
use Rattle.cgs_terms.specs.Draft.{HaveLength}
use Rattle.cgs_terms.proofs.SumLemmas.{Alike, total_append}
use Rattle.cgs_terms.proofs.CanonicalLemmas.{append_of_ring, append_low, canonical_poly, canonical_append}

-- sums

pub total_multiple : (w : List ℕ → ℕ) (c : ℕ) (t : List ℕ) (f : List Term) → total w (multiple c t f) ≡ c * total (λ m. w (product t m)) f
total_multiple w c t [] = omega arith
total_multiple w c t (x ∷ f) = omega (arith, total_multiple w c t f)

pub multiple_append : (c : ℕ) (t : List ℕ) (f g : List Term) → multiple c t (f ++ g) ≡ multiple c t f ++ multiple c t g
multiple_append c t [] g = refl
multiple_append c t (x ∷ f) g = cc (multiple_append c t f g)

pub multiple_multiple : (c d : ℕ) (t u : List ℕ) (f : List Term) → multiple c t (multiple d u f) ≡ multiple (c * d) (product t u) f
multiple_multiple c d t u [] = refl
multiple_multiple c d t u (x ∷ f) = cc (mul_assoc c d x.coefficient, product_assoc t u x.exponents, multiple_multiple c d t u f)

pub alike_multiple : {p : ℕ} {f g : List Term} → (c : ℕ) (t : List ℕ) → Alike p f g → Alike p (multiple c t f) (multiple c t g)
alike_multiple {p} {f} {g} c t a =
    record {
      under =
          λ w. cc (
            total_multiple w c t f,
            total_multiple w c t g,
            mod_mul p c c (total (λ m. w (product t m)) f) (total (λ m. w (product t m)) g) refl (a.under (λ m. w (product t m))),
          );
    }

pub total_products : (w : List ℕ → ℕ) (f g : List Term) → total w (all_products f g) ≡ total (λ m. total (λ n. w (product m n)) g) f
total_products w [] g = refl
total_products w (x ∷ f) g =
    total_append w (multiple x.coefficient x.exponents g) (all_products f g) ∙ cc (total_multiple w x.coefficient x.exponents g, total_products w f g)

pub products_append : (f g h : List Term) → all_products (f ++ g) h ≡ all_products f h ++ all_products g h
products_append [] g h = refl
products_append (x ∷ f) g h = ap (λ k. multiple x.coefficient x.exponents h ++ k) (products_append f g h)
    ∙ sym (append_assoc (multiple x.coefficient x.exponents h) (all_products f h) (all_products g h))

-- monomials of the ring

pub scaled_of_ring : (ring : Ring) (c : ℕ) (f : List Term) → IsOfRing ring f → IsOfRing ring (scaled c f)
scaled_of_ring ring c [] h = tt
scaled_of_ring ring c (x ∷ f) h = (h.0, scaled_of_ring ring c f h.1)

pub multiple_of_ring : (ring : Ring) (c : ℕ) (t : List ℕ) (f : List Term) → length t ≡ places ring → IsOfRing ring f → IsOfRing ring (multiple c t f)
multiple_of_ring ring c t [] l h = tt
multiple_of_ring ring c t (x ∷ f) l h = (product_length t x.exponents (places ring) l h.0, multiple_of_ring ring c t f l h.1)

pub products_of_ring : (ring : Ring) (f g : List Term) → IsOfRing ring f → IsOfRing ring g → IsOfRing ring (all_products f g)
products_of_ring ring [] g h k = tt
products_of_ring ring (x ∷ f) g h k =
    append_of_ring ring (multiple x.coefficient x.exponents g) (all_products f g)
    (multiple_of_ring ring x.coefficient x.exponents g h.0 k) (products_of_ring ring f g h.1 k)

-- degrees

pub scaled_low : (c : ℕ) (f : List Term) → HasLowDegrees f → HasLowDegrees (scaled c f)
scaled_low c [] h = tt
scaled_low c (x ∷ f) h = (h.0, scaled_low c f h.1)

pub low_multiple : (c : ℕ) (m : List ℕ) (g : List Term) → HaveLength (length m) g → degree m + top_degree g ≤ greatest_degree → HasLowDegrees (multiple c m g)
low_multiple c m [] h l = tt
low_multiple c m (x ∷ g) h l =
    let d : degree (product m x.exponents) ≡ degree m + degree x.exponents = degree_product m x.exponents (sym h.0) in
    (omega (arith, d), low_multiple c m g h.1 (omega arith))

pub multiple_low : (c : ℕ) (m : List ℕ) (g : List Term) → HaveLength (length m) g → 0 < length g
    → HasLowDegrees (multiple c m g) → degree m + top_degree g ≤ greatest_degree
multiple_low c m [] h s l = absurd (omega arith)
multiple_low c m (x ∷ []) h s l = omega (arith, degree_product m x.exponents (sym h.0), l.0)
multiple_low c m (x ∷ y ∷ g) h s l = omega (arith, degree_product m x.exponents (sym h.0), l.0, multiple_low c m (y ∷ g) h.1 (omega arith) l.1)

low_parts : (f g : List Term) → HasLowDegrees (f ++ g) → HasLowDegrees f × HasLowDegrees g
low_parts [] g h = (tt, h)
low_parts (x ∷ f) g h = let r = low_parts f g h.1 in ((h.0, r.0), r.1)

pub low_products : (n : ℕ) (f g : List Term) → HaveLength n f → HaveLength n g
    → top_degree f + top_degree g ≤ greatest_degree → HasLowDegrees (all_products f g)
low_products n [] g h k l = tt
low_products n (x ∷ f) g h k l =
    append_low (multiple x.coefficient x.exponents g) (all_products f g)
    (low_multiple x.coefficient x.exponents g (subst (λ m. HaveLength m g) (sym h.0) k) (omega arith)) (low_products n f g h.1 k (omega arith))

pub products_low : (n : ℕ) (f g : List Term) → HaveLength n f → HaveLength n g → 0 < length f → 0 < length g
    → HasLowDegrees (all_products f g) → top_degree f + top_degree g ≤ greatest_degree
products_low n [] g h k s t l = absurd (omega arith)
products_low n (x ∷ []) g h k s t l =
    let r = low_parts (multiple x.coefficient x.exponents g) [] l in
    omega (arith, multiple_low x.coefficient x.exponents g (subst (λ m. HaveLength m g) (sym h.0) k) t r.0)
products_low n (x ∷ y ∷ f) g h k s t l =
    let r = low_parts (multiple x.coefficient x.exponents g) (all_products (y ∷ f) g) l in
    omega (arith, multiple_low x.coefficient x.exponents g (subst (λ m. HaveLength m g) (sym h.0) k) t r.0, products_low n (y ∷ f) g h.1 k (omega arith) t r.1)

-- each term of g can be multiplied by m, if their degrees fit
pub can_multiply : (q p : ℕ) (m : List ℕ) (g : List Term) → q < p → length m ≤ 17 → HaveLength (length m) g
    → (0 < length g → degree m + top_degree g ≤ greatest_degree) → EachTerm (λ c n. (q < p) × CanMultiply m n) g
can_multiply q p m [] s l h d = tt
can_multiply q p m (x ∷ g) s l h d =
    let all : degree m + max (degree x.exponents) (top_degree g) ≤ greatest_degree = d (omega arith) in
    ((s, record { places = sym h.0; few = omega (arith, h.0); low = omega arith }), can_multiply q p m g s l h.1 (λ k. omega arith))

pub low_if_any : (c : ℕ) (m : List ℕ) (g : List Term) → HaveLength (length m) g
    → (0 < length g → degree m + top_degree g ≤ greatest_degree) → HasLowDegrees (multiple c m g)
low_if_any c m [] h d = tt
low_if_any c m (x ∷ g) h d = low_multiple c m (x ∷ g) h (d (omega arith))

-- what a test of the degrees tells

pub fits_unless : (b : Bool) (d r : ℕ) (g : List Term) → r ≡ d → b ≡ false
    → ((0 < length g) × (greatest_degree < r + top_degree g) → b ≡ true) → 0 < length g → d + top_degree g ≤ greatest_degree
fits_unless b d r g q e h s =
    let n : greatest_degree < r + top_degree g → ⊥ = λ l. let t : b ≡ true = h (s, l) in cc in
    omega arith

pub low_any : (c d : ℕ) (m : List ℕ) (g : List Term) → HasLowDegrees (multiple c m g) → HasLowDegrees (multiple d m g)
low_any c d m [] h = tt
low_any c d m (x ∷ g) h = (h.0, low_any c d m g h.1)

pub top_of_low : (f : List Term) → HasLowDegrees f → top_degree f ≤ greatest_degree
top_of_low [] h = omega arith
top_of_low (x ∷ f) h = omega (arith, h.0, top_of_low f h.1)

pub fits_any : (d : ℕ) (g : List Term) → d ≤ greatest_degree → (0 < length g → d + top_degree g ≤ greatest_degree) → d + top_degree g ≤ greatest_degree
fits_any d [] l h = omega arith
fits_any d (x ∷ g) l h = h (omega arith)

-- parts of a list

pub of_ring_drop : (ring : Ring) (i : ℕ) (f : List Term) → IsOfRing ring f → IsOfRing ring (drop i f)
of_ring_drop ring zero f h = h
of_ring_drop ring (suc i) [] h = tt
of_ring_drop ring (suc i) (x ∷ f) h = of_ring_drop ring i f h.1

pub of_ring_take : (ring : Ring) (i : ℕ) (f : List Term) → IsOfRing ring f → IsOfRing ring (take i f)
of_ring_take ring zero f h = tt
of_ring_take ring (suc i) [] h = tt
of_ring_take ring (suc i) (x ∷ f) h = (h.0, of_ring_take ring i f h.1)

pub low_take : (n : ℕ) (f : List Term) → HasLowDegrees f → HasLowDegrees (take n f)
low_take zero f h = tt
low_take (suc n) [] h = tt
low_take (suc n) (x ∷ f) h = (h.0, low_take n f h.1)

pub low_drop : (n : ℕ) (f : List Term) → HasLowDegrees f → HasLowDegrees (drop n f)
low_drop zero f h = h
low_drop (suc n) [] h = tt
low_drop (suc n) (x ∷ f) h = low_drop n f h.1

of_ring_length : (ring : Ring) (f : List Term) → IsOfRing ring f → HaveLength (places ring) f
of_ring_length ring [] h = tt
of_ring_length ring (x ∷ f) h = (h.0, of_ring_length ring f h.1)

top_drop : (i : ℕ) (f : List Term) → top_degree (drop i f) ≤ top_degree f
top_drop zero f = omega arith
top_drop (suc i) [] = omega arith
top_drop (suc i) (x ∷ f) = omega (arith, top_drop i f)

top_take : (i : ℕ) (f : List Term) → top_degree (take i f) ≤ top_degree f
top_take zero f = omega arith
top_take (suc i) [] = omega arith
top_take (suc i) (x ∷ f) = omega (arith, top_take i f)

-- the product of a part of f and g

module _ (ring : Ring) (f g : List Term) (h : IsOfRing ring f) (k : IsOfRing ring g) (l : top_degree f + top_degree g ≤ greatest_degree) where
  pub part_of_ring : (from n : ℕ) → IsOfRing ring (all_products (take n (drop from f)) g)
  part_of_ring from n = products_of_ring ring (take n (drop from f)) g (of_ring_take ring n (drop from f) (of_ring_drop ring from f h)) k

  pub part_low : (from n : ℕ) → HasLowDegrees (all_products (take n (drop from f)) g)
  part_low from n =
      low_products (places ring) (take n (drop from f)) g
      (of_ring_length ring (take n (drop from f)) (of_ring_take ring n (drop from f) (of_ring_drop ring from f h))) (of_ring_length ring g k)
      (omega (arith, top_take n (drop from f), top_drop from f))

  pub part_poly : (from n : ℕ) → 0 < ring.modulus → IsPoly ring (canonical ring (all_products (take n (drop from f)) g))
  part_poly from n pos = canonical_poly ring (all_products (take n (drop from f)) g) pos (part_of_ring from n) (part_low from n)

pub halves : (from half to : ℕ) (f : List Term) → from ≤ half → half ≤ to
    → take (half - from) (drop from f) ++ take (to - half) (drop half f) ≡ take (to - from) (drop from f)
halves from half to f l k =
    let s : from + (half - from) ≡ half = omega arith in
    let d : drop half f ≡ drop (half - from) (drop from f) = sym (drop-drop (half - from) from f ∙ ap (λ n. drop n f) s) in
    let t : (half - from) + (to - half) ≡ to - from = omega arith in
    sym (ap (λ n. take n (drop from f)) (sym t)
    ∙ (take-add (half - from) (to - half) (drop from f) ∙ ap (λ x. take (half - from) (drop from f) ++ take (to - half) x) (sym d)))

-- the product of both halves
pub product_halves : (ring : Ring) (a b c g first second : List Term) → 0 < ring.modulus
    → a ++ b ≡ c → IsOfRing ring (all_products a g) → IsOfRing ring (all_products b g)
    → first ≡ canonical ring (all_products a g) → second ≡ canonical ring (all_products b g)
    → canonical ring (first ++ second) ≡ canonical ring (all_products c g)
product_halves ring a b c g first second pos e h k p q =
    ap (λ x. canonical ring (x ++ second)) p ∙ (ap (λ x. canonical ring (canonical ring (all_products a g) ++ x)) q
    ∙ (sym (canonical_append ring (all_products a g) (all_products b g) pos h k)
    ∙ ap (canonical ring) (sym (products_append a b g) ∙ ap (λ x. all_products x g) e)))
