-- Canonical lists: equal where they stand for one sum, and made from any list of terms by `canonical`.
use Rattle.std.proofs.Common.{ℕ, ◌≡◌, ◌+◌, ◌*◌, ◌%◌, ◌<◌, ◌≤◌, Bool, true, false, cond, List, [], ◌∷◌, ◌++◌, length, refl, sym, ap, ◌∙◌, subst, arith, eqb}
use Rattle.std.proofs.Math.Nat.{add-mod, mod-lt, mod-eq_of_lt, zero-mod, zero-mul, zero-add}
use Rattle.std.proofs.lemmas.Nat.{mul-mod_first}
use Rattle.std.proofs.lemmas.Bool.{eqb-true, eqb-false, ne_eqb}
use Rattle.std.specs.declared.cmp.Ordering.{Ordering}
use Rattle.std.specs.declared.cmp.Ordering.TheVariants.{Less, Equal, Greater}
use Rattle.cgs_field.proofs.ModularLemmas.{mod_add, mod_mul, mod_cancel}
use Rattle.cgs_order.specs.TermOrder.{compared}
use Rattle.cgs_order.proofs.OrderLemmas.{compared_equal, compared_trans, compared_back, compared_not_self}
use Rattle.cgs_terms.specs.declared.ring.Ring.{Ring}
use Rattle.cgs_terms.specs.Polynomial.{Term, term, places, order_of, total, indicator, IsOfRing, StartsBelow, IsCanonical, kept, inserted, canonical}
use Rattle.cgs_terms.specs.Polynomial.{coefficient}
use Rattle.cgs_terms.specs.Polynomial.{greatest_degree, HasLowDegrees, IsPoly}
use Rattle.cgs_exps.specs.Monomial.{degree}
use Rattle.cgs_terms.proofs.SumLemmas.{Alike, alike_same, alike_back, alike_trans, alike_append, total_append, only_same, only_other}

-- the coefficient at a monomial above all those of f
pub above_zero : (ring : Ring) (f : List Term) (m : List ℕ) → IsCanonical ring f → StartsBelow ring m f → total (indicator m) f ≡ 0
above_zero ring [] m h l = refl
above_zero ring (x ∷ f) m h l =
    let other : indicator m x.exponents ≡ 0 =
    only_other m x.exponents (λ e. compared_not_self (order_of ring) m (subst (λ k. compared (order_of ring) k m ≡ Less) (sym e) l)) in
    let rest : total (indicator m) f ≡ 0 = above_zero ring f m h.4 (lower f h.3) in
    rw (other, rest) (omega arith)
  where
    lower : (g : List Term) → StartsBelow ring x.exponents g → StartsBelow ring m g
    lower [] k = tt
    lower (y ∷ g) k = compared_trans (order_of ring) y.exponents x.exponents m k l

-- the coefficient at the lead
pub leading_coefficient : (ring : Ring) (x : Term) (f : List Term) → IsCanonical ring (x ∷ f) → total (indicator x.exponents) (x ∷ f) ≡ x.coefficient
leading_coefficient ring x f h =
    let rest : total (indicator x.exponents) f ≡ 0 = above_zero ring f x.exponents h.4 h.3 in
    rw (only_same x.exponents, rest) (omega arith)

small_zero : (p a : ℕ) → 0 < a → a < p → a % p ≡ 0 → ⊥
small_zero p a l h e = omega (arith, mod-eq_of_lt h, e)

pub lead_not_zero : (ring : Ring) (x : Term) (f : List Term) → IsCanonical ring (x ∷ f) → total (indicator x.exponents) (x ∷ f) % ring.modulus ≡ 0 → ⊥
lead_not_zero ring x f h e = small_zero ring.modulus x.coefficient h.0 h.1 (ap (λ n. n % ring.modulus) (sym (leading_coefficient ring x f h)) ∙ e)

alike_tail : (p a b : ℕ) (m : List ℕ) (f g : List Term) → 0 < p → a ≡ b → Alike p (term a m ∷ f) (term b m ∷ g) → Alike p f g
alike_tail p a b m f g pos e h =
    record {
      under = λ w.
          let s : (a * w m + total w f) % p ≡ (b * w m + total w g) % p = h.under w in
          let l : a * w m + total w f ≡ total w f + a * w m = omega arith in
          let k : b * w m + total w g ≡ total w g + a * w m = rw e (omega arith) in
          mod_cancel p (total w f) (total w g) (a * w m) pos (ap (λ n. n % p) (sym l) ∙ (s ∙ ap (λ n. n % p) k));
    }

-- one of two polynomials with one sum has no higher lead
no_higher : (ring : Ring) (x : Term) (f g : List Term) → IsCanonical ring (x ∷ f) → IsCanonical ring g
    → StartsBelow ring x.exponents g → Alike ring.modulus (x ∷ f) g → ⊥
no_higher ring x f g h k l a =
    let e : total (indicator x.exponents) (x ∷ f) ≡ x.coefficient = leading_coefficient ring x f h in
    let z : total (indicator x.exponents) g ≡ 0 = above_zero ring g x.exponents k l in
    let s : total (indicator x.exponents) (x ∷ f) % ring.modulus ≡ total (indicator x.exponents) g % ring.modulus = a.under (indicator x.exponents) in
    small_zero ring.modulus x.coefficient h.0 h.1 (ap (λ n. n % ring.modulus) (sym e) ∙ (s ∙ (ap (λ n. n % ring.modulus) z ∙ zero-mod ring.modulus)))

pub same_term : (x y : Term) → x.coefficient ≡ y.coefficient → x.exponents ≡ y.exponents → x ≡ y
same_term x y p q = let e : term x.coefficient x.exponents ≡ term y.coefficient y.exponents = cc in e

-- polynomials that stand for one sum are one list
pub same_canonical : (ring : Ring) (f g : List Term) → IsCanonical ring f → IsCanonical ring g → Alike ring.modulus f g → f ≡ g
same_canonical ring [] [] h k a = refl
same_canonical ring [] (y ∷ g) h k a = absurd (no_higher ring y g [] k tt tt (alike_back a))
same_canonical ring (x ∷ f) [] h k a = absurd (no_higher ring x f [] h tt tt a)
same_canonical ring (x ∷ f) (y ∷ g) h k a = step (compared (order_of ring) x.exponents y.exponents) refl (same_canonical ring f g h.4 k.4)
  where
    step : (o : Ordering) → compared (order_of ring) x.exponents y.exponents ≡ o → (Alike ring.modulus f g → f ≡ g) → x ∷ f ≡ y ∷ g
    step Less e ih = absurd (no_higher ring y g (x ∷ f) k h e (alike_back a))
    step Greater e ih = absurd (no_higher ring x f (y ∷ g) h k (compared_back (order_of ring) x.exponents y.exponents e) a)
    step Equal e ih =
        let m : x.exponents ≡ y.exponents = compared_equal (order_of ring) x.exponents y.exponents (h.2 ∙ sym k.2) e in
        let cx : total (indicator x.exponents) (x ∷ f) ≡ x.coefficient = leading_coefficient ring x f h in
        let cy : total (indicator y.exponents) (y ∷ g) ≡ y.coefficient = leading_coefficient ring y g k in
        let s : total (indicator x.exponents) (x ∷ f) % ring.modulus ≡ total (indicator x.exponents) (y ∷ g) % ring.modulus = a.under (indicator x.exponents) in
        let sx : x.coefficient % ring.modulus ≡ x.coefficient = mod-eq_of_lt h.1 in
        let sy : y.coefficient % ring.modulus ≡ y.coefficient = mod-eq_of_lt k.1 in
        let c : x.coefficient ≡ y.coefficient = cc in
        let b : Alike ring.modulus (term x.coefficient x.exponents ∷ f) (term y.coefficient x.exponents ∷ g) =
        subst (λ n. Alike ring.modulus (x ∷ f) (term y.coefficient n ∷ g)) (sym m) a in
        let t : f ≡ g = ih (alike_tail ring.modulus x.coefficient y.coefficient x.exponents f g (omega (arith, h.1)) c b) in
        cc (same_term x y c m, t)

-- `kept`

kept_alike : (ring : Ring) (c : ℕ) (m : List ℕ) (f : List Term) → Alike ring.modulus (kept ring c m f) (term c m ∷ f)
kept_alike ring c m f = step (eqb (c % ring.modulus) 0) refl
  where
    step : (b : Bool) → eqb (c % ring.modulus) 0 ≡ b → Alike ring.modulus (cond b f (term (c % ring.modulus) m ∷ f)) (term c m ∷ f)
    step true e = record {
      under = λ w.
          let z : c % ring.modulus ≡ 0 = eqb-true (c % ring.modulus) 0 e in
          let s : (c * w m) % ring.modulus ≡ 0 % ring.modulus =
          mod_mul ring.modulus c 0 (w m) (w m) (z ∙ sym (zero-mod ring.modulus)) refl ∙ ap (λ n. n % ring.modulus) (zero-mul (w m)) in
          sym (mod_add ring.modulus (c * w m) 0 (total w f) (total w f) s refl ∙ ap (λ n. n % ring.modulus) (zero-add (total w f)));
    }
    step false e =
        record { under = λ w. mod_add ring.modulus (c % ring.modulus * w m) (c * w m) (total w f) (total w f) (mul-mod_first c (w m) ring.modulus) refl }

kept_canonical : (ring : Ring) (c : ℕ) (m : List ℕ) (f : List Term) → 0 < ring.modulus → length m ≡ places ring
    → IsCanonical ring f → StartsBelow ring m f → IsCanonical ring (kept ring c m f)
kept_canonical ring c m f pos l h s = step (eqb (c % ring.modulus) 0) refl
  where
    step : (b : Bool) → eqb (c % ring.modulus) 0 ≡ b → IsCanonical ring (cond b f (term (c % ring.modulus) m ∷ f))
    step true e = h
    step false e =
        let nz : c % ring.modulus ≡ 0 → ⊥ = eqb-false (c % ring.modulus) 0 e in
        (omega (arith, nz), mod-lt c pos, l, s, h)

pub starts_lower : (ring : Ring) (m n : List ℕ) (f : List Term) → StartsBelow ring m f → compared (order_of ring) m n ≡ Less → StartsBelow ring n f
starts_lower ring m n [] s l = tt
starts_lower ring m n (y ∷ f) s l = compared_trans (order_of ring) y.exponents m n s l

kept_starts : (ring : Ring) (c : ℕ) (m n : List ℕ) (f : List Term) → compared (order_of ring) m n ≡ Less
    → StartsBelow ring n f → StartsBelow ring n (kept ring c m f)
kept_starts ring c m n f l s = step (eqb (c % ring.modulus) 0)
  where
    step : (b : Bool) → StartsBelow ring n (cond b f (term (c % ring.modulus) m ∷ f))
    step true = s
    step false = l

-- `inserted`

pub inserted_alike : (ring : Ring) (c : ℕ) (m : List ℕ) (f : List Term) → length m ≡ places ring
    → IsCanonical ring f → Alike ring.modulus (inserted ring c m f) (term c m ∷ f)
inserted_alike ring c m [] l h = kept_alike ring c m []
inserted_alike ring c m (y ∷ f) l h = step (compared (order_of ring) m y.exponents) refl (inserted_alike ring c m f l h.4)
  where
    step : (o : Ordering) → compared (order_of ring) m y.exponents ≡ o → Alike ring.modulus (inserted ring c m f) (term c m ∷ f)
        → Alike ring.modulus (elim o [ Less ↦ y ∷ inserted ring c m f | Equal ↦ kept ring (c + y.coefficient) m f | Greater ↦ kept ring c m (y ∷ f) ])
        (term c m ∷ y ∷ f)
    step Less e ih = record {
      under = λ w.
          let s : (y.coefficient * w y.exponents + total w (inserted ring c m f)) % ring.modulus ≡ (y.coefficient * w y.exponents + (c * w m + total w f))
          % ring.modulus = mod_add ring.modulus (y.coefficient * w y.exponents) (y.coefficient * w y.exponents) _ _ refl (ih.under w) in
          let t : y.coefficient * w y.exponents + (c * w m + total w f) ≡ c * w m + (y.coefficient * w y.exponents + total w f) = omega arith in
          s ∙ ap (λ n. n % ring.modulus) t;
    }
    step Equal e ih =
        let q : m ≡ y.exponents = compared_equal (order_of ring) m y.exponents (l ∙ sym h.2) e in
        alike_trans (kept_alike ring (c + y.coefficient) m f) (record {
          under = λ w.
              let t : (c + y.coefficient) * w m + total w f ≡ c * w m + (y.coefficient * w y.exponents + total w f) = rw (← q) (omega arith) in
              ap (λ n. n % ring.modulus) t;
        })
    step Greater e ih = kept_alike ring c m (y ∷ f)

pub inserted_starts : (ring : Ring) (c : ℕ) (m n : List ℕ) (f : List Term) → compared (order_of ring) m n ≡ Less
    → StartsBelow ring n f → IsCanonical ring f → StartsBelow ring n (inserted ring c m f)
inserted_starts ring c m n [] l s h = kept_starts ring c m n [] l tt
inserted_starts ring c m n (y ∷ f) l s h = step (compared (order_of ring) m y.exponents) refl
  where
    step : (o : Ordering) → compared (order_of ring) m y.exponents ≡ o
        → StartsBelow ring n (elim o [ Less ↦ y ∷ inserted ring c m f | Equal ↦ kept ring (c + y.coefficient) m f | Greater ↦ kept ring c m (y ∷ f) ])
    step Less e = s
    step Equal e = kept_starts ring (c + y.coefficient) m n f l (starts_lower ring y.exponents n f h.3 s)
    step Greater e = kept_starts ring c m n (y ∷ f) l s

pub inserted_canonical : (ring : Ring) (c : ℕ) (m : List ℕ) (f : List Term) → 0 < ring.modulus
    → length m ≡ places ring → IsCanonical ring f → IsCanonical ring (inserted ring c m f)
inserted_canonical ring c m [] pos l h = kept_canonical ring c m [] pos l tt tt
inserted_canonical ring c m (y ∷ f) pos l h = step (compared (order_of ring) m y.exponents) refl (inserted_canonical ring c m f pos l h.4)
  where
    step : (o : Ordering) → compared (order_of ring) m y.exponents ≡ o → IsCanonical ring (inserted ring c m f)
        → IsCanonical ring (elim o [ Less ↦ y ∷ inserted ring c m f | Equal ↦ kept ring (c + y.coefficient) m f | Greater ↦ kept ring c m (y ∷ f) ])
    step Less e ih = (h.0, h.1, h.2, inserted_starts ring c m y.exponents f e h.3 h.4, ih)
    step Equal e ih =
        let q : m ≡ y.exponents = compared_equal (order_of ring) m y.exponents (l ∙ sym h.2) e in
        kept_canonical ring (c + y.coefficient) m f pos l h.4 (subst (λ k. StartsBelow ring k f) (sym q) h.3)
    step Greater e ih = kept_canonical ring c m (y ∷ f) pos l h (compared_back (order_of ring) m y.exponents e)

-- `canonical`

pub is_canonical : (ring : Ring) (f : List Term) → 0 < ring.modulus → IsOfRing ring f → IsCanonical ring (canonical ring f)
is_canonical ring [] pos h = tt
is_canonical ring (x ∷ f) pos h = inserted_canonical ring x.coefficient x.exponents (canonical ring f) pos h.0 (is_canonical ring f pos h.1)

pub canonical_alike : (ring : Ring) (f : List Term) → 0 < ring.modulus → IsOfRing ring f → Alike ring.modulus (canonical ring f) f
canonical_alike ring [] pos h = alike_same ring.modulus []
canonical_alike ring (x ∷ f) pos h =
    let ih : Alike ring.modulus (canonical ring f) f = canonical_alike ring f pos h.1 in
    alike_trans (inserted_alike ring x.coefficient x.exponents (canonical ring f) h.0 (is_canonical ring f pos h.1))
    (record {
      under =
          λ w. mod_add ring.modulus (x.coefficient * w x.exponents) (x.coefficient * w x.exponents) (total w (canonical ring f)) (total w f) refl (ih.under w);
    })

-- a polynomial is its own canonical form, and lists with one sum have one canonical form
pub canonical_same : (ring : Ring) (f g : List Term) → 0 < ring.modulus → IsOfRing ring f
    → IsOfRing ring g → Alike ring.modulus f g → canonical ring f ≡ canonical ring g
canonical_same ring f g pos h k a =
    same_canonical ring (canonical ring f) (canonical ring g) (is_canonical ring f pos h) (is_canonical ring g pos k)
    (alike_trans (canonical_alike ring f pos h) (alike_trans a (alike_back (canonical_alike ring g pos k))))

pub canonical_of_ring : (ring : Ring) (f : List Term) → IsCanonical ring f → IsOfRing ring f
canonical_of_ring ring [] h = tt
canonical_of_ring ring (x ∷ f) h = (h.2, canonical_of_ring ring f h.4)

pub canonical_itself : (ring : Ring) (f : List Term) → 0 < ring.modulus → IsCanonical ring f → canonical ring f ≡ f
canonical_itself ring f pos h =
    same_canonical ring (canonical ring f) f (is_canonical ring f pos (canonical_of_ring ring f h)) h (canonical_alike ring f pos (canonical_of_ring ring f h))

-- all monomials below one

abbrev pub AllBelow : Ring → List ℕ → List Term → Type 0
AllBelow ring m [] = Unit {0}
AllBelow ring m (x ∷ f) = (compared (order_of ring) x.exponents m ≡ Less) × AllBelow ring m f

pub all_below_append : (ring : Ring) (m : List ℕ) (f g : List Term) → AllBelow ring m f → AllBelow ring m g → AllBelow ring m (f ++ g)
all_below_append ring m [] g h k = k
all_below_append ring m (x ∷ f) g h k = (h.0, all_below_append ring m f g h.1 k)

pub all_below_zero : (ring : Ring) (m : List ℕ) (f : List Term) → AllBelow ring m f → total (indicator m) f ≡ 0
all_below_zero ring m [] h = refl
all_below_zero ring m (x ∷ f) h =
    let other : indicator m x.exponents ≡ 0 =
    only_other m x.exponents (λ e. compared_not_self (order_of ring) m (subst (λ k. compared (order_of ring) k m ≡ Less) (sym e) h.0)) in
    rw (other, all_below_zero ring m f h.1) (omega arith)

pub all_below_canonical : (ring : Ring) (m : List ℕ) (f : List Term) → IsCanonical ring f → StartsBelow ring m f → AllBelow ring m f
all_below_canonical ring m [] h s = tt
all_below_canonical ring m (x ∷ []) h s = (s, tt)
all_below_canonical ring m (x ∷ y ∷ f) h s = (s, all_below_canonical ring m (y ∷ f) h.4 (compared_trans (order_of ring) y.exponents x.exponents m h.3 s))

pub canonical_starts : (ring : Ring) (m : List ℕ) (f : List Term) → 0 < ring.modulus
    → IsOfRing ring f → AllBelow ring m f → StartsBelow ring m (canonical ring f)
canonical_starts ring m [] pos h b = tt
canonical_starts ring m (y ∷ f) pos h b =
    inserted_starts ring y.coefficient y.exponents m (canonical ring f) b.0 (canonical_starts ring m f pos h.1 b.1) (is_canonical ring f pos h.1)

pub append_of_ring : (ring : Ring) (f g : List Term) → IsOfRing ring f → IsOfRing ring g → IsOfRing ring (f ++ g)
append_of_ring ring [] g h k = k
append_of_ring ring (x ∷ f) g h k = (h.0, append_of_ring ring f g h.1 k)

-- degrees stay low

kept_low : (ring : Ring) (c : ℕ) (m : List ℕ) (f : List Term) → degree m ≤ greatest_degree → HasLowDegrees f → HasLowDegrees (kept ring c m f)
kept_low ring c m f l h = step (eqb (c % ring.modulus) 0)
  where
    step : (b : Bool) → HasLowDegrees (cond b f (term (c % ring.modulus) m ∷ f))
    step true = h
    step false = (l, h)

inserted_low : (ring : Ring) (c : ℕ) (m : List ℕ) (f : List Term) → degree m ≤ greatest_degree → HasLowDegrees f → HasLowDegrees (inserted ring c m f)
inserted_low ring c m [] l h = kept_low ring c m [] l tt
inserted_low ring c m (y ∷ f) l h = step (compared (order_of ring) m y.exponents) (inserted_low ring c m f l h.1)
  where
    step : (o : Ordering) → HasLowDegrees (inserted ring c m f)
        → HasLowDegrees (elim o [ Less ↦ y ∷ inserted ring c m f | Equal ↦ kept ring (c + y.coefficient) m f | Greater ↦ kept ring c m (y ∷ f) ])
    step Less ih = (h.0, ih)
    step Equal ih = kept_low ring (c + y.coefficient) m f l h.1
    step Greater ih = kept_low ring c m (y ∷ f) l h

pub canonical_low : (ring : Ring) (f : List Term) → HasLowDegrees f → HasLowDegrees (canonical ring f)
canonical_low ring [] h = tt
canonical_low ring (x ∷ f) h = inserted_low ring x.coefficient x.exponents (canonical ring f) h.0 (canonical_low ring f h.1)

pub append_low : (f g : List Term) → HasLowDegrees f → HasLowDegrees g → HasLowDegrees (f ++ g)
append_low [] g h k = k
append_low (x ∷ f) g h k = (h.0, append_low f g h.1 k)

pub low_front : (f g : List Term) → HasLowDegrees (f ++ g) → HasLowDegrees f
low_front [] g h = tt
low_front (x ∷ f) g h = (h.0, low_front f g h.1)

-- the polynomial of any terms of the ring that are low
pub canonical_poly : (ring : Ring) (f : List Term) → 0 < ring.modulus → IsOfRing ring f → HasLowDegrees f → IsPoly ring (canonical ring f)
canonical_poly ring f pos h l = record { canonical = is_canonical ring f pos h; low = canonical_low ring f l }

-- sums

pub canonical_append : (ring : Ring) (f g : List Term) → 0 < ring.modulus → IsOfRing ring f → IsOfRing ring g
    → canonical ring (f ++ g) ≡ canonical ring (canonical ring f ++ canonical ring g)
canonical_append ring f g pos h k =
    let hf : IsOfRing ring (canonical ring f) = canonical_of_ring ring (canonical ring f) (is_canonical ring f pos h) in
    let hg : IsOfRing ring (canonical ring g) = canonical_of_ring ring (canonical ring g) (is_canonical ring g pos k) in
    canonical_same ring (f ++ g) (canonical ring f ++ canonical ring g) pos (append_of_ring ring f g h k)
    (append_of_ring ring (canonical ring f) (canonical ring g) hf hg)
    (alike_append (alike_back (canonical_alike ring f pos h)) (alike_back (canonical_alike ring g pos k)))

-- the coefficients of a canonical list are those of the terms
pub coefficient_canonical : (ring : Ring) (f : List Term) (m : List ℕ) → 0 < ring.modulus → IsOfRing ring f
    → coefficient ring.modulus (canonical ring f) m ≡ coefficient ring.modulus f m
coefficient_canonical ring f m pos h = (canonical_alike ring f pos h).under (indicator m)

pub poly_sum : (ring : Ring) (f g : List Term) → 0 < ring.modulus → IsPoly ring f → IsPoly ring g → IsPoly ring (canonical ring (f ++ g))
poly_sum ring f g pos h k =
    canonical_poly ring (f ++ g) pos (append_of_ring ring f g (canonical_of_ring ring f h.canonical) (canonical_of_ring ring g k.canonical))
    (append_low f g h.low k.low)

pub coefficient_append : (p : ℕ) (f g : List Term) (m : List ℕ) → coefficient p (f ++ g) m ≡ (coefficient p f m + coefficient p g m) % p
coefficient_append p f g m = cc (total_append (indicator m) f g, add-mod (total (indicator m) f) (total (indicator m) g) p)

-- a list of one term
pub one_canonical : (ring : Ring) (c : ℕ) (m : List ℕ) → 0 < c → c < ring.modulus → canonical ring (term c m ∷ []) ≡ term c m ∷ []
one_canonical ring c m l h =
    let e : c % ring.modulus ≡ c = mod-eq_of_lt h in
    let t : eqb (c % ring.modulus) 0 ≡ false = ne_eqb (c % ring.modulus) 0 (λ z. omega arith) in
    rw (t, e) refl
