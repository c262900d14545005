-- What scaling, dividing by the leading coefficient, subtracting a multiple and multiplying by a term come to.
use Rattle.std.specs.Prelude.{slice_get}
use Rattle.std.proofs.Common.{ℕ, zero, suc, Some, ◌≡◌, ◌+◌, ◌-◌, ◌*◌, ◌%◌, ◌<◌, List, [], ◌∷◌, ◌++◌, length, refl, sym, ap, ◌∙◌, arith}
use Rattle.std.proofs.Math.Nat.{add-mod, mod-mod, mod-eq_of_lt, mul_assoc, mul-mod_right, zero-mod}
use Rattle.std.proofs.lemmas.List.{append-nil}
use Rattle.cgs_field.proofs.ModularLemmas.{mod_add, mod_mul}
use Rattle.cgs_field.proofs.PrimeLemmas.{modulus_field}
use Rattle.cgs_exps.specs.Monomial.{product}
use Rattle.cgs_terms.specs.declared.ring.Ring.{Ring}
use Rattle.cgs_terms.specs.Polynomial.{Term, places, total, indicator, coefficient, IsOfRing, IsCanonical, IsRing, IsPoly, canonical}
use Rattle.cgs_terms.specs.Product.{scaled, multiple, all_products, leading_coefficient}
use Rattle.cgs_terms.specs.Merge.{changed}
use Rattle.cgs_terms.proofs.SumLemmas.{total_append, total_scaled}
use Rattle.cgs_terms.proofs.ProductLemmas.{total_multiple, scaled_of_ring, scaled_low}
use Rattle.cgs_terms.proofs.RingLemmas.{ring_positive}
use Rattle.cgs_terms.proofs.ChangedLemmas.{multiple_canonical, canonical_multiple, canonical_scaled}
use Rattle.cgs_terms.proofs.CanonicalLemmas.{is_canonical, canonical_alike, canonical_same, canonical_of_ring, canonical_itself, canonical_poly}
use Rattle.cgs_terms.proofs.CanonicalLemmas.{coefficient_canonical}

pub scaled_poly : (ring : Ring) (c : ℕ) (f : List Term) → IsRing ring → IsPoly ring f → IsPoly ring (canonical ring (scaled c f))
scaled_poly ring c f r h =
    canonical_poly ring (scaled c f) (ring_positive ring r) (scaled_of_ring ring c f (canonical_of_ring ring f h.canonical)) (scaled_low c f h.low)

scaled_none : (ring : Ring) (f : List Term) → [] ≡ canonical ring (scaled 0 f)
scaled_none ring [] = refl
scaled_none ring (x ∷ f) =
    let z : 0 * x.coefficient ≡ 0 = omega arith in
    rw (z, ← scaled_none ring f, zero-mod ring.modulus) refl

pub scaled_nothing : (ring : Ring) (c : ℕ) (f : List Term) → c ≡ 0 → [] ≡ canonical ring (scaled c f)
scaled_nothing ring c f e = rw e (scaled_none ring f)

pub coefficient_scaled : (ring : Ring) (c : ℕ) (f : List Term) (m : List ℕ) → IsRing ring → IsOfRing ring f
    → coefficient ring.modulus (canonical ring (scaled c f)) m ≡ (c * coefficient ring.modulus f m) % ring.modulus
coefficient_scaled ring c f m r h =
    let p = ring.modulus in
    coefficient_canonical ring (scaled c f) m (ring_positive ring r) (scaled_of_ring ring c f h)
    ∙ (ap (λ n. n % ring.modulus) (total_scaled (indicator m) c f)
    ∙ mod_mul ring.modulus c c (total (indicator m) f) (total (indicator m) f % ring.modulus) refl (sym (mod-mod (total (indicator m) f) ring.modulus)))

-- a polynomial divided by its leading coefficient

inverse_positive : (p a c : ℕ) → 1 < p → (a * c) % p ≡ 1 → 0 < c
inverse_positive p a zero h e =
    let z : a * 0 ≡ 0 = omega arith in
    absurd (cc (ap (λ n. n % p) z, zero-mod p))
inverse_positive p a (suc c) h e = omega arith

module _ (ring : Ring) (r : IsRing ring) (c : ℕ) (l : c < ring.modulus) where
  above_one : 1 < ring.modulus
  above_one = (modulus_field ring.modulus r.modulus).two

  pub monic_lead : (f : List Term) (x : Term) → IsCanonical ring f → slice_get f 0 ≡ Some x
      → (x.coefficient * c) % ring.modulus ≡ 1 → leading_coefficient (canonical ring (scaled c f)) ≡ 1
  monic_lead [] x h s e = absurd (cc)
  monic_lead (y ∷ f) x h s e =
      let q : y ≡ x = cc in
      let a : ℕ = c * y.coefficient in
      let b : c * y.coefficient ≡ x.coefficient * c = rw q (omega arith) in
      ap leading_coefficient (canonical_scaled ring c (y ∷ f) r.modulus (inverse_positive ring.modulus x.coefficient c above_one e) l h)
      ∙ (ap (λ n. n % ring.modulus) b ∙ e)

  pub monic_back : (f : List Term) (x : Term) → IsCanonical ring f → slice_get f 0 ≡ Some x → (x.coefficient * c) % ring.modulus ≡ 1
      → f ≡ canonical ring (scaled (leading_coefficient f) (canonical ring (scaled c f)))
  monic_back [] x h s e = absurd (cc)
  monic_back (y ∷ f) x h s e =
      let pos = ring_positive ring r in
      let q : y ≡ x = cc in
      let a : ℕ = y.coefficient in
      let one : (y.coefficient * c) % ring.modulus ≡ 1 = rw q e in
      let of = canonical_of_ring ring (y ∷ f) h in
      let hc : IsCanonical ring (canonical ring (scaled c (y ∷ f))) = is_canonical ring (scaled c (y ∷ f)) pos (scaled_of_ring ring c (y ∷ f) of) in
      let hs = scaled_of_ring ring y.coefficient (canonical ring (scaled c (y ∷ f))) (canonical_of_ring ring (canonical ring (scaled c (y ∷ f))) hc) in
      sym (canonical_itself ring (y ∷ f) pos h) ∙ canonical_same ring (y ∷ f) (scaled y.coefficient (canonical ring (scaled c (y ∷ f)))) pos of hs (record {
        under = λ w.
            let t : ℕ = total w (y ∷ f) in
            let u = (canonical_alike ring (scaled c (y ∷ f)) pos (scaled_of_ring ring c (y ∷ f) of)).under w in
            let v : (y.coefficient * total w (canonical ring (scaled c (y ∷ f)))) % ring.modulus ≡ (y.coefficient * (c * total w (y ∷ f))) % ring.modulus =
            mod_mul ring.modulus y.coefficient y.coefficient _ _ refl (u ∙ ap (λ n. n % ring.modulus) (total_scaled w c (y ∷ f))) in
            let k : ((y.coefficient * c) * total w (y ∷ f)) % ring.modulus ≡ (1 * total w (y ∷ f)) % ring.modulus =
            mod_mul ring.modulus (y.coefficient * c) 1 (total w (y ∷ f)) (total w (y ∷ f)) (one ∙ sym (mod-eq_of_lt above_one)) refl in
            let m : y.coefficient * (c * total w (y ∷ f)) ≡ (y.coefficient * c) * total w (y ∷ f) = sym (mul_assoc y.coefficient c (total w (y ∷ f))) in
            let n : 1 * total w (y ∷ f) ≡ total w (y ∷ f) = omega arith in
            sym (ap (λ n. n % ring.modulus) (total_scaled w y.coefficient (canonical ring (scaled c (y ∷ f))))
            ∙ (v ∙ (ap (λ n. n % ring.modulus) m ∙ (k ∙ ap (λ n. n % ring.modulus) n))));
      })

-- f minus a multiple, with the multiple added again

pub difference_back : (ring : Ring) (c : ℕ) (m n : List ℕ) (f g : List Term) → IsRing ring
    → c < ring.modulus → IsOfRing ring (f ++ multiple (ring.modulus - c) m g)
    → (coefficient ring.modulus (canonical ring (f ++ multiple (ring.modulus - c) m g)) n + coefficient ring.modulus (multiple c m g) n) % ring.modulus
    ≡ coefficient ring.modulus f n
difference_back ring c m n f g r l h =
    let p = ring.modulus in
    let s : ℕ = total (λ k. indicator n (product m k)) g in
    let t : ℕ = total (indicator n) f in
    let a : total (indicator n) (f ++ multiple (ring.modulus - c) m g) ≡ total (indicator n) f + (ring.modulus - c) * total (λ k. indicator n (product m k)) g =
    total_append (indicator n) f (multiple (ring.modulus - c) m g)
    ∙ ap (λ k. total (indicator n) f + k) (total_multiple (indicator n) (ring.modulus - c) m g) in
    let b : total (indicator n) (multiple c m g) ≡ c * total (λ k. indicator n (product m k)) g = total_multiple (indicator n) c m g in
    let e = coefficient_canonical ring (f ++ multiple (ring.modulus - c) m g) n (ring_positive ring r) h in
    let j : (coefficient ring.modulus (canonical ring (f ++ multiple (ring.modulus - c) m g)) n + coefficient ring.modulus (multiple c m g) n) % ring.modulus
    ≡ (total (indicator n) (f ++ multiple (ring.modulus - c) m g) + total (indicator n) (multiple c m g)) % ring.modulus =
    ap (λ k. (k + coefficient ring.modulus (multiple c m g) n) % ring.modulus) e
    ∙ sym (add-mod (total (indicator n) (f ++ multiple (ring.modulus - c) m g)) (total (indicator n) (multiple c m g)) ring.modulus) in
    let q : (ring.modulus - c) + c ≡ ring.modulus = omega arith in
    let u : (total (indicator n) f + (ring.modulus - c) * total (λ k. indicator n (product m k)) g) + c * total (λ k. indicator n (product m k)) g
    ≡ total (indicator n) f + ring.modulus * total (λ k. indicator n (product m k)) g =
    regroup (total (indicator n) f) (ring.modulus - c) c (total (λ k. indicator n (product m k)) g) ring.modulus q in
    let v : (total (indicator n) f + ring.modulus * total (λ k. indicator n (product m k)) g) % ring.modulus ≡ (total (indicator n) f + 0) % ring.modulus =
    mod_add ring.modulus (total (indicator n) f) (total (indicator n) f) (ring.modulus * total (λ k. indicator n (product m k)) g) 0 refl
    (mul-mod_right ring.modulus (total (λ k. indicator n (product m k)) g) ∙ sym (zero-mod ring.modulus)) in
    let z : total (indicator n) f + 0 ≡ total (indicator n) f = omega arith in
    j ∙ (ap (λ k. k % ring.modulus) (rw (a, b) u) ∙ (v ∙ ap (λ k. k % ring.modulus) z))
  where
    regroup : (t q c s p : ℕ) → q + c ≡ p → (t + q * s) + c * s ≡ t + p * s
    regroup t q c s p e = rw (← e) (omega arith)

-- the product of one term and g
pub product_one : (ring : Ring) (x : Term) (f g : List Term) → IsRing ring → 0 < x.coefficient
    → x.coefficient < ring.modulus → length x.exponents ≡ places ring → IsCanonical ring g → f ≡ x ∷ []
    → changed (λ d. (x.coefficient * d) % ring.modulus) (product x.exponents) g ≡ canonical ring (all_products f g)
product_one ring x f g r sc lc l h e =
    let k = multiple_canonical ring x.coefficient x.exponents g r.modulus sc lc l h in
    sym (canonical_itself ring (changed (λ d. (x.coefficient * d) % ring.modulus) (product x.exponents) g) (ring_positive ring r) k)
    ∙ (canonical_multiple ring x.coefficient x.exponents g r.modulus sc lc l h
    ∙ ap (canonical ring) (sym (append-nil (multiple x.coefficient x.exponents g)) ∙ ap (λ y. all_products y g) (sym e)))
