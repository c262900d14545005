-- The monic multiple of a polynomial is one, with the leading coefficient 1 and the same lead.
use Rattle.std.proofs.Common.{ℕ, ◌≡◌, ◌*◌, ◌%◌, ◌<◌, List, [], ◌∷◌, slice_get, Some, refl, sym, ap, ◌∙◌}
use Rattle.std.proofs.Math.Nat.{mod-eq_of_lt, one-mul, mul_assoc, mul_comm}
use Rattle.cgs_field.specs.Prime.{IsField}
use Rattle.cgs_field.specs.Inverse.{inverse}
use Rattle.cgs_field.proofs.ModularLemmas.{mod_mul}
use Rattle.cgs_field.proofs.InverseLemmas.{inverse_times, inverse_less, inverse_positive}
use Rattle.cgs_field.proofs.PrimeLemmas.{modulus_field}
use Rattle.cgs_poly.specs.Ring.{Ring}
use Rattle.cgs_poly.specs.Polynomial.{Term, total, IsRing, IsCanonical, IsPoly, canonical}
use Rattle.cgs_poly.specs.Product.{scaled, leading_monomial, leading_coefficient}
use Rattle.cgs_poly.specs.Merge.{changed}
use Rattle.cgs_poly.specs.Monic.{monic_of}
use Rattle.cgs_poly.proofs.SumLemmas.{Alike, total_scaled}
use Rattle.cgs_poly.proofs.CanonicalLemmas.{is_canonical, canonical_alike, canonical_of_ring}
use Rattle.cgs_poly.proofs.ProductLemmas.{scaled_of_ring}
use Rattle.cgs_poly.proofs.ChangedLemmas.{canonical_scaled}
use Rattle.cgs_poly.proofs.ArithmeticLemmas.{scaled_poly}
use Rattle.cgs_poly.proofs.RingLemmas.{ring_positive}

-- monic polynomials

pub monic_zero : (ring : Ring) (f : List Term) → f ≡ [] → [] ≡ monic_of ring f
unfolding monic_of
monic_zero ring [] e = refl
monic_zero ring (x ∷ f) e = absurd (cc)

pub monic_by_lead : (ring : Ring) (f : List Term) (x : Term) (c : ℕ) → slice_get f 0 ≡ Some x
    → c ≡ inverse ring.modulus x.coefficient → canonical ring (scaled c f) ≡ monic_of ring f
unfolding monic_of
monic_by_lead ring [] x c s e = refl
monic_by_lead ring (y ∷ f) x c s e = let same : y ≡ x = cc in
    ap (λ k. canonical ring (scaled k (y ∷ f))) (e ∙ ap (λ (z : Term). inverse ring.modulus z.coefficient) (sym same))

module _ (ring : Ring) (r : IsRing ring) where
  pos : 0 < ring.modulus
  pos = ring_positive ring r

  field : IsField ring.modulus
  field = modulus_field ring.modulus r.modulus

  pub monic_alike : (f : List Term) → IsCanonical ring f → Alike ring.modulus (monic_of ring f) (scaled (inverse ring.modulus (leading_coefficient f)) f)
  unfolding monic_of
  monic_alike f h =
      let c : ℕ = inverse ring.modulus (leading_coefficient f) in
      canonical_alike ring (scaled c f) pos (scaled_of_ring ring c f (canonical_of_ring ring f h))

  pub monic_poly : (f : List Term) → IsPoly ring f → IsPoly ring (monic_of ring f)
  unfolding monic_of
  monic_poly f h = scaled_poly ring (inverse ring.modulus (leading_coefficient f)) f r h

  pub monic_canonical : (f : List Term) → IsCanonical ring f → IsCanonical ring (monic_of ring f)
  unfolding monic_of
  monic_canonical f h =
      let c : ℕ = inverse ring.modulus (leading_coefficient f) in
      is_canonical ring (scaled c f) pos (scaled_of_ring ring c f (canonical_of_ring ring f h))

  -- term by term
  monic_terms : (x : Term) (f : List Term) → IsCanonical ring (x ∷ f)
      → monic_of ring (x ∷ f) ≡ changed (λ d. (inverse ring.modulus x.coefficient * d) % ring.modulus) (λ m. m) (x ∷ f)
  unfolding monic_of
  monic_terms x f h =
      let c : ℕ = inverse ring.modulus x.coefficient in
      canonical_scaled ring c (x ∷ f) r.modulus (inverse_positive ring.modulus x.coefficient field h.0 h.1) (inverse_less ring.modulus x.coefficient pos) h

  pub monic_lead : (f : List Term) → IsCanonical ring f → leading_monomial (monic_of ring f) ≡ leading_monomial f
  unfolding monic_of
  monic_lead [] h = refl
  monic_lead (x ∷ f) h = ap leading_monomial (monic_terms x f h)

  pub monic_leading : (f : List Term) → IsCanonical ring f → (f ≡ [] → ⊥) → leading_coefficient (monic_of ring f) ≡ 1
  monic_leading [] h some = absurd (some refl)
  monic_leading (x ∷ f) h some =
      let c : ℕ = inverse ring.modulus x.coefficient in
      ap leading_coefficient (monic_terms x f h)
      ∙ (ap (λ n. n % ring.modulus) (mul_comm c x.coefficient) ∙ inverse_times ring.modulus x.coefficient field h.0 h.1)

  -- f is its leading coefficient times the monic one
  pub monic_back : (f : List Term) → IsCanonical ring f → (w : List ℕ → ℕ)
      → total w f % ring.modulus ≡ (leading_coefficient f * total w (monic_of ring f)) % ring.modulus
  unfolding monic_of
  monic_back [] h w = refl
  monic_back (x ∷ f) h w =
      let p : ℕ = ring.modulus in
      let c : ℕ = inverse ring.modulus x.coefficient in
      let t : ℕ = total w (x ∷ f) in
      let s : total w (monic_of ring (x ∷ f)) % ring.modulus ≡ (c * t) % ring.modulus =
      (monic_alike (x ∷ f) h).under w ∙ ap (λ n. n % ring.modulus) (total_scaled w c (x ∷ f)) in
      let a : (x.coefficient * total w (monic_of ring (x ∷ f))) % ring.modulus ≡ (x.coefficient * (c * t)) % ring.modulus =
      mod_mul ring.modulus x.coefficient x.coefficient (total w (monic_of ring (x ∷ f))) (c * t) refl s in
      let one : (x.coefficient * c) % ring.modulus ≡ 1 % ring.modulus = inverse_times ring.modulus x.coefficient field h.0 h.1 ∙ sym (mod-eq_of_lt field.two) in
      let b : ((x.coefficient * c) * t) % ring.modulus ≡ (1 * t) % ring.modulus = mod_mul ring.modulus (x.coefficient * c) 1 t t one refl in
      sym (a ∙ (ap (λ n. n % ring.modulus) (sym (mul_assoc x.coefficient c t)) ∙ (b ∙ ap (λ n. n % ring.modulus) (one-mul t))))
