-- The monic multiple of a polynomial that is not 0.
use Rattle.std.proofs.Common.{ℕ, ◌≡◌, ◌*◌, ◌%◌, List, ◌∷◌, sym, ap, ◌∙◌}
use Rattle.std.proofs.Math.Nat.{one-mul}
use Rattle.cgs_poly.specs.Ring.{Ring}
use Rattle.cgs_poly.specs.Polynomial.{Term, total, IsRing, IsCanonical}
use Rattle.cgs_poly.specs.Product.{leading_monomial, leading_coefficient}
use Rattle.cgs_field.specs.Inverse.{inverse}
use Rattle.cgs_poly.specs.Monic.{monic_of}
use Rattle.cgs_poly.proofs.SumLemmas.{total_scaled}
use Rattle.cgs_poly.proofs.CanonicalLemmas.{same_canonical}
use Rattle.cgs_poly.proofs.MonicLemmas as any

module _ (ring : Ring) (r : IsRing ring) (x : Term) (f : List Term) (h : IsCanonical ring (x ∷ f)) where
  pub monic_canonical : IsCanonical ring (monic_of ring (x ∷ f))
  monic_canonical = any.monic_canonical ring r (x ∷ f) h

  -- it is the polynomial times the inverse of its leading coefficient
  pub monic_scaled : (w : List ℕ → ℕ) → total w (monic_of ring (x ∷ f)) % ring.modulus ≡ (inverse ring.modulus x.coefficient * total w (x ∷ f)) % ring.modulus
  monic_scaled w = (any.monic_alike ring r (x ∷ f) h).under w ∙ ap (λ n. n % ring.modulus) (total_scaled w (inverse ring.modulus x.coefficient) (x ∷ f))

  -- and the polynomial is its leading coefficient times it
  pub monic_back : (w : List ℕ → ℕ) → total w (x ∷ f) % ring.modulus ≡ (x.coefficient * total w (monic_of ring (x ∷ f))) % ring.modulus
  monic_back w = any.monic_back ring r (x ∷ f) h w

  pub monic_one : leading_coefficient (monic_of ring (x ∷ f)) ≡ 1
  monic_one = any.monic_leading ring r (x ∷ f) h (λ e. cc)

  pub monic_lead_same : leading_monomial (monic_of ring (x ∷ f)) ≡ x.exponents
  monic_lead_same = any.monic_lead ring r (x ∷ f) h

  -- a monic polynomial stays as it is
  pub monic_itself : x.coefficient ≡ 1 → monic_of ring (x ∷ f) ≡ x ∷ f
  monic_itself one =
      same_canonical ring (monic_of ring (x ∷ f)) (x ∷ f) monic_canonical h (record {
        under = λ w.
            let b : (x.coefficient * total w (monic_of ring (x ∷ f))) % ring.modulus ≡ total w (monic_of ring (x ∷ f)) % ring.modulus =
            ap (λ n. (n * total w (monic_of ring (x ∷ f))) % ring.modulus) one ∙ ap (λ n. n % ring.modulus) (one-mul (total w (monic_of ring (x ∷ f)))) in
            sym (monic_back w ∙ b);
      })
