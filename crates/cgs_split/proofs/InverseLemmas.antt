-- Monic multiples are multiples by units.
use Rattle.std.proofs.Common.{ℕ, ◌≡◌, ◌*◌, ◌%◌, ◌<◌, List, [], ◌∷◌, refl, sym, ap, ◌∙◌, arith}
use Rattle.std.proofs.Math.Nat.{zero-mod, mod-eq_of_lt, mul-zero}
use Rattle.cgs_field.specs.Prime.{IsField}
use Rattle.cgs_field.proofs.ModularLemmas.{mod_mul}
use Rattle.cgs_poly.specs.Ring.{Ring}
use Rattle.cgs_poly.specs.Polynomial.{Term, total, IsCanonical}
use Rattle.cgs_poly.specs.Product.{scaled, leading_coefficient}
use Rattle.cgs_field.specs.Inverse.{inverse}
use Rattle.cgs_poly.specs.Monic.{monic_of}
use Rattle.cgs_poly.proofs.SumLemmas.{total_scaled}
use Rattle.cgs_poly.proofs.CanonicalLemmas.{canonical_of_ring, is_canonical, canonical_alike}
use Rattle.cgs_poly.proofs.ProductLemmas.{scaled_of_ring}
use Rattle.cgs_field.proofs.InverseLemmas.{inverse_times}

-- a monic multiple comes to a unit times f

pub record IsUnitMultiple (ring : Ring) (f g : List Term) : Type 0 where
  pub factor : ℕ
  pub unit : (factor % ring.modulus ≡ 0) → ⊥
  pub multiple : (w : List ℕ → ℕ) → total w g % ring.modulus ≡ (factor * total w f) % ring.modulus

pub monic_canonical : (ring : Ring) (f : List Term) → 0 < ring.modulus → IsCanonical ring f → IsCanonical ring (monic_of ring f)
unfolding monic_of
monic_canonical ring f pos h =
    is_canonical ring (scaled (inverse ring.modulus (leading_coefficient f)) f) pos
    (scaled_of_ring ring (inverse ring.modulus (leading_coefficient f)) f (canonical_of_ring ring f h))

monic_total : (ring : Ring) (f : List Term) (w : List ℕ → ℕ) → 0 < ring.modulus → IsCanonical ring f
    → total w (monic_of ring f) % ring.modulus ≡ (inverse ring.modulus (leading_coefficient f) * total w f) % ring.modulus
unfolding monic_of
monic_total ring f w pos h =
    let c : ℕ = inverse ring.modulus (leading_coefficient f) in
    (canonical_alike ring (scaled c f) pos (scaled_of_ring ring c f (canonical_of_ring ring f h))).under w ∙ ap (λ n. n % ring.modulus) (total_scaled w c f)

-- a polynomial made monic is it times a number that is not 0
pub monic_unit : (ring : Ring) (f : List Term) → IsField ring.modulus → IsCanonical ring f → IsUnitMultiple ring f (monic_of ring f)
monic_unit ring [] field h =
    let pos : 0 < ring.modulus = omega (arith, field.two) in
    record {
      factor = 1;
      unit = λ e. omega (arith, mod-eq_of_lt field.two, e);
      multiple = λ w. monic_total ring [] w pos tt ∙ (ap (λ n. n % ring.modulus) (mul-zero (inverse ring.modulus 0)));
    }
monic_unit ring (x ∷ f) field h =
    let pos : 0 < ring.modulus = omega (arith, field.two) in
    let p : ℕ = ring.modulus in
    let c : ℕ = inverse ring.modulus x.coefficient in
    let i : (x.coefficient * c) % p ≡ 1 = inverse_times p x.coefficient field h.0 h.1 in
    record {
      factor = c;
      unit = λ e.
          let z : (x.coefficient * c) % p ≡ (x.coefficient * 0) % p = mod_mul p x.coefficient x.coefficient c 0 refl (e ∙ sym (zero-mod p)) in
          let o : (x.coefficient * 0) % p ≡ 0 = ap (λ n. n % p) (mul-zero x.coefficient) ∙ zero-mod p in
          let bad : ◌≡◌ {A = ℕ} 1 0 = sym i ∙ (z ∙ o) in
          omega arith;
      multiple = λ w. monic_total ring (x ∷ f) w pos h;
    }
