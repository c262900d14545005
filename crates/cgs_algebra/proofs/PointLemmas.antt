-- The values of terms at a point of the parameters, as weights of their monomials.
use Rattle.std.proofs.Common.{ℕ, zero, suc, ◌≡◌, ◌+◌, ◌*◌, ◌%◌, ◌<◌, List, [], ◌∷◌, length, get_or, map, take, drop, replicate, refl, sym, ap, ◌∙◌, arith}
use Rattle.std.proofs.Math.Nat.{zero-mul}
use Rattle.cgs_exps.specs.Monomial.{product}
use Rattle.cgs_exps.proofs.MonomialLemmas.{one_product}
use Rattle.cgs_poly.specs.Ring.{Ring}
use Rattle.cgs_poly.specs.Polynomial.{Term, places, total, IsOfRing}
use Rattle.cgs_poly.specs.Product.{multiple, all_products}
use Rattle.cgs_poly.specs.Parameters.{power_at, variables_ring, specialised_terms, specialised}
use Rattle.cgs_poly.proofs.SumLemmas.{total_append}
use Rattle.cgs_poly.proofs.CanonicalLemmas.{canonical_alike}
use Rattle.cgs_poly.proofs.ProductLemmas.{total_multiple}
use Rattle.cgs_poly.proofs.MultipleLemmas.{total_factor}
use Rattle.cgs_poly.proofs.SpecialisedLemmas.{at_point, at_point_product, total_specialised_terms, specialised_of_ring, variables_length}
use Rattle.cgs_algebra.proofs.WeightLemmas.{Each, total_same, HasLength, each_length}

module _ (ring : Ring) where
  -- without variables
  abbrev pub IsFree : List ℕ → Type 0
  IsFree u = (length u ≡ places ring) × (take ring.variables u ≡ replicate ring.variables 0)

  -- at a point, times a polynomial without variables is times its value
  abbrev pub power_weight : List ℕ → List ℕ → ℕ
  power_weight a m = power_at (drop ring.variables m) a

  -- a product with a polynomial in the parameters becomes a multiple by its value
  pub products_at_point : (a : List ℕ) (w : List ℕ → ℕ) (q f : List Term) → Each IsFree q → IsOfRing ring f
      → total (at_point ring a w) (all_products q f) ≡ total (power_weight a) q * total (at_point ring a w) f
  products_at_point a w [] f h k = sym (zero-mul (total (at_point ring a w) f))
  products_at_point a w (y ∷ q) f h k =
      let i = total_append (at_point ring a w) (multiple y.coefficient y.exponents f) (all_products q f) in
      let j = total_multiple (at_point ring a w) y.coefficient y.exponents f in
      let s : total (λ m. at_point ring a w (product y.exponents m)) f ≡ total (λ m. power_weight a y.exponents * at_point ring a w m) f =
      total_same (HasLength ring) (λ m. at_point ring a w (product y.exponents m)) (λ m.
      power_weight a y.exponents * at_point ring a w m) f (each_length ring f k)
      each in
      let e : total (λ m. power_weight a y.exponents * at_point ring a w m) f ≡ power_weight a y.exponents * total (at_point ring a w) f =
      total_factor (power_weight a y.exponents) (at_point ring a w) f in
      let ih = products_at_point a w q f h.1 k in
      join y.coefficient (power_weight a y.exponents) (total (at_point ring a w) f)
      (total (power_weight a) q) _ _ _ i (j ∙ ap (λ n. y.coefficient * n) (s ∙ e)) ih
    where
      each : (m : List ℕ) → HasLength ring m → at_point ring a w (product y.exponents m) ≡ power_weight a y.exponents * at_point ring a w m
      each m l =
          let z : product (take ring.variables y.exponents) (take ring.variables m) ≡ take ring.variables m =
          rw h.0.1 (one_product ring.variables (take ring.variables m) (variables_length ring m l)) in
          at_point_product ring a w y.exponents m h.0.0 l ∙ ap (λ n. power_weight a y.exponents * (power_at (drop ring.variables m) a * w n)) z

      join : (c v s t i j k : ℕ) → i ≡ j + k → j ≡ c * (v * s) → k ≡ t * s → i ≡ (c * v + t) * s
      join c v s t i j k p q r = omega arith

-- what f becomes, under a weight
pub total_specialised : (ring : Ring) (a : List ℕ) (w : List ℕ → ℕ) (f : List Term) → 0 < ring.modulus → IsOfRing ring f
    → total w (specialised ring a f) % ring.modulus ≡ total (at_point ring a w) f % ring.modulus
total_specialised ring a w f pos h = (canonical_alike (variables_ring ring) (specialised_terms ring a f) pos (specialised_of_ring ring a f h)).under w
    ∙ ap (λ n. n % ring.modulus) (total_specialised_terms ring a w f)

pub get_specialised : (ring : Ring) (a : List ℕ) (F : List (List Term)) (i : ℕ) → get_or (map (specialised ring a) F) i [] ≡ specialised ring a (get_or F i [])
get_specialised ring a [] i = refl
get_specialised ring a (f ∷ F) zero = refl
get_specialised ring a (f ∷ F) (suc i) = get_specialised ring a F i
