-- Polynomials in the ring with one variable more.
use Rattle.std.proofs.Common.{ℕ, ◌≡◌, ◌+◌, ◌-◌, ◌*◌, ◌^◌, List, [], ◌∷◌, length, take, drop, replicate, refl, sym, ap, ◌∙◌, arith, add-one}
use Rattle.std.proofs.Math.Nat.{one-mul, mul-one, mul-zero, mul_left_comm, pow-zero, pow-suc}
use Rattle.std.proofs.lemmas.Bool.{eq-eqb}
use Rattle.std.proofs.lemmas.List.{length-replicate, take-replicate, drop-replicate}
use Rattle.cgs_exps.specs.Monomial.{product}
use Rattle.cgs_exps.proofs.MonomialLemmas.{one_product}
use Rattle.cgs_poly.specs.Ring.{Ring}
use Rattle.cgs_poly.specs.Polynomial.{Term, term, places, total, IsOfRing}
use Rattle.cgs_poly.specs.Product.{multiple}
use Rattle.cgs_poly.specs.Parameters.{power_at}
use Rattle.cgs_poly.specs.Recast.{recast_monomial}
use Rattle.cgs_poly.proofs.ProductLemmas.{multiple_of_ring}
use Rattle.cgs_poly.proofs.SpecialisedLemmas.{at_point, power_zeros}
use Rattle.cgs_discover.specs.Refutation.{with_variable, lifted, y, y_thesis_terms}

lifted_monomial : (ring : Ring) (m : List ℕ) → recast_monomial ring (with_variable ring) m ≡ 0 ∷ m
lifted_monomial ring m = rw (eq-eqb (ring.variables + 1) (ring.variables + 1) refl) refl

pub lifted_first : (ring : Ring) (z : Term) (f : List Term) → lifted ring (z ∷ f) ≡ term z.coefficient (0 ∷ z.exponents) ∷ lifted ring f
lifted_first ring z f = ap (λ m. term z.coefficient m ∷ lifted ring f) (lifted_monomial ring z.exponents)

pub lifted_of_ring : (ring : Ring) (f : List Term) → IsOfRing ring f → IsOfRing (with_variable ring) (lifted ring f)
lifted_of_ring ring [] h = tt
lifted_of_ring ring (z ∷ f) h = (ap length (lifted_monomial ring z.exponents) ∙ (let l = h.0 in omega arith), lifted_of_ring ring f h.1)

module _ (ring : Ring) (a x : List ℕ) (b : ℕ) where
  abbrev wide : Ring
  wide = with_variable ring

  -- with y at b and the variables at x
  abbrev W : List ℕ → ℕ
  W m = power_at m (b ∷ x)

  abbrev w : List ℕ → ℕ
  w m = power_at m x

  weigh_first : (e : ℕ) (m : List ℕ) → at_point wide a W (e ∷ m) ≡ b ^ e * at_point ring a w m
  weigh_first e m = rw add-one (mul_left_comm (power_at (drop ring.variables m) a) (b ^ e) (power_at (take ring.variables m) x))

  pub total_lifted : (f : List Term) → total (at_point wide a W) (lifted ring f) ≡ total (at_point ring a w) f
  total_lifted [] = refl
  total_lifted (z ∷ f) =
      let v : ℕ = at_point ring a w z.exponents in
      let e : at_point wide a W (0 ∷ z.exponents) ≡ v = weigh_first 0 z.exponents ∙ rw (pow-zero b) (one-mul v) in
      ap (total (at_point wide a W)) (lifted_first ring z f) ∙ cc (e, total_lifted f)

  -- a monomial of the ring times y
  weigh_times : (m : List ℕ) → length m ≡ places ring → at_point wide a W (product (y ring) (0 ∷ m)) ≡ b * at_point ring a w m
  weigh_times m l =
      let once : b ^ 1 ≡ b = pow-suc b 0 ∙ rw (pow-zero b) (one-mul b) in
      ap (λ n. at_point wide a W (1 ∷ n)) (one_product (places ring) m l) ∙ (weigh_first 1 m ∙ ap (λ n. n * at_point ring a w m) once)

  -- y times a polynomial
  total_times : (f : List Term) → IsOfRing ring f → total (at_point wide a W) (multiple 1 (y ring) (lifted ring f)) ≡ b * total (at_point ring a w) f
  total_times [] h = sym (mul-zero b)
  total_times (z ∷ f) h =
      ap (λ g. total (at_point wide a W) (multiple 1 (y ring) g)) (lifted_first ring z f)
      ∙ sums z.coefficient b (at_point ring a w z.exponents) (total (at_point ring a w) f) _ _ (weigh_times z.exponents h.0) (total_times f h.1)
    where
      sums : (c b v s k i : ℕ) → k ≡ b * v → i ≡ b * s → (1 * c) * k + i ≡ b * (c * v + s)
      sums c b v s k i p q = rw (p, q) (omega arith)

  zeros_weight : at_point wide a W (replicate (places wide) 0) ≡ 1
  zeros_weight =
      let n : ℕ = wide.variables in
      let front : take n (replicate {A = ℕ} (places wide) 0) ≡ replicate n 0 = take-replicate n (places wide) 0 (omega arith) in
      let back : drop n (replicate {A = ℕ} (places wide) 0) ≡ replicate (places wide - n) 0 = drop-replicate n (places wide) 0 in
      rw (front, back, power_zeros (places wide - n) a, power_zeros n (b ∷ x)) refl

  -- y*T - 1
  pub total_y_thesis : (T : List Term) → IsOfRing ring T
      → total (at_point wide a W) (y_thesis_terms ring T) ≡ (ring.modulus - 1) + b * total (at_point ring a w) T
  total_y_thesis T h = cc (zeros_weight, mul-one (ring.modulus - 1), total_times T h)

y_long : (ring : Ring) → length (y ring) ≡ places (with_variable ring)
y_long ring = let l = length-replicate {A = ℕ} (places ring) 0 in omega (arith, l)

pub y_terms_of_ring : (ring : Ring) (T : List Term) → IsOfRing ring T → IsOfRing (with_variable ring) (y_thesis_terms ring T)
y_terms_of_ring ring T h = (
  length-replicate {A = ℕ} (places (with_variable ring)) 0,
  multiple_of_ring (with_variable ring) 1 (y ring) (lifted ring T) (y_long ring) (lifted_of_ring ring T h),
)
