-- Polynomials that come to 0 at a point, and polynomials without variables there.
use Rattle.std.proofs.Common.{ℕ, ◌≡◌, ◌*◌, ◌%◌, ◌<◌, ◌⊎◌, inl, inr, List, [], ◌∷◌, ◌++◌, length, take, drop, replicate, refl, sym, ap, ◌∙◌}
use Rattle.std.proofs.Math.Nat.{zero-mod, add-zero, mul_comm, mul-zero}
use Rattle.std.proofs.lemmas.List.{length-replicate}
use Rattle.std.specs.declared.cmp.Ordering.TheVariants.{Less}
use Rattle.cgs_field.proofs.ModularLemmas.{mod_add, mod_mul}
use Rattle.cgs_exps.specs.Monomial.{product}
use Rattle.cgs_exps.proofs.MonomialLemmas.{product_comm, one_product}
use Rattle.cgs_order.specs.TermOrder.{compared}
use Rattle.cgs_poly.specs.Ring.{Ring}
use Rattle.cgs_poly.specs.Polynomial.{Term, places, order_of, total, IsOfRing, IsCanonical}
use Rattle.cgs_poly.specs.Product.{multiple}
use Rattle.cgs_poly.specs.Parameters.{HasNoVariables, power_at, variables_ring, lead_x, value_at}
use Rattle.cgs_poly.proofs.SumLemmas.{total_append}
use Rattle.cgs_poly.proofs.MultipleLemmas.{total_factor}
use Rattle.cgs_poly.proofs.ProductOrderLemmas.{compared_grown}
use Rattle.cgs_poly.proofs.SpecialisedLemmas.{at_point, total_at_multiple, variables_length}
use Rattle.cgs_algebra.proofs.WeightLemmas.{Each, total_same}
use Rattle.cgs_algebra.proofs.VariablesOrderLemmas.{variables_from_below}
use Rattle.cgs_algebra.proofs.PointLemmas.{power_weight}

module _ (ring : Ring) (a : List ℕ) (pos : 0 < ring.modulus) where
  -- f comes to 0 at the point
  abbrev pub Vanishes : List Term → Type 0
  Vanishes f = (w : List ℕ → ℕ) → total (at_point ring a w) f % ring.modulus ≡ 0

  -- a multiple of what comes to 0 does
  pub multiple_vanishes : (c : ℕ) (t : List ℕ) (f : List Term) → length t ≡ places ring → IsOfRing ring f → Vanishes f → Vanishes (multiple c t f)
  multiple_vanishes c t f l h v = λ w.
      let d : ℕ = c * power_at (drop ring.variables t) a in
      ap (λ n. n % ring.modulus) (total_at_multiple ring a w c t f l h)
      ∙ (mod_mul ring.modulus d d _ 0 refl (v (λ n. w (product (take ring.variables t) n)) ∙ sym (zero-mod ring.modulus))
      ∙ (ap (λ n. n % ring.modulus) (mul-zero d) ∙ zero-mod ring.modulus))

  -- what comes to 0 at the point changes nothing there
  pub vanishing_added : (w : List ℕ → ℕ) (f g : List Term) → Vanishes g
      → total (at_point ring a w) (f ++ g) % ring.modulus ≡ total (at_point ring a w) f % ring.modulus
  vanishing_added w f g v =
      let n : ℕ = total (at_point ring a w) f in
      ap (λ k. k % ring.modulus) (total_append (at_point ring a w) f g)
      ∙ (mod_add ring.modulus n n (total (at_point ring a w) g) 0 refl (v w ∙ sym (zero-mod ring.modulus)) ∙ ap (λ k. k % ring.modulus) (add-zero n))

  -- without variables
  abbrev HasNone : List ℕ → Type 0
  HasNone m = take ring.variables m ≡ replicate ring.variables 0

  free_each : (f : List Term) → HasNoVariables ring f → Each HasNone f
  free_each [] h = tt
  free_each (y ∷ f) h = (h.0, free_each f h.1)

  pub free_total : (w : List ℕ → ℕ) (f : List Term) → HasNoVariables ring f
      → total (at_point ring a w) f ≡ w (replicate ring.variables 0) * total (power_weight ring a) f
  free_total w f h =
      total_same HasNone (at_point ring a w) (λ m. w (replicate ring.variables 0) * power_weight ring a m) f (free_each f h)
      (λ m e. ap (λ n. power_at (drop ring.variables m) a * w n) e ∙ mul_comm (power_at (drop ring.variables m) a) (w (replicate ring.variables 0)))
      ∙ total_factor (w (replicate ring.variables 0)) (power_weight ring a) f

  -- a polynomial in the parameters alone comes to 0 where its value is 0
  pub free_vanishes : (f : List Term) → HasNoVariables ring f → value_at ring a f ≡ 0 → Vanishes f
  free_vanishes f h z = λ w. ap (λ n. n % ring.modulus) (free_total w f h)
      ∙ (mod_mul ring.modulus (w (replicate ring.variables 0)) (w (replicate ring.variables 0)) _ 0 refl (z ∙ sym (zero-mod ring.modulus))
      ∙ (ap (λ n. n % ring.modulus) (mul-zero (w (replicate ring.variables 0))) ∙ zero-mod ring.modulus))

  -- a polynomial whose lead has no variables has none
  pub free_by_lead : (f : List Term) → IsCanonical ring f → lead_x ring f ≡ replicate ring.variables 0 → HasNoVariables ring f
  free_by_lead [] k e = tt
  free_by_lead (y ∷ []) k e = (e, tt)
  free_by_lead (y ∷ z ∷ f) k e = (e, free_by_lead (z ∷ f) k.4 (next (variables_from_below ring z.exponents y.exponents k.4.2 k.2 k.3)))
    where
      next : (compared (order_of (variables_ring ring)) (take ring.variables z.exponents) (take ring.variables y.exponents) ≡ Less)
          ⊎ (take ring.variables z.exponents ≡ take ring.variables y.exponents) → take ring.variables z.exponents ≡ replicate ring.variables 0
      next (inr q) = q ∙ e
      next (inl q) =
          let t : List ℕ = take ring.variables z.exponents in
          let zeros : List ℕ = replicate ring.variables 0 in
          let lt : length t ≡ ring.variables = variables_length ring z.exponents k.4.2 in
          let s : product t zeros ≡ t = product_comm t zeros ∙ one_product ring.variables t lt in
          absurd (compared_grown (order_of (variables_ring ring)) t zeros (lt ∙ sym (length-replicate {A = ℕ} ring.variables 0))
          (ap (λ n. compared (order_of (variables_ring ring)) n zeros) s ∙ (ap (compared (order_of (variables_ring ring)) t) (sym e) ∙ q)))
