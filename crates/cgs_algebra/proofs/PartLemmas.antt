-- The terms of a polynomial with given variables, and the others.
use Rattle.std.proofs.Common.{ℕ, ◌≡◌, ◌+◌, ◌*◌, ◌⊎◌, inl, inr, Bool, true, false, cond, List, [], ◌∷◌, length, take, drop, replicate, refl, sym, ap, ◌∙◌, arith}
use Rattle.std.proofs.lemmas.List.{length-append, length-replicate, take_at, drop_at}
use Rattle.std.specs.declared.cmp.Ordering.{Ordering}
use Rattle.std.specs.declared.cmp.Ordering.TheVariants.{Less, Equal, Greater}
use Rattle.std.specs.Ordering.{nat_cmp, is_eq}
use Rattle.std.specs.Cmp.Lexicographic.{slice_cmp}
use Rattle.cgs_exps.specs.Monomial.{product}
use Rattle.cgs_exps.proofs.MonomialLemmas.{product_length}
use Rattle.cgs_order.specs.TermOrder.{compared}
use Rattle.cgs_order.proofs.OrderLemmas.{cmp_equal, cmp_self}
use Rattle.cgs_poly.specs.Ring.{Ring}
use Rattle.cgs_poly.specs.Polynomial.{Term, places, order_of, total, IsOfRing, IsCanonical}
use Rattle.cgs_poly.specs.Parameters.{variables_ring, part_at, strip, without_variables}
use Rattle.cgs_poly.proofs.CanonicalLemmas.{AllBelow, all_below_canonical, canonical_of_ring}
use Rattle.cgs_poly.proofs.ProductOrderLemmas.{take_product, compared_shift}
use Rattle.cgs_poly.proofs.SpecialisedLemmas.{variables_length, parameters_length}
use Rattle.cgs_algebra.proofs.WeightLemmas.{Each}
use Rattle.cgs_algebra.proofs.VariablesOrderLemmas.{below_from_variables, variables_from_below}
use Rattle.cgs_algebra.proofs.PointLemmas.{IsFree}

module _ (ring : Ring) where
  -- the other terms
  abbrev pub rest_of : List ℕ → List Term → List Term
  rest_of x [] = []
  rest_of x (y ∷ f) = cond (is_eq (slice_cmp nat_cmp (take ring.variables y.exponents) x)) (rest_of x f) (y ∷ rest_of x f)

  -- a sum is that of the part and that of the rest
  pub part_total : (w : List ℕ → ℕ) (x : List ℕ) (f : List Term) → total w f ≡ total w (part_at ring x f) + total w (rest_of x f)
  part_total w x [] = refl
  part_total w x (y ∷ f) = step (is_eq (slice_cmp nat_cmp (take ring.variables y.exponents) x)) (part_total w x f)
    where
      step : (b : Bool) → total w f ≡ total w (part_at ring x f) + total w (rest_of x f)
          → y.coefficient * w y.exponents + total w f
          ≡ total w (cond b (y ∷ part_at ring x f) (part_at ring x f)) + total w (cond b (rest_of x f) (y ∷ rest_of x f))
      step true ih = omega arith
      step false ih = omega arith

  abbrev pub HasVariables : List ℕ → List ℕ → Type 0
  HasVariables x m = (length m ≡ places ring) × (take ring.variables m ≡ x)

  pub part_each : (x : List ℕ) (f : List Term) → IsOfRing ring f → Each (HasVariables x) (part_at ring x f)
  part_each x [] h = tt
  part_each x (y ∷ f) h = step (slice_cmp nat_cmp (take ring.variables y.exponents) x) refl (part_each x f h.1)
    where
      step : (o : Ordering) → slice_cmp nat_cmp (take ring.variables y.exponents) x ≡ o → Each (HasVariables x) (part_at ring x f)
          → Each (HasVariables x) (cond (is_eq o) (y ∷ part_at ring x f) (part_at ring x f))
      step Less e ih = ih
      step Equal e ih = ((h.0, cmp_equal (take ring.variables y.exponents) x e), ih)
      step Greater e ih = ih

  -- the variables are below x
  abbrev pub VariablesBelow : List ℕ → List ℕ → Type 0
  VariablesBelow x m = (length m ≡ places ring) × (compared (order_of (variables_ring ring)) (take ring.variables m) x ≡ Less)

  rest_each : (m : List ℕ) (f : List Term) → length m ≡ places ring → IsOfRing ring f → AllBelow ring m f
      → Each (VariablesBelow (take ring.variables m)) (rest_of (take ring.variables m) f)
  rest_each m [] l h b = tt
  rest_each m (y ∷ f) l h b = step (slice_cmp nat_cmp (take ring.variables y.exponents) (take ring.variables m)) refl (rest_each m f l h.1 b.1)
    where
      other : (slice_cmp nat_cmp (take ring.variables y.exponents) (take ring.variables m) ≡ Equal → ⊥)
          → compared (order_of (variables_ring ring)) (take ring.variables y.exponents) (take ring.variables m) ≡ Less
      other apart = by_cases (variables_from_below ring y.exponents m h.0 l b.0)
        where
          by_cases : (compared (order_of (variables_ring ring)) (take ring.variables y.exponents) (take ring.variables m) ≡ Less)
              ⊎ (take ring.variables y.exponents ≡ take ring.variables m)
              → compared (order_of (variables_ring ring)) (take ring.variables y.exponents) (take ring.variables m) ≡ Less
          by_cases (inl e) = e
          by_cases (inr e) = absurd (apart (ap (slice_cmp nat_cmp (take ring.variables y.exponents)) (sym e) ∙ cmp_self (take ring.variables y.exponents)))

      step : (o : Ordering) → slice_cmp nat_cmp (take ring.variables y.exponents) (take ring.variables m) ≡ o
          → Each (VariablesBelow (take ring.variables m)) (rest_of (take ring.variables m) f)
          → Each (VariablesBelow (take ring.variables m)) (cond (is_eq o) (rest_of (take ring.variables m) f) (y ∷ rest_of (take ring.variables m) f))
      step Less e ih = ((h.0, other (λ q. cc)), ih)
      step Equal e ih = ih
      step Greater e ih = ((h.0, other (λ q. cc)), ih)

  -- a monomial with variables below those of m is below m
  pub below_by_variables : (m : List ℕ) (f : List Term) → length m ≡ places ring → Each (VariablesBelow (take ring.variables m)) f → AllBelow ring m f
  below_by_variables m [] l h = tt
  below_by_variables m (y ∷ f) l h = (below_from_variables ring y.exponents m h.0.0 l h.0.1, below_by_variables m f l h.1)

  pub variables_below_ring : (x : List ℕ) (f : List Term) → Each (VariablesBelow x) f → IsOfRing ring f
  variables_below_ring x [] h = tt
  variables_below_ring x (y ∷ f) h = (h.0.0, variables_below_ring x f h.1)

  -- u*m is below u*y in the variables
  pub variables_below_product : (x y u m : List ℕ) → length u ≡ places ring → length y ≡ ring.variables → product (take ring.variables u) y ≡ x
      → VariablesBelow y m → VariablesBelow x (product u m)
  variables_below_product x y u m l ly e h =
      let s : compared (order_of (variables_ring ring)) (product (take ring.variables u) (take ring.variables m)) (product (take ring.variables u) y)
      ≡ compared (order_of (variables_ring ring)) (take ring.variables m) y =
      compared_shift (order_of (variables_ring ring)) (take ring.variables u) (take ring.variables m) y
      (variables_length ring u l ∙ sym (variables_length ring m h.0)) (variables_length ring u l ∙ sym ly) in
      (product_length u m (places ring) l h.0, rw (take_product ring.variables u m, ← e) (s ∙ h.1))

  without_free : (m : List ℕ) → length m ≡ places ring → IsFree ring (without_variables ring m)
  without_free m l = (
    omega (
      arith,
      length-append (replicate ring.variables 0) (drop ring.variables m),
      length-replicate {A = ℕ} ring.variables 0,
      parameters_length ring m l,
    ),
    take_at (replicate ring.variables 0) (drop ring.variables m) ring.variables
        (length-replicate {A = ℕ} ring.variables 0),
  )

  pub without_drop : (m : List ℕ) → drop ring.variables (without_variables ring m) ≡ drop ring.variables m
  without_drop m = drop_at (replicate ring.variables 0) (drop ring.variables m) ring.variables (length-replicate {A = ℕ} ring.variables 0)

  pub strip_each : (x : List ℕ) (f : List Term) → Each (HasVariables x) f → Each (IsFree ring) (strip ring f)
  strip_each x [] h = tt
  strip_each x (y ∷ f) h = (without_free y.exponents h.0.0, strip_each x f h.1)

  pub total_strip : (w : List ℕ → ℕ) (f : List Term) → total w (strip ring f) ≡ total (λ m. w (without_variables ring m)) f
  total_strip w [] = refl
  total_strip w (y ∷ f) = cc (total_strip w f)

  -- but for the terms with the variables of the lead, all are below in the variables
  pub rest_of_head : (y : Term) (f : List Term) → IsCanonical ring (y ∷ f)
      → Each (VariablesBelow (take ring.variables y.exponents)) (rest_of (take ring.variables y.exponents) (y ∷ f))
  rest_of_head y f poly = rw (cmp_self (take ring.variables y.exponents))
      (rest_each y.exponents f poly.2 (canonical_of_ring ring f poly.4) (all_below_canonical ring y.exponents f poly.4 poly.3))
