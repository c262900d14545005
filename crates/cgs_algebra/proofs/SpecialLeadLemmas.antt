-- The lead of what a polynomial becomes at a point, in terms of the polynomial.
use Rattle.std.proofs.Common.{ℕ, ◌≡◌, ◌*◌, ◌%◌, ◌<◌, ◌⊎◌, inl, inr, List, [], ◌∷◌, length, take, drop, refl, sym, ap, ◌∙◌, subst, arith}
use Rattle.std.proofs.Math.Nat.{zero-mod, add-zero, mul-zero, mul-one}
use Rattle.std.specs.declared.cmp.Ordering.{Ordering}
use Rattle.std.specs.declared.cmp.Ordering.TheVariants.{Less, Equal, Greater}
use Rattle.cgs_field.specs.Prime.{IsField}
use Rattle.cgs_field.proofs.ModularLemmas.{mod_mul}
use Rattle.cgs_order.specs.TermOrder.{compared}
use Rattle.cgs_order.proofs.OrderLemmas.{compared_equal, compared_trans, compared_back, compared_not_self}
use Rattle.cgs_poly.specs.Ring.{Ring}
use Rattle.cgs_poly.specs.Polynomial.{Term, term, order_of, total, indicator, IsOfRing, IsCanonical}
use Rattle.cgs_poly.specs.Product.{leading_monomial}
use Rattle.cgs_poly.specs.Parameters.{power_at, variables_ring, part_at, strip, without_variables, lead_x, lc_x, value_at}
use Rattle.cgs_poly.proofs.SumLemmas.{only_same, only_other}
use Rattle.cgs_poly.proofs.CanonicalLemmas.{above_zero, lead_not_zero, canonical_of_ring}
use Rattle.cgs_poly.proofs.MultipleLemmas.{total_none}
use Rattle.cgs_poly.proofs.SpecialisedLemmas.{at_point, variables_length}
use Rattle.cgs_algebra.proofs.FieldLemmas.{no_zero_divisors}
use Rattle.cgs_algebra.proofs.WeightLemmas.{Each, total_same}
use Rattle.cgs_algebra.proofs.PointLemmas.{power_weight}
use Rattle.cgs_algebra.proofs.PartLemmas.{rest_of, part_total, HasVariables, part_each, VariablesBelow, rest_of_head, without_drop, total_strip}

module _ (ring : Ring) (a : List ℕ) (pos : 0 < ring.modulus) where
  -- x is the lead of the terms that f becomes
  pub record IsSpecialLead (x : List ℕ) (f : List Term) : Type 0 where
    pub long : length x ≡ ring.variables
    pub there : total (at_point ring a (indicator x)) f % ring.modulus ≡ 0 → ⊥
    pub above : (y : List ℕ) → length y ≡ ring.variables → compared (order_of (variables_ring ring)) x y ≡ Less
        → total (at_point ring a (indicator y)) f % ring.modulus ≡ 0

  pub special_lead_alike : (x : List ℕ) (f g : List Term)
      → ((w : List ℕ → ℕ) → total (at_point ring a w) f % ring.modulus ≡ total (at_point ring a w) g % ring.modulus) → IsSpecialLead x f → IsSpecialLead x g
  special_lead_alike x f g e h = record {
    long = h.long;
    there = λ z. h.there (e (indicator x) ∙ z);
    above = λ y l o. sym (e (indicator y)) ∙ h.above y l o;
  }

  -- a multiple by a number that is not 0 has the same lead
  pub special_lead_scaled : IsField ring.modulus → (x : List ℕ) (v : ℕ) (f g : List Term) → (v % ring.modulus ≡ 0 → ⊥)
      → ((w : List ℕ → ℕ) → total (at_point ring a w) g % ring.modulus ≡ (v * total (at_point ring a w) f) % ring.modulus) → IsSpecialLead x f
      → IsSpecialLead x g
  special_lead_scaled field x v f g nz e h = record {
    long = h.long;
    there = λ z. one_of (no_zero_divisors ring.modulus field v (total (at_point ring a (indicator x)) f) (sym (e (indicator x)) ∙ z));
    above = λ y l o. e (indicator y) ∙ (mod_mul ring.modulus v v _ 0 refl (h.above y l o ∙ sym (zero-mod ring.modulus))
        ∙ (ap (λ n. n % ring.modulus) (mul-zero v) ∙ zero-mod ring.modulus));
  }
    where
      one_of : (v % ring.modulus ≡ 0) ⊎ (total (at_point ring a (indicator x)) f % ring.modulus ≡ 0) → ⊥
      one_of (inl q) = nz q
      one_of (inr q) = h.there q

  -- the coefficient at x of what f becomes, where x are the variables of its lead, is the value of its lead coefficient
  lead_value : (x : List ℕ) (f : List Term) → IsOfRing ring f → Each (VariablesBelow ring x) (rest_of ring x f)
      → total (at_point ring a (indicator x)) f ≡ total (power_weight ring a) (strip ring (part_at ring x f))
  lead_value x f of_ring rest =
      let i = part_total ring (at_point ring a (indicator x)) x f in
      let p : total (at_point ring a (indicator x)) (part_at ring x f) ≡ total (λ m. power_weight ring a (without_variables ring m)) (part_at ring x f) =
      total_same (HasVariables ring x) (at_point ring a (indicator x)) (λ m. power_weight ring a (without_variables ring m)) (part_at ring x f)
      (part_each ring x f of_ring) in_part in
      let q : total (at_point ring a (indicator x)) (rest_of ring x f) ≡ total (λ m. 0) (rest_of ring x f) =
      total_same (VariablesBelow ring x) (at_point ring a (indicator x)) (λ m. 0) (rest_of ring x f) rest in_rest in
      let n = total_none (rest_of ring x f) in
      let t = total_strip ring (power_weight ring a) (part_at ring x f) in
      omega (arith, i, p, q, n, t)
    where
      in_part : (m : List ℕ) → HasVariables ring x m → at_point ring a (indicator x) m ≡ power_weight ring a (without_variables ring m)
      in_part m h = rw (h.1, only_same x, without_drop ring m) (mul-one (power_at (drop ring.variables m) a))

      in_rest : (m : List ℕ) → VariablesBelow ring x m → at_point ring a (indicator x) m ≡ 0
      in_rest m h = rw (only_other x (take ring.variables m)
          (λ e. compared_not_self (order_of (variables_ring ring)) x (subst (λ k. compared (order_of (variables_ring ring)) k x ≡ Less) (sym e) h.1)))
          (mul-zero (power_at (drop ring.variables m) a))

  -- nothing stands above x
  above_value : (x y : List ℕ) (f : List Term) → IsOfRing ring f → Each (VariablesBelow ring x) (rest_of ring x f)
      → compared (order_of (variables_ring ring)) x y ≡ Less → total (at_point ring a (indicator y)) f ≡ 0
  above_value x y f of_ring rest o =
      let i = part_total ring (at_point ring a (indicator y)) x f in
      let p : total (at_point ring a (indicator y)) (part_at ring x f) ≡ total (λ m. 0) (part_at ring x f) =
      total_same (HasVariables ring x) (at_point ring a (indicator y)) (λ m. 0) (part_at ring x f) (part_each ring x f of_ring) in_part in
      let q : total (at_point ring a (indicator y)) (rest_of ring x f) ≡ total (λ m. 0) (rest_of ring x f) =
      total_same (VariablesBelow ring x) (at_point ring a (indicator y)) (λ m. 0) (rest_of ring x f) rest in_rest in
      omega (arith, i, p, q, total_none (part_at ring x f), total_none (rest_of ring x f))
    where
      in_part : (m : List ℕ) → HasVariables ring x m → at_point ring a (indicator y) m ≡ 0
      in_part m h = rw (
        h.1,
        only_other y x
            (λ e. compared_not_self (order_of (variables_ring ring)) x (subst (λ k. compared (order_of (variables_ring ring)) x k ≡ Less) e o)),
      )
          (mul-zero (power_at (drop ring.variables m) a))

      in_rest : (m : List ℕ) → VariablesBelow ring x m → at_point ring a (indicator y) m ≡ 0
      in_rest m h =
          let l : compared (order_of (variables_ring ring)) (take ring.variables m) y
          ≡ Less = compared_trans (order_of (variables_ring ring)) (take ring.variables m) x y h.1 o in
          rw (only_other y (take ring.variables m)
          (λ e. compared_not_self (order_of (variables_ring ring)) y (subst (λ k. compared (order_of (variables_ring ring)) k y ≡ Less) (sym e) l)))
          (mul-zero (power_at (drop ring.variables m) a))

  -- the lead of what f becomes is one
  pub lead_once : (x y : List ℕ) (f : List Term) → IsSpecialLead x f → IsSpecialLead y f → x ≡ y
  lead_once x y f h k = by_order (compared (order_of (variables_ring ring)) x y) refl
    where
      by_order : (o : Ordering) → compared (order_of (variables_ring ring)) x y ≡ o → x ≡ y
      by_order Equal e = compared_equal (order_of (variables_ring ring)) x y (h.long ∙ sym k.long) e
      by_order Less e = absurd (k.there (h.above y k.long e))
      by_order Greater e = absurd (h.there (k.above x h.long (compared_back (order_of (variables_ring ring)) x y e)))

  -- the lead of a polynomial that comes to the same
  pub lead_of_form : (h f : List Term) → IsCanonical (variables_ring ring) h → (h ≡ [] → ⊥)
      → ((w : List ℕ → ℕ) → total w h % ring.modulus ≡ total (at_point ring a w) f % ring.modulus) → IsSpecialLead (leading_monomial h) f
  lead_of_form [] f k some e = absurd (some refl)
  lead_of_form (y ∷ h) f k some e = record {
    long = k.2 ∙ add-zero ring.variables;
    there = λ z. lead_not_zero (variables_ring ring) y h k (e (indicator y.exponents) ∙ z);
    above = λ x l o. sym (e (indicator x)) ∙ (ap (λ n. n % ring.modulus) (above_zero (variables_ring ring) (y ∷ h) x k o) ∙ zero-mod ring.modulus);
  }

  pub form_not_zero : (x : List ℕ) (h f : List Term) → ((w : List ℕ → ℕ) → total w h % ring.modulus ≡ total (at_point ring a w) f % ring.modulus)
      → IsSpecialLead x f → h ≡ [] → ⊥
  form_not_zero x h f e k z = k.there (sym (e (indicator x)) ∙ (ap (λ l. total (indicator x) l % ring.modulus) z ∙ zero-mod ring.modulus))

  -- a lead coefficient that is not 0 at the point makes the lead
  pub lead_by_value : (c : ℕ) (m : List ℕ) (f : List Term) → IsCanonical ring (term c m ∷ f) → (value_at ring a (lc_x ring (term c m ∷ f)) ≡ 0 → ⊥)
      → IsSpecialLead (take ring.variables m) (term c m ∷ f)
  lead_by_value c m f k nz =
      let of_ring : IsOfRing ring (term c m ∷ f) = canonical_of_ring ring (term c m ∷ f) k in
      let rest = rest_of_head ring (term c m) f k in
      record {
        long = variables_length ring m k.2;
        there = λ z. nz (ap (λ n. n % ring.modulus) (sym (lead_value (take ring.variables m) (term c m ∷ f) of_ring rest)) ∙ z);
        above = λ y l o. ap (λ n. n % ring.modulus) (above_value (take ring.variables m) y (term c m ∷ f) of_ring rest o) ∙ zero-mod ring.modulus;
      }

  pub lead_by_coefficient : (f : List Term) → IsCanonical ring f → (value_at ring a (lc_x ring f) ≡ 0 → ⊥) → IsSpecialLead (lead_x ring f) f
  lead_by_coefficient [] k nz = absurd (nz (zero-mod ring.modulus))
  lead_by_coefficient (y ∷ f) k nz = lead_by_value y.coefficient y.exponents f k nz
