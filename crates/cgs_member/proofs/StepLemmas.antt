-- The step by a member of the basis: what was paid, and how it ends.
use Rattle.std.proofs.Common.{Err, ℕ, ◌≡◌, ◌+◌, ◌-◌, ◌*◌, ◌<◌, ◌≤◌, Bool, true, false, ◌||◌, List, [], ◌∷◌, ◌++◌, length, refl, sym, ap, ◌∙◌, subst, arith}
use Rattle.std.proofs.lemmas.Bool.{le-ltb}
use Rattle.cgs_list.proofs.ListLemmas.{all_parts}
use Rattle.cgs_exps.specs.Monomial.{degree}
use Rattle.cgs_exps.proofs.MonomialLemmas.{degree_product}
use Rattle.cgs_poly.specs.Ring.{Ring}
use Rattle.cgs_poly.specs.Polynomial.{Term, greatest_degree, IsOfRing, HasLowDegrees, canonical}
use Rattle.cgs_poly.specs.Product.{multiple, all_products}
use Rattle.cgs_poly.specs.Parameters.{lead_x, lc_x, part_at}
use Rattle.cgs_poly.specs.declared.fault.PolyFault.{PolyFault}
use Rattle.cgs_poly.specs.declared.fault.PolyFault.TheVariants as faults
use Rattle.cgs_divide.specs.DivisionRun.{is_too_high}
use Rattle.cgs_divide.proofs.StepLemmas.{charged_little, charged_enough, high_unless_low, low_not_high}
use Rattle.cgs_divide.proofs.QuotientLemmas.{not_too_high}
use Rattle.cgs_divide.specs.Ending.{Ending, ended, out_of_budget, out_of_degree, EndsAs}
use Rattle.cgs_divide.specs.Stop.{stop_of}
use Rattle.cgs_member.specs.ReductionRun.{parts, others_at, moving, lead_quotient, cancelled, cancelling_cost, is_cancelling_too_high, cancelling}

-- a fault of polynomials, where the one of degrees ends the run
pub by_fault : {A : Type 0} (run : Ending A) (units : ℕ) (fault : PolyFault) → (fault ≡ faults.Degree → run ≡ out_of_degree units)
    → EndsAs run units (Err (stop_of fault))
by_fault run units faults.Degree h = h refl
by_fault run units faults.OutOfMemory h = tt

pub cancelling_paid : (ring : Ring) (f b r : List Term) (i j k l n units left : ℕ) → i ≡ length (lc_x ring b) → j ≡ length f → k ≡ length (lc_x ring f)
    → l ≡ length b → n ≡ length r → (i * j + k * l + i * n ≤ units) × (left ≡ units - (i * j + k * l + i * n))
    → (cancelling_cost ring f b r ≤ units) × (left ≡ units - cancelling_cost ring f b r)
cancelling_paid ring f b r i j k l n units left ei ej ek el en h =
    let e : i * j + k * l + i * n ≡ cancelling_cost ring f b r = cc (ei, ej, ek, el, en) in
    (subst (λ q. q ≤ units) e h.0, h.1 ∙ ap (λ q. units - q) e)

pub cancelling_unpaid : (ring : Ring) (f b r : List Term) (i j k l n units left : ℕ) → i ≡ length (lc_x ring b) → j ≡ length f → k ≡ length (lc_x ring f)
    → l ≡ length b → n ≡ length r → (units < i * j + k * l + i * n) × (left ≡ units) → cancelling ring b units f r ≡ out_of_budget left
cancelling_unpaid ring f b r i j k l n units left ei ej ek el en h =
    let e : i * j + k * l + i * n ≡ cancelling_cost ring f b r = cc (ei, ej, ek, el, en) in
    charged_little (cancelling_cost ring f b r) units _ (subst (λ q. units < q) e h.0) ∙ ap out_of_budget (sym h.1)

-- the leading part, moved

pub moving_unpaid : (ring : Ring) (f r : List Term) (end units left : ℕ) → end ≡ length (lc_x ring f) → (units < end) × (left ≡ units)
    → moving ring units f r ≡ out_of_budget left
moving_unpaid ring f r end units left e h =
    charged_little (length (lc_x ring f)) units _ (subst (λ n. units < n) e h.0) ∙ ap out_of_budget (sym h.1)

pub moving_done : (ring : Ring) (f r g s : List Term) (end units left : ℕ) → end ≡ length (lc_x ring f) → (end ≤ units) × (left ≡ units - end)
    → g ≡ others_at ring (lead_x ring f) f → s ≡ canonical ring (r ++ part_at ring (lead_x ring f) f) → moving ring units f r ≡ ended (parts g s) left
moving_done ring f r g s end units left e h eg es =
    charged_enough (length (lc_x ring f)) units _ (subst (λ n. n ≤ units) e h.0)
    ∙ (ap (ended (parts (others_at ring (lead_x ring f) f) (canonical ring (r ++ part_at ring (lead_x ring f) f))))
    (ap (λ n. units - n) (sym e) ∙ sym h.1) ∙ rw (eg, es) refl)

either_high : (f g : List Term) → ¬ (HasLowDegrees f × HasLowDegrees g) → (is_too_high f || is_too_high g) ≡ true
either_high f g n = by_first (is_too_high f) refl
  where
    by_first : (b : Bool) → is_too_high f ≡ b → (b || is_too_high g) ≡ true
    by_first true e = refl
    by_first false e = high_unless_low g (λ h. n (not_too_high f e, h))

module _ (ring : Ring) (f b r : List Term) (units left : ℕ) (paid : cancelling_cost ring f b r ≤ units) (is : left ≡ units - cancelling_cost ring f b r) where
  abbrev A : List Term
  A = all_products (lc_x ring b) f

  abbrev B : List Term
  B = all_products (multiple 1 (lead_quotient ring f b) (lc_x ring f)) b

  abbrev C : List Term
  C = all_products (lc_x ring b) r

  high : is_cancelling_too_high ring f b r ≡ true → cancelling ring b units f r ≡ out_of_degree left
  high h = rw (le-ltb units (cancelling_cost ring f b r) paid, h, is) refl

  pub cancelling_high_first : ¬ (HasLowDegrees A × HasLowDegrees B) → cancelling ring b units f r ≡ out_of_degree left
  cancelling_high_first n = high (ap (λ t. t || is_too_high C) (either_high A B n))

  pub cancelling_high_last : HasLowDegrees A → HasLowDegrees B → ¬ HasLowDegrees C → cancelling ring b units f r ≡ out_of_degree left
  cancelling_high_last h k n = high (rw (low_not_high A h, low_not_high B k, high_unless_low C n) refl)

  pub cancelling_done : HasLowDegrees A → HasLowDegrees B → HasLowDegrees C → (g s : List Term) → g ≡ cancelled ring f b → s ≡ canonical ring C
      → cancelling ring b units f r ≡ ended (parts g s) left
  cancelling_done h k l g s eg es =
      let low : is_cancelling_too_high ring f b r ≡ false = rw (low_not_high A h, low_not_high B k, low_not_high C l) refl in
      rw (le-ltb units (cancelling_cost ring f b r) paid, low, is, eg, es) refl

-- where a product is low, so is its first factor, if the second is not 0
pub low_first_factor : (ring : Ring) (f g : List Term) → IsOfRing ring f → IsOfRing ring g → 0 < length g → HasLowDegrees (all_products f g) → HasLowDegrees f
low_first_factor ring f [] h l some k = absurd (omega arith)
low_first_factor ring [] (z ∷ g) h l some k = tt
low_first_factor ring (x ∷ f) (z ∷ g) h l some k =
    let p = all_parts (λ (y : Term). degree y.exponents ≤ greatest_degree) (multiple x.coefficient x.exponents (z ∷ g)) (all_products f (z ∷ g)) k in
    let d = degree_product x.exponents z.exponents (h.0 ∙ sym l.0) in
    (omega (arith, d, p.0.0), low_first_factor ring f (z ∷ g) h.1 l some p.1)
