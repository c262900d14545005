-- Conditions and polynomials as a program keeps them stay so in each list that is made from them.
use Rattle.std.proofs.Common.{ℕ, ◌≡◌, ◌+◌, Bool, true, false, cond, not, ◌&&◌, Some, List, [], ◌∷◌, ◌++◌, map, filter, take, refl, sym, ap, ◌∙◌}
use Rattle.std.specs.Prelude.{slice_get}
use Rattle.std.specs.List.{AllByRecursion}
use Rattle.cgs_list.proofs.ListLemmas.{all_weaker}
use Rattle.cgs_poly.specs.Ring.{Ring}
use Rattle.cgs_poly.specs.Polynomial.{Term, IsRing, IsPoly, ArePolys}
use Rattle.cgs_poly.specs.Parameters.{IsCondition, has_no_variables, HasNoVariables, lc_x}
use Rattle.cgs_poly.proofs.ParameterLemmas.{lc_x_poly, lc_x_free}
use Rattle.cgs_algebra.specs.Stability.{parametric_members, other_members}
use Rattle.cgs_algebra.proofs.DicksonLemmas.{parametric_each, other_each}
use Rattle.cgs_entry.specs.Conditions.{with_member, with_members}
use Rattle.cgs_entry.proofs.AddingLemmas.{condition_added}
use Rattle.cgs_dickson.specs.Dickson.{is_constant, minimal_dickson, has_minimal_lead_x, has_least_lead, coefficient_list}
use Rattle.cgs_dickson.proofs.KeptLemmas.{filter_passed, filter_failed}
use Rattle.cgs_split.proofs.NodeRunLemmas.{other_filter}

pub filter_each : (P : List Term → Type 0) (p : List Term → Bool) (L : List (List Term)) → AllByRecursion P L → AllByRecursion P (filter p L)
filter_each P p [] h = tt
filter_each P p (f ∷ L) h = by_test (p f) (filter_each P p L h.1)
  where
    by_test : (b : Bool) → AllByRecursion P (filter p L) → AllByRecursion P (cond b (f ∷ filter p L) (filter p L))
    by_test true ih = (h.0, ih)
    by_test false ih = ih

module _ (ring : Ring) (r : IsRing ring) where
  pub conditions_polys : (L : List (List Term)) → AllByRecursion (IsCondition ring) L → ArePolys ring L
  conditions_polys L h = all_weaker (IsCondition ring) (IsPoly ring) L h (λ f p. p.poly)

  pub parametric_conditions : (G : List (List Term)) → ArePolys ring G → AllByRecursion (IsCondition ring) (parametric_members ring G)
  parametric_conditions G h = all_weaker (λ g. IsPoly ring g × HasNoVariables ring g) (IsCondition ring) (parametric_members ring G)
      (parametric_each ring (IsPoly ring) G h) (λ g p. record { poly = p.0; free = p.1 })

  pub conditions_with : (L : List (List Term)) (f : List Term) → AllByRecursion (IsCondition ring) L → IsCondition ring f
      → AllByRecursion (IsCondition ring) (with_member ring L f)
  conditions_with L f h k = condition_added ring r L f h k

  pub conditions_with_all : (L K : List (List Term)) → AllByRecursion (IsCondition ring) L → AllByRecursion (IsCondition ring) K
      → AllByRecursion (IsCondition ring) (with_members ring L K)
  conditions_with_all L [] h k = h
  conditions_with_all L (f ∷ K) h k = conditions_with_all (with_member ring L f) K (conditions_with L f h k.0) k.1

  pub dickson_polys : (G : List (List Term)) → ArePolys ring G → ArePolys ring (minimal_dickson ring G)
  dickson_polys G h = filter_each (IsPoly ring) (λ g. has_minimal_lead_x ring G g && has_least_lead ring G g) G h

  leading_conditions : (M : List (List Term)) → ArePolys ring M → AllByRecursion (IsCondition ring) (map (lc_x ring) M)
  leading_conditions [] h = tt
  leading_conditions (f ∷ M) h = (record { poly = lc_x_poly ring f h.0; free = lc_x_free ring f }, leading_conditions M h.1)

  pub coefficient_conditions : (M : List (List Term)) → ArePolys ring M → AllByRecursion (IsCondition ring) (coefficient_list ring M)
  coefficient_conditions M h =
      conditions_with_all [] (filter (λ c. not (is_constant c)) (map (lc_x ring) M)) tt
      (filter_each (IsCondition ring) (λ c. not (is_constant c)) (map (lc_x ring) M) (leading_conditions M h))

  pub other_polys : (G : List (List Term)) → ArePolys ring G → ArePolys ring (other_members ring G)
  other_polys G h = other_each ring (IsPoly ring) G h

-- one member more of a part

parametric_filter : (ring : Ring) (G : List (List Term)) → parametric_members ring G ≡ filter (has_no_variables ring) G
parametric_filter ring [] = refl
parametric_filter ring (g ∷ G) = step (has_no_variables ring g) (parametric_filter ring G)
  where
    step : (b : Bool) → parametric_members ring G ≡ filter (has_no_variables ring) G
        → cond b (g ∷ parametric_members ring G) (parametric_members ring G)
        ≡ cond b (g ∷ filter (has_no_variables ring) G) (filter (has_no_variables ring) G)
    step true ih = ap (λ L. g ∷ L) ih
    step false ih = ih

module _ (ring : Ring) (L : List (List Term)) (i : ℕ) (g : List Term) (e : slice_get L i ≡ Some g) where
  pub parametric_next : has_no_variables ring g ≡ true → parametric_members ring (take i L) ++ g ∷ [] ≡ parametric_members ring (take (i + 1) L)
  parametric_next t = ap (λ K. K ++ g ∷ []) (parametric_filter ring (take i L))
      ∙ (filter_passed (has_no_variables ring) L i g e t ∙ sym (parametric_filter ring (take (i + 1) L)))

  pub parametric_skip : has_no_variables ring g ≡ false → parametric_members ring (take i L) ≡ parametric_members ring (take (i + 1) L)
  parametric_skip t = parametric_filter ring (take i L) ∙ (filter_failed (has_no_variables ring) L i g e t ∙ sym (parametric_filter ring (take (i + 1) L)))

  pub other_next : has_no_variables ring g ≡ false → other_members ring (take i L) ++ g ∷ [] ≡ other_members ring (take (i + 1) L)
  other_next t = ap (λ K. K ++ g ∷ []) (other_filter ring (take i L))
      ∙ (filter_passed (λ g. not (has_no_variables ring g)) L i g e (ap not t) ∙ sym (other_filter ring (take (i + 1) L)))

  pub other_skip : has_no_variables ring g ≡ true → other_members ring (take i L) ≡ other_members ring (take (i + 1) L)
  other_skip t = other_filter ring (take i L)
      ∙ (filter_failed (λ g. not (has_no_variables ring g)) L i g e (ap not t) ∙ sym (other_filter ring (take (i + 1) L)))
