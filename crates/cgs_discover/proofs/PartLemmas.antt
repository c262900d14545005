-- Parts of problems: copied points, y*T - 1 by its parts, and when a refutation is valid.
use Rattle.std.proofs.Common.{ℕ, suc, ◌≡◌, ◌+◌, ◌-◌, ◌<◌, ◌≤◌, inl, false, List, [], ◌∷◌, ◌++◌, length, map, take, replicate, refl, sym, ap, ◌∙◌}
use Rattle.std.proofs.Common.{subst, arith, add-one, bytes_eq}
use Rattle.std.specs.List.{AllByRecursion, IsDistinct, list_any}
use Rattle.std.proofs.Math.Nat.{mod-eq_of_lt}
use Rattle.std.proofs.lemmas.List.{take_all, take-replicate}
use Rattle.std.proofs.lemmas.List.Sums.{sum_by-cons}
use Rattle.cgs_list.proofs.ListLemmas.{all_push, all_weaker}
use Rattle.cgs_exps.specs.Monomial.{degree, product}
use Rattle.cgs_exps.proofs.MonomialLemmas.{one_product}
use Rattle.cgs_poly.specs.Ring.{Ring}
use Rattle.cgs_poly.specs.Polynomial.{Term, term, places, IsRing, IsOfRing, IsPoly, HasLowDegrees, canonical}
use Rattle.cgs_poly.specs.Product.{multiple}
use Rattle.cgs_poly.specs.Parameters.{HasNoVariables, IsCondition}
use Rattle.cgs_poly.specs.Recast.{recast, CanRecast}
use Rattle.cgs_poly.proofs.RingLemmas.{ring_positive, places_few}
use Rattle.cgs_poly.proofs.CanonicalLemmas.{canonical_of_ring, canonical_poly}
use Rattle.cgs_poly.proofs.RecastLemmas.{recast_poly}
use Rattle.cgs_poly.proofs.OneLemmas.{zero_places, one_poly}
use Rattle.cgs_point.specs.Points.{reduced_modulo, IsPoint}
use Rattle.cgs_problem.specs.declared.problem.Problem.{Problem}
use Rattle.cgs_problem.specs.Problems.{IsThesis, IsProblem, greatest_thesis_degree}
use Rattle.cgs_problem.proofs.NameLemmas.{new_name}
use Rattle.cgs_discover.specs.Refutation.{with_variable, lifted, y, y_thesis_terms, y_thesis, y_name, most_variables, refuted}
use Rattle.cgs_discover.proofs.LiftLemmas.{lifted_first, y_terms_of_ring}
use Rattle.cgs_discover.proofs.ZeroLemmas.{all_mapped}

-- points

reduced_modulo_same : (p : ℕ) (ns : List ℕ) → AllByRecursion (λ n. n < p) ns → reduced_modulo p ns ≡ ns
reduced_modulo_same p [] h = refl
reduced_modulo_same p (n ∷ ns) h = cc (mod-eq_of_lt h.0, reduced_modulo_same p ns h.1)

pub copied_point : (p i : ℕ) (copy given values point : List ℕ) → copy ≡ reduced_modulo p given → given ≡ values → values ≡ take i point
    → length point ≤ i → AllByRecursion (λ n. n < p) point → copy ≡ point
copied_point p i copy given values point c g v l h = c ∙ (ap (reduced_modulo p) (g ∙ (v ∙ take_all i point l)) ∙ reduced_modulo_same p point h)

-- the polynomial -1
pub minus_one_is : (ring : Ring) (d n : ℕ) → IsRing ring → d ≡ ring.modulus - 1 → n ≡ places ring
    → term d (take n (replicate {A = ℕ} 17 0)) ∷ [] ≡ term (ring.modulus - 1) (replicate (places ring) 0) ∷ []
minus_one_is ring d n r e q = ap (λ m. term d m ∷ []) (zero_places ring n r q) ∙ ap (λ k. term k (replicate (places ring) 0) ∷ []) e

-- y*T - 1

y_front : (ring wide : Ring) (n : ℕ) → IsRing wide → wide ≡ with_variable ring → n ≡ places wide → take n (1 ∷ replicate {A = ℕ} 16 0) ≡ y ring
y_front ring wide n v w q =
    let e : n ≡ suc (places ring) = q ∙ (ap places w ∙ omega arith) in
    let few : places ring ≤ 16 = omega (arith, places_few wide v, q, e) in
    rw e (ap (λ m. 1 ∷ m) (take-replicate (places ring) 16 0 few))

pub difference_is : (ring wide : Ring) (T start lift f : List Term) (c n : ℕ) → IsRing wide → wide ≡ with_variable ring → c ≡ wide.modulus - 1 → n ≡ places wide
    → start ≡ term (wide.modulus - 1) (replicate (places wide) 0) ∷ [] → lift ≡ recast ring wide T
    → f ≡ canonical wide (start ++ multiple (wide.modulus - c) (take n (1 ∷ replicate {A = ℕ} 16 0)) lift) → f ≡ y_thesis ring T
difference_is ring wide T start lift f c n v w e q s l h =
    let once : wide.modulus - c ≡ 1 = let pos = ring_positive wide v in omega arith in
    let front : take n (1 ∷ replicate {A = ℕ} 16 0) ≡ y ring = y_front ring wide n v w q in
    let made : f ≡ canonical wide (term (wide.modulus - 1) (replicate (places wide) 0) ∷ multiple 1 (y ring) (recast ring wide T)) =
    h ∙ rw (once, front, s, l) refl in
    made ∙ ap (λ (k : Ring). canonical k (term (k.modulus - 1) (replicate (places k) 0) ∷ multiple 1 (y ring) (recast ring k T))) w

-- its degrees
y_multiple_low : (ring : Ring) (c : ℕ) (T : List Term) → IsOfRing ring T → AllByRecursion (λ z. degree z.exponents ≤ greatest_thesis_degree) T
    → HasLowDegrees (multiple c (y ring) (lifted ring T))
y_multiple_low ring c [] r h = tt
y_multiple_low ring c (z ∷ T) r h =
    let m : List ℕ = z.exponents in
    let more : degree (product (y ring) (0 ∷ m)) ≡ 1 + degree m = ap (λ k. degree (1 ∷ k)) (one_product (places ring) m r.0) ∙ sum_by-cons (λ k. k) 1 m in
    let low : degree m ≤ 32766 = h.0 in
    subst (λ g. HasLowDegrees (multiple c (y ring) g)) (sym (lifted_first ring z T)) (omega (arith, more), y_multiple_low ring c T r.1 h.1)

pub difference_low : (ring wide : Ring) (T lift : List Term) (c n : ℕ) → IsRing wide → wide ≡ with_variable ring → n ≡ places wide → lift ≡ recast ring wide T
    → IsThesis ring T → HasLowDegrees (multiple c (take n (1 ∷ replicate {A = ℕ} 16 0)) lift)
difference_low ring wide T lift c n v w q l h =
    rw (y_front ring wide n v w q, l) (rw w (y_multiple_low ring c T (canonical_of_ring ring T h.poly.canonical) h.low))

-- the problems are valid

can_lift : (ring : Ring) (f : List Term) → CanRecast ring (with_variable ring) f
can_lift ring f = record { modulus = refl; kind = refl; parameters = refl; variables = inl refl }

lifted_free : (ring : Ring) (f : List Term) → HasNoVariables ring f → HasNoVariables (with_variable ring) (lifted ring f)
lifted_free ring [] h = tt
lifted_free ring (z ∷ f) h =
    let free : take (ring.variables + 1) (0 ∷ z.exponents) ≡ replicate (ring.variables + 1) 0 = rw add-one (ap (λ k. 0 ∷ k) h.0) in
    subst (HasNoVariables (with_variable ring)) (sym (lifted_first ring z f)) (free, lifted_free ring f h.1)

lifted_poly : (ring : Ring) (f : List Term) → IsPoly ring f → IsPoly (with_variable ring) (lifted ring f)
lifted_poly ring f h = recast_poly ring (with_variable ring) f (can_lift ring f) h

lifted_condition : (ring : Ring) (f : List Term) → IsCondition ring f → IsCondition (with_variable ring) (lifted ring f)
lifted_condition ring f h = record { poly = lifted_poly ring f h.poly; free = lifted_free ring f h.free }

wide_ring : (ring : Ring) → IsRing ring → ring.variables ≤ 8 → IsRing (with_variable ring)
wide_ring ring r l = record { modulus = r.modulus; some = omega arith; variables = omega arith; parameters = r.parameters }

pub refuted_valid : (problem : Problem) (T : List Term) → IsProblem problem → problem.ring.variables ≤ most_variables
    → list_any (bytes_eq y_name) problem.names ≡ false → IsThesis problem.ring T → IsProblem (refuted problem T)
refuted_valid problem T h l n t =
    let ring : Ring = problem.ring in
    let wide : Ring = with_variable ring in
    let w : IsRing wide = wide_ring ring h.ring l in
    let of_ring = canonical_of_ring ring T t.poly.canonical in
    let last : IsPoly wide (y_thesis ring T) =
    canonical_poly wide (y_thesis_terms ring T) (ring_positive ring h.ring) (y_terms_of_ring ring T of_ring)
    ((one_poly wide w).low.0, y_multiple_low ring 1 T of_ring t.low) in
    record {
      ring = w;
      named = omega (arith, h.named);
      distinct = (new_name (IsDistinct bytes_eq (y_name ∷ problem.names)) y_name problem.names n (λ d. d, λ d. d)).0 h.distinct;
      zero = all_mapped (IsCondition ring) (IsCondition wide) (lifted ring) problem.zero (lifted_condition ring) h.zero;
      nonzero = all_mapped (IsCondition ring) (IsCondition wide) (lifted ring) problem.nonzero (lifted_condition ring) h.nonzero;
      polys = all_push (IsPoly wide) (map (lifted ring) problem.polys) (y_thesis ring T)
          (all_mapped (IsPoly ring) (IsPoly wide) (lifted ring) problem.polys (lifted_poly ring) h.polys) last;
      thesis = tt;
      points = all_weaker (IsPoint ring) (IsPoint wide) problem.points h.points (λ p k. record { places = k.places; below = k.below });
    }
