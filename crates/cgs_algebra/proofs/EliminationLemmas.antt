-- The members of an ideal in the parameters alone vanish where those of a Gröbner basis do (Cox, Little, O'Shea, chapter 3, section 1, theorem 2).
use Rattle.std.proofs.Common.{ℕ, suc, zero, ◌≡◌, ◌+◌, ◌%◌, ◌<◌, Bool, true, false, cond, List, [], ◌∷◌, ◌++◌, length, get_or, take, replicate, refl, sym, ap}
use Rattle.std.proofs.Common.{◌∙◌, subst, arith, eqb}
use Rattle.std.proofs.Math.Nat.{zero-mod, mul-one}
use Rattle.std.proofs.lemmas.List.{length-replicate}
use Rattle.std.specs.List.{AllByRecursion}
use Rattle.std.specs.declared.cmp.Ordering.{Ordering}
use Rattle.std.specs.declared.cmp.Ordering.TheVariants.{Less, Equal, Greater}
use Rattle.cgs_exps.specs.Monomial.{product, divides}
use Rattle.cgs_exps.proofs.MonomialLemmas.{product_comm, divides_product, divides_zeros, take_divides, one_product}
use Rattle.cgs_order.specs.TermOrder.{compared}
use Rattle.cgs_order.proofs.OrderLemmas.{compared_induction}
use Rattle.cgs_poly.specs.Ring.{Ring}
use Rattle.cgs_poly.specs.Polynomial.{Term, term, places, order_of, total, StartsBelow, IsCanonical, kept, inserted, canonical}
use Rattle.cgs_poly.specs.Product.{multiple, leading_monomial, leading_coefficient}
use Rattle.cgs_poly.specs.Parameters.{has_no_variables, HasNoVariables, value_at}
use Rattle.cgs_poly.proofs.ParameterLemmas.{free_tested}
use Rattle.cgs_poly.proofs.SumLemmas.{Alike}
use Rattle.cgs_poly.proofs.CanonicalLemmas.{canonical_of_ring, is_canonical, canonical_alike, canonical_starts}
use Rattle.cgs_poly.proofs.ProductOrderLemmas.{take_product}
use Rattle.cgs_poly.proofs.SpecialisedLemmas.{at_point, variables_length}
use Rattle.cgs_algebra.specs.Combination.{IsMember}
use Rattle.cgs_algebra.specs.Groebner.{AreMonic, IsGroebnerBasis}
use Rattle.cgs_algebra.specs.Specialisation.{IsParametric, AllVanish}
use Rattle.cgs_algebra.specs.Stability.{parametric_members}
use Rattle.cgs_algebra.proofs.MemberLemmas.{same_member, sum_member, multiple_member}
use Rattle.cgs_algebra.proofs.FieldLemmas.{IsOpposite, opposite_of_one}
use Rattle.cgs_algebra.proofs.ReductionLemmas.{cofactor, cofactor_length, cofactor_product, remainder, remainder_of_ring, remainder_below, remainder_alike}
use Rattle.cgs_algebra.proofs.PointLemmas.{power_weight}
use Rattle.cgs_algebra.proofs.VanishingLemmas.{Vanishes, multiple_vanishes, vanishing_added, free_vanishes, free_by_lead}
use Rattle.cgs_algebra.proofs.PlaceLemmas.{canonical_at, monic_at, member_at, lead_place}

-- a place of a list has its member in one of the two parts

pub parametric_at : (ring : Ring) (P : List Term → Type 0) (G : List (List Term)) → AllByRecursion P (parametric_members ring G) → (i : ℕ) → i < length G
    → HasNoVariables ring (get_or G i []) → P (get_or G i [])
parametric_at ring P [] h i l n = absurd (omega arith)
parametric_at ring P (g ∷ G) h i l n = by_test (has_no_variables ring g) refl h i l n (λ k. parametric_at ring P G k)
  where
    by_test : (b : Bool) → has_no_variables ring g ≡ b → AllByRecursion P (cond b (g ∷ parametric_members ring G) (parametric_members ring G)) → (i : ℕ)
        → i < suc (length G)
        → HasNoVariables ring (get_or (g ∷ G) i [])
        → (AllByRecursion P (parametric_members ring G) → (i : ℕ) → i < length G → HasNoVariables ring (get_or G i []) → P (get_or G i []))
        → P (get_or (g ∷ G) i [])
    by_test true e h zero l n ih = h.0
    by_test true e h (suc i) l n ih = ih h.1 i (omega arith) n
    by_test false e h zero l n ih = absurd (cc (e, free_tested ring g n))
    by_test false e h (suc i) l n ih = ih h i (omega arith) n

-- a canonical form has no variables if its terms have none

kept_free : (ring : Ring) (c : ℕ) (m : List ℕ) (f : List Term) → take ring.variables m ≡ replicate ring.variables 0 → HasNoVariables ring f
    → HasNoVariables ring (kept ring c m f)
kept_free ring c m f l h = step (eqb (c % ring.modulus) 0)
  where
    step : (b : Bool) → HasNoVariables ring (cond b f (term (c % ring.modulus) m ∷ f))
    step true = h
    step false = (l, h)

inserted_free : (ring : Ring) (c : ℕ) (m : List ℕ) (f : List Term) → take ring.variables m ≡ replicate ring.variables 0 → HasNoVariables ring f
    → HasNoVariables ring (inserted ring c m f)
inserted_free ring c m [] l h = kept_free ring c m [] l tt
inserted_free ring c m (y ∷ f) l h = step (compared (order_of ring) m y.exponents) (inserted_free ring c m f l h.1)
  where
    step : (o : Ordering) → HasNoVariables ring (inserted ring c m f)
        → HasNoVariables ring (elim o [ Less ↦ y ∷ inserted ring c m f | Equal ↦ kept ring (c + y.coefficient) m f | Greater ↦ kept ring c m (y ∷ f) ])
    step Less ih = (h.0, ih)
    step Equal ih = kept_free ring (c + y.coefficient) m f l h.1
    step Greater ih = kept_free ring c m (y ∷ f) l h

pub canonical_free : (ring : Ring) (f : List Term) → HasNoVariables ring f → HasNoVariables ring (canonical ring f)
canonical_free ring [] h = tt
canonical_free ring (y ∷ f) h = inserted_free ring y.coefficient y.exponents (canonical ring f) h.0 (canonical_free ring f h.1)

append_free : (ring : Ring) (f g : List Term) → HasNoVariables ring f → HasNoVariables ring g → HasNoVariables ring (f ++ g)
append_free ring [] g h k = k
append_free ring (y ∷ f) g h k = (h.0, append_free ring f g h.1 k)

multiple_free : (ring : Ring) (c : ℕ) (t : List ℕ) (f : List Term) → take ring.variables t ≡ replicate ring.variables 0 → HasNoVariables ring f
    → HasNoVariables ring (multiple c t f)
multiple_free ring c t [] l h = tt
multiple_free ring c t (y ∷ f) l h =
    let z : List ℕ = replicate {A = ℕ} ring.variables 0 in (
      take_product ring.variables t y.exponents
          ∙ (ap (λ k. product k (take ring.variables y.exponents)) l
          ∙ (ap (product z) h.0 ∙ one_product ring.variables z (length-replicate {A = ℕ} ring.variables 0))),
      multiple_free ring c t f l h.1,
    )

-- what divides 1 in the variables has none
free_divisor : (ring : Ring) (t m : List ℕ) → length t ≡ places ring → divides t m ≡ true → take ring.variables m ≡ replicate ring.variables 0
    → take ring.variables t ≡ replicate ring.variables 0
free_divisor ring t m l d e =
    divides_zeros ring.variables (take ring.variables t) (variables_length ring t l)
    (subst (λ k. divides (take ring.variables t) k ≡ true) e (take_divides ring.variables t m d))

module _ (ring : Ring) (a : List ℕ) (pos : 0 < ring.modulus) (F G : List (List Term)) (monic : AreMonic ring G) (basis : IsGroebnerBasis ring G F)
    (zeros : AllVanish ring a (parametric_members ring G)) where
  abbrev Claim : List ℕ → Type 0
  Claim m = (c : ℕ) (f : List Term) → IsCanonical ring (term c m ∷ f) → HasNoVariables ring (term c m ∷ f) → IsMember ring F (term c m ∷ f)
      → Vanishes ring a pos (term c m ∷ f)

  abbrev Lower : List ℕ → Type 0
  Lower m = (n : List ℕ) → length n ≡ places ring → compared (order_of ring) n m ≡ Less → Claim n

  -- any terms that come to a polynomial with a lower lead
  lower_vanishes : (m : List ℕ) → Lower m → (f g : List Term) → Alike ring.modulus g f → IsCanonical ring g → StartsBelow ring m g → HasNoVariables ring g
      → IsMember ring F f → Vanishes ring a pos f
  lower_vanishes m lower f [] e k s n h = λ w. sym (e.under (at_point ring a w)) ∙ zero-mod ring.modulus
  lower_vanishes m lower f (y ∷ g) e k s n h = λ w. sym (e.under (at_point ring a w))
      ∙ lower y.exponents k.2 s y.coefficient g k n (same_member ring F pos e h) w

  -- a member of the ideal in the parameters alone with the lead m, where the law holds of all with a lower lead
  module _ (m : List ℕ) (lower : Lower m) (c : ℕ) (f : List Term) (poly : IsCanonical ring (term c m ∷ f)) (free : HasNoVariables ring (term c m ∷ f))
      (inside : IsMember ring F (term c m ∷ f)) where
    abbrev whole : List Term
    whole = term c m ∷ f

    -- less a multiple of a polynomial without variables it has none
    remainder_free : (q : ℕ) (t : List ℕ) (z : Term) (g : List Term) → length t ≡ places ring → product t z.exponents ≡ m → HasNoVariables ring g
        → HasNoVariables ring (f ++ multiple q t g)
    remainder_free q t z g long is free_g =
        let within : divides t m ≡ true = subst (λ n. divides t n ≡ true) (product_comm z.exponents t ∙ is) (divides_product z.exponents t) in
        let free_t : take ring.variables t ≡ replicate ring.variables 0 = free_divisor ring t m long within free.0 in
        append_free ring f (multiple q t g) free.1 (multiple_free ring q t g free_t free_g)

    -- its lead is divided by that of a member g, which has no variables either: less a multiple of g it has a lower lead
    by_member : (g : List Term) → IsCanonical ring g → leading_coefficient g ≡ 1 → IsMember ring F g → divides (leading_monomial g) m ≡ true
        → (HasNoVariables ring g → value_at ring a g ≡ 0) → Vanishes ring a pos whole
    by_member [] k o ig d v = absurd (omega arith)
    by_member (z ∷ g) k o ig d v =
        let cancels : IsOpposite ring.modulus c z.coefficient = subst (λ n. IsOpposite ring.modulus c n) (sym o) (opposite_of_one ring.modulus c pos) in
        let t : List ℕ = cofactor ring (term c m) f z g poly k d cancels in
        let long : length t ≡ places ring = cofactor_length ring (term c m) f z g poly k d cancels in
        let is : product t z.exponents ≡ m = cofactor_product ring (term c m) f z g poly k d cancels in
        let taken : List Term = multiple cancels.factor t (z ∷ g) in
        let rest : List Term = remainder ring (term c m) f z g poly k d cancels in
        let of_ring = remainder_of_ring ring (term c m) f z g poly k d cancels in
        let below = remainder_below ring (term c m) f z g poly k d cancels in
        let same : Alike ring.modulus rest (whole ++ taken) = remainder_alike ring (term c m) f z g poly k d cancels in
        let free_z : take ring.variables z.exponents ≡ replicate ring.variables 0 = free_divisor ring z.exponents m k.2 d free.0 in
        let free_g : HasNoVariables ring (z ∷ g) = free_by_lead ring a pos (z ∷ g) k free_z in
        let free_rest : HasNoVariables ring rest = remainder_free cancels.factor t z g long is free_g.1 in
        let taken_inside : IsMember ring F taken = multiple_member ring F pos cancels.factor t (z ∷ g) long ig in
        let rest_inside : IsMember ring F rest = same_member ring F pos same (sum_member ring F pos whole taken inside taken_inside) in
        let gone : Vanishes ring a pos (z ∷ g) = free_vanishes ring a pos (z ∷ g) free_g (v free_g) in
        let none : Vanishes ring a pos taken = multiple_vanishes ring a pos cancels.factor t (z ∷ g) long (canonical_of_ring ring (z ∷ g) k) gone in
        let low : Vanishes ring a pos rest =
        lower_vanishes m lower rest (canonical ring rest) (canonical_alike ring rest pos of_ring) (is_canonical ring rest pos of_ring)
        (canonical_starts ring m rest pos of_ring below) (canonical_free ring rest free_rest) rest_inside in
        λ w. sym (same.under (at_point ring a w) ∙ vanishing_added ring a pos w whole taken none) ∙ low w

  -- some lead of the basis divides the lead of each member of the ideal
  claim_step : (m : List ℕ) → length m ≡ places ring → Lower m → Claim m
  claim_step m lm lower c f poly free inside =
      let i = lead_place G m (basis.leads (term c m ∷ f) poly inside (λ e. cc)) in
      by_member m lower c f poly free inside (get_or G i.0 []) (canonical_at ring G monic.canonical i.0 i.1) (monic_at G monic.monic i.0 i.1)
      (member_at ring F G basis.members i.0 i.1) i.2
      (parametric_at ring (λ g. value_at ring a g ≡ 0) G zeros i.0 i.1)

  -- a value is a sum of powers
  value_weight : (f : List Term) → total (at_point ring a (λ m. 1)) f ≡ total (power_weight ring a) f
  value_weight [] = refl
  value_weight (y ∷ f) = cc (mul-one (power_weight ring a y.exponents), value_weight f)

  -- a member of the ideal in the parameters alone is 0 where those of the basis are
  pub parametric_vanishes : (f : List Term) → IsParametric ring f → IsMember ring F f → value_at ring a f ≡ 0
  parametric_vanishes [] h m = zero-mod ring.modulus
  parametric_vanishes (y ∷ f) h m =
      ap (λ n. n % ring.modulus) (sym (value_weight (y ∷ f)))
      ∙ compared_induction (order_of ring) Claim claim_step y.exponents h.canonical.2 y.coefficient f h.canonical h.free m (λ m. 1)
