-- What a member of an ideal becomes at a point of the parameters has a lead that is divided by the variables' part of the lead of one of some
-- members, if these have a leading coefficient that is not 0 at the point (Kalkbrener 1997; Kapur, Sun, Wang 2010, section 4). By induction on
-- the lead in the order of the ring; no S-polynomial occurs.
use Rattle.std.proofs.Common.{ℕ, ◌≡◌, ◌<◌, ◌⊎◌, inl, inr, Bool, true, false, List, [], ◌∷◌, ◌++◌, length, get_or, take, refl, sym, ◌∙◌, subst, arith, eqb}
use Rattle.std.proofs.Math.Nat.{zero-mod}
use Rattle.std.proofs.lemmas.Bool.{eqb-true, eqb-false}
use Rattle.std.specs.declared.cmp.Ordering.TheVariants.{Less}
use Rattle.cgs_field.specs.Prime.{IsField}
use Rattle.cgs_exps.specs.Monomial.{divides}
use Rattle.cgs_order.specs.TermOrder.{compared}
use Rattle.cgs_order.proofs.OrderLemmas.{compared_induction}
use Rattle.cgs_poly.specs.Ring.{Ring}
use Rattle.cgs_poly.specs.Polynomial.{Term, term, places, order_of, total, indicator, IsOfRing, StartsBelow, IsCanonical, canonical}
use Rattle.cgs_poly.specs.Product.{multiple, leading_monomial, leading_coefficient}
use Rattle.cgs_poly.specs.Parameters.{lead_x, lc_x, value_at}
use Rattle.cgs_poly.proofs.SumLemmas.{Alike}
use Rattle.cgs_poly.proofs.CanonicalLemmas.{AllBelow, canonical_of_ring, is_canonical, canonical_alike, canonical_starts}
use Rattle.cgs_poly.proofs.SpecialisedLemmas.{at_point}
use Rattle.cgs_algebra.specs.Combination.{IsMember}
use Rattle.cgs_algebra.specs.Groebner.{AreMonic, IsGroebnerBasis, leading_monomial_at}
use Rattle.cgs_algebra.proofs.MemberLemmas.{same_member, sum_member, multiple_member}
use Rattle.cgs_algebra.proofs.FieldLemmas.{IsOpposite, opposite_of_one}
use Rattle.cgs_algebra.proofs.PointLemmas.{power_weight}
use Rattle.cgs_algebra.proofs.ReductionLemmas.{cofactor, cofactor_length, remainder, remainder_of_ring, remainder_below, remainder_alike}
use Rattle.cgs_algebra.proofs.CrossLemmas.{crossed, crossed_of_ring, crossed_below, crossed_special, crossed_member}
use Rattle.cgs_algebra.proofs.SpecialLeadLemmas.{IsSpecialLead, special_lead_alike, special_lead_scaled, lead_once, lead_by_value}
use Rattle.cgs_algebra.proofs.VanishingLemmas.{Vanishes, multiple_vanishes, vanishing_added}
use Rattle.cgs_algebra.proofs.PlaceLemmas.{canonical_at, monic_at, member_at, lead_place}

module _ (ring : Ring) (a : List ℕ) (pos : 0 < ring.modulus) (field : IsField ring.modulus) (B G M : List (List Term)) (monic : AreMonic ring G)
    (basis : IsGroebnerBasis ring G B)
    (m_ok : (j : ℕ) → j < length M → IsCanonical ring (get_or M j [])) (m_in : (j : ℕ) → j < length M → IsMember ring B (get_or M j []))
    (leading : (j : ℕ) → j < length M → ¬ (value_at ring a (lc_x ring (get_or M j [])) ≡ 0)) where
  -- the variables' part of the lead of a member of M divides x
  abbrev Found : List ℕ → Type 0
  Found x = (j : ℕ) × (j < length M) × (divides (lead_x ring (get_or M j [])) x ≡ true)

  -- a member of G is 0 at the point, or what its lead divides is divided in the variables by a lead of M
  abbrev pub IsCovered : ℕ → Type 0
  IsCovered i = Vanishes ring a pos (get_or G i []) ⊎ ((m : List ℕ) → divides (leading_monomial_at G i) m ≡ true → Found (take ring.variables m))

  abbrev Claim : List ℕ → Type 0
  Claim m = (c : ℕ) (f : List Term) → IsCanonical ring (term c m ∷ f) → IsMember ring B (term c m ∷ f) → (x : List ℕ)
      → IsSpecialLead ring a pos x (term c m ∷ f) → Found x

  abbrev Lower : List ℕ → Type 0
  Lower m = (n : List ℕ) → length n ≡ places ring → compared (order_of ring) n m ≡ Less → Claim n

  -- the induction's step down: terms of the ideal, all below m
  descend : (m : List ℕ) → Lower m → (f : List Term) → IsOfRing ring f → AllBelow ring m f → IsMember ring B f → (x : List ℕ) → IsSpecialLead ring a pos x f
      → Found x
  descend m lower f of_ring below inside x h =
      by_form (canonical ring f) (is_canonical ring f pos of_ring) (canonical_starts ring m f pos of_ring below) (canonical_alike ring f pos of_ring)
    where
      by_form : (g : List Term) → IsCanonical ring g → StartsBelow ring m g → Alike ring.modulus g f → Found x
      by_form [] k s e = absurd (h.there (sym (e.under (at_point ring a (indicator x))) ∙ zero-mod ring.modulus))
      by_form (y ∷ g) k s e =
          lower y.exponents k.2 s y.coefficient g k (same_member ring B pos e inside) x
          (special_lead_alike ring a pos x f (y ∷ g) (λ w. sym (e.under (at_point ring a w))) h)

  -- a polynomial of the ideal that comes to one with the lead x, where the law holds of all with a lower lead than m
  module _ (m : List ℕ) (lower : Lower m) (c : ℕ) (f : List Term) (poly : IsCanonical ring (term c m ∷ f)) (inside : IsMember ring B (term c m ∷ f))
      (x : List ℕ) (h : IsSpecialLead ring a pos x (term c m ∷ f)) where
    abbrev whole : List Term
    whole = term c m ∷ f

    -- first case: the lead is divided by that of a member that comes to 0, of which a multiple is taken away
    by_vanishing : (g : List Term) → IsCanonical ring g → leading_coefficient g ≡ 1 → IsMember ring B g → divides (leading_monomial g) m ≡ true
        → Vanishes ring a pos g
        → Found x
    by_vanishing [] k o ig d v = absurd (omega arith)
    by_vanishing (z ∷ g) k o ig d v =
        let cancels : IsOpposite ring.modulus c z.coefficient = subst (λ n. IsOpposite ring.modulus c n) (sym o) (opposite_of_one ring.modulus c pos) in
        let t : List ℕ = cofactor ring (term c m) f z g poly k d cancels in
        let long : length t ≡ places ring = cofactor_length ring (term c m) f z g poly k d cancels in
        let taken : List Term = multiple cancels.factor t (z ∷ g) in
        let rest : List Term = remainder ring (term c m) f z g poly k d cancels in
        let of_ring : IsOfRing ring rest = remainder_of_ring ring (term c m) f z g poly k d cancels in
        let below : AllBelow ring m rest = remainder_below ring (term c m) f z g poly k d cancels in
        let same : Alike ring.modulus rest (whole ++ taken) = remainder_alike ring (term c m) f z g poly k d cancels in
        let none : Vanishes ring a pos taken = multiple_vanishes ring a pos cancels.factor t (z ∷ g) long (canonical_of_ring ring (z ∷ g) k) v in
        let taken_inside : IsMember ring B taken = multiple_member ring B pos cancels.factor t (z ∷ g) long ig in
        let rest_inside : IsMember ring B rest = same_member ring B pos same (sum_member ring B pos whole taken inside taken_inside) in
        descend m lower rest of_ring below rest_inside x
        (special_lead_alike ring a pos x whole rest (λ w. sym (same.under (at_point ring a w) ∙ vanishing_added ring a pos w whole taken none)) h)

    -- second case: the leading coefficient is not 0 at the point, so what is divided in the variables is x itself
    by_value : ¬ (value_at ring a (lc_x ring whole) ≡ 0) → Found (take ring.variables m) → Found x
    by_value some found =
        let is : x ≡ take ring.variables m = lead_once ring a pos x (take ring.variables m) whole h (lead_by_value ring a pos c m f poly some) in
        subst (λ n. Found n) (sym is) found

    -- third case: the leading coefficient is 0 at the point, and f is multiplied crosswise with a member of M
    by_cross : value_at ring a (lc_x ring whole) ≡ 0 → (g : List Term) → IsCanonical ring g → IsMember ring B g → ¬ (value_at ring a (lc_x ring g) ≡ 0)
        → divides (lead_x ring g) (take ring.variables m) ≡ true → Found x
    by_cross z [] k ig some d = absurd (some (zero-mod ring.modulus))
    by_cross z (y ∷ g) k ig some d =
        let rest : List Term = crossed ring pos (term c m) f y g poly k d in
        let of_ring : IsOfRing ring rest = crossed_of_ring ring pos (term c m) f y g poly k d in
        let below : AllBelow ring m rest = crossed_below ring pos (term c m) f y g poly k d in
        let rest_inside : IsMember ring B rest = crossed_member ring pos (term c m) f y g poly k d B inside ig in
        let factor : ℕ = total (power_weight ring a) (lc_x ring (y ∷ g)) in
        descend m lower rest of_ring below rest_inside x
        (special_lead_scaled ring a pos field x factor whole rest some (λ w. crossed_special ring pos (term c m) f y g poly k d a w z) h)

  module _ (covered : (i : ℕ) → i < length G → IsCovered i) where
    -- some lead of G divides the lead m, which leaves the three cases
    claim_step : (m : List ℕ) → length m ≡ places ring → Lower m → Claim m
    claim_step m lm lower c f poly inside x h =
        let i = lead_place G m (basis.leads (term c m ∷ f) poly inside (λ e. cc)) in
        by_cover i.0 i.1 i.2 (covered i.0 i.1)
      where
        by_cover : (i : ℕ) → i < length G → divides (leading_monomial_at G i) m ≡ true → IsCovered i → Found x
        by_cover i hi d (inl v) =
            by_vanishing m lower c f poly inside x h (get_or G i []) (canonical_at ring G monic.canonical i hi) (monic_at G monic.monic i hi)
            (member_at ring B G basis.members i hi) d v
        by_cover i hi d (inr q) = by_test (eqb value 0) refl (q m d)
          where
            value : ℕ
            value = value_at ring a (lc_x ring (term c m ∷ f))

            by_test : (b : Bool) → eqb value 0 ≡ b → Found (take ring.variables m) → Found x
            by_test true e found =
                by_cross m lower c f poly inside x h (eqb-true value 0 e) (get_or M found.0 []) (m_ok found.0 found.1) (m_in found.0 found.1)
                (leading found.0 found.1) found.2
            by_test false e found = by_value m lower c f poly inside x h (eqb-false value 0 e) found

    -- the lead of what a member of the ideal becomes is divided by the variables' part of the lead of a member of M
    pub stability : (f : List Term) → IsCanonical ring f → IsMember ring B f → (x : List ℕ) → IsSpecialLead ring a pos x f → Found x
    stability [] k h x s = absurd (s.there (zero-mod ring.modulus))
    stability (y ∷ f) k h x s = compared_induction (order_of ring) Claim claim_step y.exponents k.2 y.coefficient f k h x s
