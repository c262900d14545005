-- Standard monomials and the ideal at a point where a basis serves.
use Rattle.std.proofs.Common.{ℕ, zero, suc, ◌≡◌, ◌*◌, ◌%◌, ◌<◌, ◌↔◌, inl, inr, true, false, not, List, [], ◌∷◌, length, get_or, replicate}
use Rattle.std.proofs.Common.{refl, sym, ap, ◌∙◌, subst, arith}
use Rattle.std.specs.List.{AllByRecursion}
use Rattle.std.proofs.Math.Nat.{add-zero}
use Rattle.std.proofs.lemmas.Bool.{or_cases, or_left, or_right, both_ways, false_from_ne_true, not-false}
use Rattle.std.specs.Cmp.Lexicographic.{pointwise}
use Rattle.std.proofs.lemmas.List.{length-map}
use Rattle.std.proofs.lemmas.List.Elements.{All-from_recursion}
use Rattle.std.proofs.lemmas.Slice.Eq.{slice_eq-Decides}
use Rattle.cgs_list.proofs.ListLemmas.{all_weaker}
use Rattle.cgs_field.proofs.PrimeLemmas.{modulus_prime}
use Rattle.cgs_exps.specs.Monomial.{divides, product, quotient}
use Rattle.cgs_exps.proofs.MonomialLemmas.{quotient_product, quotient_length, divides_zeros}
use Rattle.cgs_poly.specs.Ring.{Ring}
use Rattle.cgs_poly.specs.Polynomial.{Term, places, one, IsRing, IsCanonical, IsPoly}
use Rattle.cgs_poly.specs.Product.{leading_monomial}
use Rattle.cgs_poly.specs.Parameters.{lead_x, lc_x, value_at, variables_ring, specialised, has_no_variables}
use Rattle.cgs_poly.specs.Merge.{changed}
use Rattle.cgs_poly.proofs.OneLemmas.{one_canonical}
use Rattle.cgs_poly.proofs.ParameterLemmas.{free_tested}
use Rattle.cgs_poly.proofs.RingLemmas.{ring_positive}
use Rattle.cgs_poly.specs.Same.{same_poly}
use Rattle.cgs_poly.proofs.SameLemmas.{same_poly_decides}
use Rattle.cgs_poly.proofs.ChangedLemmas.{multiple_canonical, changed_multiple}
use Rattle.cgs_poly.proofs.SpecialisedLemmas.{variables_length}
use Rattle.cgs_algebra.specs.Combination.{IsMember}
use Rattle.cgs_algebra.specs.Groebner.{leading_monomial_at}
use Rattle.cgs_algebra.specs.Specialisation.{specialised_list}
use Rattle.cgs_algebra.proofs.MemberLemmas.{same_member, multiple_member}
use Rattle.cgs_algebra.proofs.PointLemmas.{get_specialised}
use Rattle.cgs_algebra.proofs.SpecialisedBasisLemmas.{specialised_canonical, specialised_not_zero, specialised_lead, leading_at}
use Rattle.cgs_algebra.proofs.VanishingLemmas.{free_by_lead}
use Rattle.cgs_entry.specs.Bases.{HaveVariables, IsOneOrHasVariables}
use Rattle.cgs_entry.specs.Entries.{IsBasisAt}
use Rattle.cgs_entry.proofs.OneLemmas.{one_special}
use Rattle.cgs_report.specs.declared.standard.Standard.{Standard}
use Rattle.cgs_report.specs.declared.standard.Standard.TheVariants.{NotFinite, Many, Count}
use Rattle.cgs_report.specs.Standard.{has_divisor, leads_x, HasExactly, AreFinite, IsStandard}
use Rattle.cgs_report.specs.Box.{standard_of}
use Rattle.cgs_report.specs.Laws.{Tells}
use Rattle.cgs_report.specs.Report.{is_finite, is_solvable}
use Rattle.cgs_report.specs.AtPoint.{IsStandardOf, ReportAtPoint}
use Rattle.cgs_report.proofs.AnswerLemmas.{standard_tells}
use Rattle.cgs_report.proofs.LeadLemmas.{leads_places}
use Rattle.cgs_algebra.proofs.PlaceLemmas.{member_at, lead_place}

-- m leads no polynomial of the ideal but 0
abbrev LeadsNone : Ring → List (List Term) → List ℕ → Type 0
LeadsNone ring F m = (f : List Term) → IsCanonical ring f → IsMember ring F f → ¬ (f ≡ []) → ¬ (leading_monomial f ≡ m)

-- a divisor among the leads is that of a member

pub divisor_found : (ring : Ring) (G : List (List Term)) (m : List ℕ) → has_divisor (leads_x ring G) m ≡ true
    → (j : ℕ) × (j < length G) × (divides (lead_x ring (get_or G j [])) m ≡ true)
divisor_found ring [] m e = absurd (both_ways _ refl e)
divisor_found ring ([] ∷ G) m e = let j = divisor_found ring G m e in (suc j.0, omega (arith, j.1), j.2)
divisor_found ring ((y ∷ f) ∷ G) m e =
    elim (or_cases _ _ e) [
      | inl t ↦ (0, omega arith, t)
      | inr t ↦ let j = divisor_found ring G m t in (suc j.0, omega (arith, j.1), j.2)
    ]

pub found_divisor : (ring : Ring) (G : List (List Term)) (m : List ℕ) (j : ℕ) → j < length G → ¬ (get_or G j [] ≡ [])
    → divides (lead_x ring (get_or G j [])) m ≡ true → has_divisor (leads_x ring G) m ≡ true
found_divisor ring [] m j l n d = absurd (omega arith)
found_divisor ring ([] ∷ G) m zero l n d = absurd (n refl)
found_divisor ring ([] ∷ G) m (suc j) l n d = found_divisor ring G m j (omega arith) n d
found_divisor ring ((y ∷ f) ∷ G) m zero l n d = or_left (divides (lead_x ring (y ∷ f)) m) (has_divisor (leads_x ring G) m) d
found_divisor ring ((y ∷ f) ∷ G) m (suc j) l n d =
    or_right (divides (lead_x ring (y ∷ f)) m) (has_divisor (leads_x ring G) m) (found_divisor ring G m j (omega arith) n d)

-- a multiple of a polynomial that leads with a multiple of its leading monomial

abbrev moved : Ring → List ℕ → List Term → List Term
moved ring t f = changed (λ d. (1 * d) % ring.modulus) (product t) f

moved_lead : (ring : Ring) (t : List ℕ) (f : List Term) → ¬ (f ≡ []) → leading_monomial (moved ring t f) ≡ product t (leading_monomial f)
moved_lead ring t [] n = absurd (n refl)
moved_lead ring t (y ∷ f) n = refl

moved_some : (ring : Ring) (t : List ℕ) (f : List Term) → ¬ (f ≡ []) → moved ring t f ≡ [] → ⊥
moved_some ring t [] n e = n refl
moved_some ring t (y ∷ f) n e = absurd (cc)

pub multiple_leads : (ring : Ring) (F : List (List Term)) (f : List Term) (m : List ℕ) → IsRing ring → IsCanonical ring f → IsMember ring F f → ¬ (f ≡ [])
    → length m ≡ places ring → length (leading_monomial f) ≡ places ring → divides (leading_monomial f) m ≡ true → LeadsNone ring F m → ⊥
multiple_leads ring F f m r k h n l o d none =
    let pos = ring_positive ring r in
    let two = (modulus_prime ring.modulus r.modulus).above_one in
    let t : List ℕ = quotient m (leading_monomial f) in
    let long : length t ≡ places ring = quotient_length m (leading_monomial f) (places ring) l o in
    none (moved ring t f) (multiple_canonical ring 1 t f r.modulus (omega arith) two long k)
    (same_member ring F pos (changed_multiple ring.modulus 1 t f) (multiple_member ring F pos 1 t f long h)) (moved_some ring t f n)
    (moved_lead ring t f n ∙ quotient_product m (leading_monomial f) (l ∙ sym o) d)

variables_ring_is : (ring : Ring) → IsRing ring → IsRing (variables_ring ring)
variables_ring_is ring r = record { modulus = r.modulus; some = r.some; variables = r.variables; parameters = omega arith }

lead_x_length : (ring : Ring) (f : List Term) → IsCanonical ring f → (f ≡ [] → ⊥) → length (lead_x ring f) ≡ ring.variables
lead_x_length ring [] k some = absurd (some refl)
lead_x_length ring (y ∷ f) k some = variables_length ring y.exponents k.2

module _ (ring : Ring) (a : List ℕ) (polys basis : List (List Term)) (r : IsRing ring) (can : AllByRecursion (IsCanonical ring) basis)
    (serves : IsBasisAt ring a polys basis) where
  pos : 0 < ring.modulus
  pos = ring_positive ring r

  two : 1 < ring.modulus
  two = (modulus_prime ring.modulus r.modulus).above_one

  abbrev b_at : ℕ → List Term
  b_at j = get_or basis j []

  b_can : (j : ℕ) → j < length basis → IsCanonical ring (b_at j)
  b_can j l = All-from_recursion (IsCanonical ring) basis can j [] l

  b_leads : (j : ℕ) → j < length basis → ¬ (value_at ring a (lc_x ring (b_at j)) ≡ 0)
  b_leads j l = leading_at ring a basis serves.leading j l

  special : (j : ℕ) → get_or (specialised_list ring a basis) j [] ≡ specialised ring a (b_at j)
  special j = get_specialised ring a basis j

  special_lead : (j : ℕ) → j < length basis → leading_monomial_at (specialised_list ring a basis) j ≡ lead_x ring (b_at j)
  special_lead j l = ap leading_monomial (special j) ∙ specialised_lead ring a pos (b_at j) (b_can j l) (b_leads j l)

  special_length : (j : ℕ) → j < length basis → j < length (specialised_list ring a basis)
  special_length j l = omega (arith, length-map basis (specialised ring a))

  some_of_special : (j : ℕ) → j < length basis → b_at j ≡ [] → ⊥
  some_of_special j l e = specialised_not_zero ring a pos (b_at j) (b_can j l) (b_leads j l) (ap (specialised ring a) e)

  -- a divisor of m makes a polynomial of the ideal that m leads
  pub divisor_leads : (m : List ℕ) → length m ≡ ring.variables → has_divisor (leads_x ring basis) m ≡ true
      → LeadsNone (variables_ring ring) (specialised_list ring a polys) m → ⊥
  divisor_leads m l d none =
      let j = divisor_found ring basis m d in
      let f : List Term = specialised ring a (b_at j.0) in
      let sl = specialised_lead ring a pos (b_at j.0) (b_can j.0 j.1) (b_leads j.0 j.1) in
      let h : IsMember (variables_ring ring) (specialised_list ring a polys) f =
      subst (λ g. IsMember (variables_ring ring) (specialised_list ring a polys) g) (special j.0)
      (member_at (variables_ring ring) (specialised_list ring a polys) (specialised_list ring a basis) serves.minimal.groebner.members
      j.0 (special_length j.0 j.1)) in
      let lx = lead_x_length ring (b_at j.0) (b_can j.0 j.1) (some_of_special j.0 j.1) in
      multiple_leads (variables_ring ring) (specialised_list ring a polys) f m (variables_ring_is ring r)
      (specialised_canonical ring a pos (b_at j.0) (b_can j.0 j.1) (b_leads j.0 j.1)) h
      (specialised_not_zero ring a pos (b_at j.0) (b_can j.0 j.1) (b_leads j.0 j.1))
      (l ∙ sym (add-zero ring.variables)) (ap length sl ∙ (lx ∙ sym (add-zero ring.variables))) (subst (λ x. divides x m ≡ true) (sym sl) j.2) none

  -- the leading monomial of a polynomial of the ideal has a divisor
  pub leads_divisor : (f : List Term) → IsCanonical (variables_ring ring) f → IsMember (variables_ring ring) (specialised_list ring a polys) f → ¬ (f ≡ [])
      → has_divisor (leads_x ring basis) (leading_monomial f) ≡ true
  leads_divisor f k h n =
      let j = lead_place (specialised_list ring a basis) (leading_monomial f) (serves.minimal.groebner.leads f k h n) in
      let l : j.0 < length basis = omega (arith, length-map basis (specialised ring a), j.1) in
      found_divisor ring basis (leading_monomial f) j.0 l (some_of_special j.0 l) (subst (λ x. divides x (leading_monomial f) ≡ true) (special_lead j.0 l) j.2)

  pub standard_at_point : (m : List ℕ) → IsStandard ring.variables (leads_x ring basis) m
      ↔ IsStandardOf (variables_ring ring) (specialised_list ring a polys) m
  standard_at_point m = (
    λ s. record {
      places = s.places ∙ sym (add-zero ring.variables);
      leads_none = λ f k h n e. both_ways _ s.apart (subst (λ x. has_divisor (leads_x ring basis) x ≡ true) e (leads_divisor f k h n));
    },
    λ q.
        let long : length m ≡ ring.variables = q.places ∙ add-zero ring.variables in
        record { places = long; apart = false_from_ne_true (has_divisor (leads_x ring basis) m) (λ d. divisor_leads m long d q.leads_none) },
  )

  -- 1

  -- a member whose leading monomial divides 1 has no variables
  lead_has_variables : HaveVariables ring basis → (j : ℕ) → j < length basis
      → divides (lead_x ring (b_at j)) (replicate (places (variables_ring ring)) 0) ≡ true → ⊥
  lead_has_variables q j l d =
      let long : length (lead_x ring (b_at j)) ≡ places (variables_ring ring) =
      lead_x_length ring (b_at j) (b_can j l) (some_of_special j l) ∙ sym (add-zero ring.variables) in
      let zeros : lead_x ring (b_at j) ≡ replicate ring.variables 0 =
      divides_zeros (places (variables_ring ring)) (lead_x ring (b_at j)) long d ∙ ap (λ n. replicate {A = ℕ} n 0) (add-zero ring.variables) in
      both_ways _ (All-from_recursion (λ f. has_no_variables ring f ≡ false) basis q j [] l)
      (free_tested ring (b_at j) (free_by_lead ring a pos (b_at j) (b_can j l) zeros))

  one_in_basis : IsOneOrHasVariables ring basis → IsMember (variables_ring ring) (specialised_list ring a polys) (one (variables_ring ring))
      → basis ≡ one ring ∷ []
  one_in_basis (inl e) h = e
  one_in_basis (inr q) h =
      let can_one = one_canonical (variables_ring ring) two in
      let d = leads_divisor (one (variables_ring ring)) can_one h (λ e. absurd (cc)) in
      let j = divisor_found ring basis (replicate (places (variables_ring ring)) 0) d in
      absurd (lead_has_variables q j.0 j.1 j.2)

  basis_of_one : basis ≡ one ring ∷ [] → IsMember (variables_ring ring) (specialised_list ring a polys) (one (variables_ring ring))
  basis_of_one e =
      same_member (variables_ring ring) (specialised_list ring a polys) pos (one_special ring a two)
      (subst (λ b. AllByRecursion (IsMember (variables_ring ring) (specialised_list ring a polys)) (specialised_list ring a b)) e
      serves.minimal.groebner.members).0

  pub one_at_point : IsOneOrHasVariables ring basis
      → IsMember (variables_ring ring) (specialised_list ring a polys) (one (variables_ring ring)) ↔ (is_solvable ring basis ≡ false)
  one_at_point q =
      let d = slice_eq-Decides same_poly_decides basis (one ring ∷ []) (pointwise same_poly basis (one ring ∷ [])) refl in
      (λ h. ap not (d.1 (one_in_basis q h)), λ e. basis_of_one (d.0 (not-false _ e)))

-- what is told of monomials of one kind is told of those of another that has the same

exactly_same : (P Q : List ℕ → Type 0) → ((m : List ℕ) → P m ↔ Q m) → (M : List (List ℕ)) → HasExactly P M → HasExactly Q M
exactly_same P Q e M h = record { distinct = h.distinct; each = all_weaker P Q M h.each (λ m. (e m).0); all = λ m q. h.all m ((e m).1 q) }

finite_same : (P Q : List ℕ → Type 0) → ((m : List ℕ) → P m ↔ Q m) → AreFinite P → AreFinite Q
finite_same P Q e h = record { monomials = h.monomials; all = λ m q. h.all m ((e m).1 q) }

tells_same : (P Q : List ℕ → Type 0) → ((m : List ℕ) → P m ↔ Q m) → (s : Standard) → Tells P s → Tells Q s
tells_same P Q e NotFinite t = λ h. t (finite_same Q P (λ m. ((e m).1, (e m).0)) h)
tells_same P Q e Many t = (t.0, exactly_same P Q e t.0 t.1, t.2)
tells_same P Q e (Count k) t = (t.0, exactly_same P Q e t.0 t.1, t.2, t.3)

tells_finite : (P : List ℕ → Type 0) (s : Standard) → Tells P s → AreFinite P ↔ (is_finite s ≡ true)
tells_finite P NotFinite t = (λ h. absurd (t h), λ e. absurd (cc))
tells_finite P Many t = (λ h. refl, λ e. record { monomials = t.0; all = t.1.all })
tells_finite P (Count k) t = (λ h. refl, λ e. record { monomials = t.0; all = t.1.all })

pub report_at_point : ReportAtPoint
report_at_point ring a polys basis r h serves q =
    let can = all_weaker (IsPoly ring) (IsCanonical ring) basis h (λ f p. p.canonical) in
    let F : List (List Term) = specialised_list ring a polys in
    let s : Standard = standard_of ring.variables (leads_x ring basis) in
    let tells : Tells (IsStandardOf (variables_ring ring) F) s =
    tells_same (IsStandard ring.variables (leads_x ring basis)) (IsStandardOf (variables_ring ring) F) (standard_at_point ring a polys basis r can serves) s
    (standard_tells ring.variables (leads_x ring basis) (leads_places ring basis h)) in
    record {
      solvable = one_at_point ring a polys basis r can serves q;
      finite = tells_finite (IsStandardOf (variables_ring ring) F) s tells;
      standard = tells;
    }
