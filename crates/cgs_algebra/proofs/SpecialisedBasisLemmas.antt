-- Where a Gröbner basis stays one at a point of the parameters: the whole statement (Kapur, Sun, Wang 2010, theorem 4.3).
use Rattle.std.proofs.Common.{ℕ, ◌≡◌, ◌+◌, ◌%◌, ◌<◌, inl, inr, Bool, true, false, IsTrue, List, [], ◌∷◌, ◌++◌, length, get_or, map, take, refl, sym, ap, ◌∙◌}
use Rattle.std.proofs.Common.{subst, arith}
use Rattle.std.proofs.lemmas.List.{length-append, length-map, get_or-map, get_or-append-add, get_or_default}
use Rattle.std.proofs.lemmas.List.Elements.{All-from_recursion, recursion_from_All}
use Rattle.std.specs.List.{AllByRecursion}
use Rattle.cgs_field.specs.Prime.{IsField}
use Rattle.cgs_exps.specs.Monomial.{divides}
use Rattle.cgs_exps.proofs.MonomialLemmas.{divides_trans, take_divides}
use Rattle.cgs_poly.specs.Ring.{Ring}
use Rattle.cgs_poly.specs.Polynomial.{Term, total, IsOfRing, IsCanonical, canonical}
use Rattle.cgs_poly.specs.Product.{leading_monomial}
use Rattle.cgs_poly.specs.Parameters.{has_no_variables, HasNoVariables, lead_x, lc_x, value_at, variables_ring, specialised_terms, specialised}
use Rattle.cgs_poly.proofs.SumLemmas.{Alike}
use Rattle.cgs_poly.proofs.CanonicalLemmas.{canonical_of_ring, is_canonical, canonical_alike}
use Rattle.cgs_algebra.specs.Combination.{IsMember}
use Rattle.cgs_algebra.specs.Groebner.{AreMonic, IsGroebnerBasis, IsMinimal, SomeLeadDivides, leading_monomial_at}
use Rattle.cgs_algebra.specs.Specialisation.{specialised_list, IsParametric, AllVanish, NoneVanishes}
use Rattle.cgs_algebra.specs.Stability.{parametric_members, other_members, IsMinimalDicksonBasis}
use Rattle.cgs_algebra.proofs.MemberLemmas.{same_member, generator_member}
use Rattle.cgs_algebra.proofs.PointLemmas.{total_specialised, get_specialised}
use Rattle.cgs_algebra.proofs.SpecialLeadLemmas.{IsSpecialLead, special_lead_alike, lead_once, lead_of_form, form_not_zero, lead_by_coefficient}
use Rattle.cgs_algebra.proofs.VanishingLemmas.{free_vanishes}
use Rattle.cgs_algebra.proofs.StabilityLemmas.{IsCovered, stability}
use Rattle.cgs_algebra.proofs.SpecialisedIdealLemmas.{specialised_member, lifted_member}
use Rattle.cgs_poly.proofs.ParameterLemmas.{tested_free, free_tested}
use Rattle.cgs_poly.proofs.SpecialisedLemmas.{at_point, specialised_of_ring, variables_length}
use Rattle.cgs_algebra.proofs.EliminationLemmas.{parametric_at, parametric_vanishes}
use Rattle.cgs_algebra.proofs.DicksonLemmas.{dickson_found, dickson_divides}
use Rattle.cgs_algebra.proofs.PlaceLemmas.{canonical_at, of_ring_at, member_at, not_zero_at, lead_at_place, two_places, of_two_places}
use Rattle.cgs_list.proofs.ListLemmas.{all_by_places}

-- polynomials with a leading coefficient that is not 0 at the point

module _ (ring : Ring) (a : List ℕ) (pos : 0 < ring.modulus) (f : List Term) (can : IsCanonical ring f) (some : ¬ (value_at ring a (lc_x ring f) ≡ 0)) where
  same_total : (w : List ℕ → ℕ) → total w (specialised ring a f) % ring.modulus ≡ total (at_point ring a w) f % ring.modulus
  same_total w = total_specialised ring a w f pos (canonical_of_ring ring f can)

  pub specialised_canonical : IsCanonical (variables_ring ring) (specialised ring a f)
  specialised_canonical = is_canonical (variables_ring ring) (specialised_terms ring a f) pos (specialised_of_ring ring a f (canonical_of_ring ring f can))

  pub specialised_not_zero : specialised ring a f ≡ [] → ⊥
  specialised_not_zero = form_not_zero ring a pos (lead_x ring f) (specialised ring a f) f same_total (lead_by_coefficient ring a pos f can some)

  -- the lead of what f becomes is the variables' part of its lead
  pub specialised_lead : leading_monomial (specialised ring a f) ≡ lead_x ring f
  specialised_lead =
      lead_once ring a pos (leading_monomial (specialised ring a f)) (lead_x ring f) f
      (lead_of_form ring a pos (specialised ring a f) f specialised_canonical specialised_not_zero same_total) (lead_by_coefficient ring a pos f can some)

pub leading_at : (ring : Ring) (a : List ℕ) (M : List (List Term)) → NoneVanishes ring a (map (lc_x ring) M) → (j : ℕ) → j < length M
    → ¬ (value_at ring a (lc_x ring (get_or M j [])) ≡ 0)
leading_at ring a M h j l z =
    All-from_recursion (λ f. ¬ (value_at ring a f ≡ 0)) (map (lc_x ring) M) h j [] (omega (arith, length-map M (lc_x ring)))
    (ap (value_at ring a) (get_or-map (lc_x ring) M j [] [] l) ∙ z)

module _ (ring : Ring) (a : List ℕ) (pos : 0 < ring.modulus) (F E G : List (List Term)) (e_ok : AllByRecursion (IsParametric ring) E)
    (monic : AreMonic ring G) (basis : IsGroebnerBasis ring G (F ++ E)) (zeros : AllVanish ring a (parametric_members ring G)) where
  abbrev I : List Term → Type 0
  I f = IsMember ring (F ++ E) f

  e_at : (i : ℕ) → i < length E → IsParametric ring (get_or E i [])
  e_at i l = All-from_recursion (IsParametric ring) E e_ok i [] l

  e_ring : (i : ℕ) → i < length E → IsOfRing ring (get_or E i [])
  e_ring i h = canonical_of_ring ring (get_or E i []) (e_at i h).canonical

  second_in : (i : ℕ) → i < length E → I (get_or E i [])
  second_in i h =
      let at_e : get_or (F ++ E) (length F + i) [] ≡ get_or E i [] = get_or-append-add F E i [] in
      let g = generator_member ring (F ++ E) pos (length F + i) (omega (arith, length-append F E)) (subst (λ f. IsOfRing ring f) (sym at_e) (e_ring i h)) in
      subst (λ f. I f) at_e g

  second_vanishes : (i : ℕ) → i < length E → value_at ring a (get_or E i []) ≡ 0
  second_vanishes i h = parametric_vanishes ring a pos (F ++ E) G monic basis zeros (get_or E i []) (e_at i h) (second_in i h)

  second_zero : (i : ℕ) → i < length E → (w : List ℕ → ℕ) → total (at_point ring a w) (get_or E i []) % ring.modulus ≡ 0
  second_zero i h = free_vanishes ring a pos (get_or E i []) (e_at i h).free (second_vanishes i h)

  -- where the basis' members in the parameters alone vanish, the conditions do
  pub second_all : AllVanish ring a E
  second_all = recursion_from_All (λ f. value_at ring a f ≡ 0) E (λ i d l. subst (λ f. value_at ring a f ≡ 0) (get_or_default E i [] d l) (second_vanishes i l))

  module _ (f_ok : AllByRecursion (IsCanonical ring) F) (M : List (List Term)) (field : IsField ring.modulus)
      (dickson : IsMinimalDicksonBasis ring M (other_members ring G)) (leading : NoneVanishes ring a (map (lc_x ring) M)) where
    abbrev m_at : ℕ → List Term
    m_at j = get_or M j []

    m_ok : (j : ℕ) → j < length M → IsCanonical ring (m_at j)
    m_ok j h = let i = dickson_found ring M G dickson j h in subst (λ f. IsCanonical ring f) i.2 (canonical_at ring G monic.canonical i.0 i.1)

    m_in : (j : ℕ) → j < length M → I (m_at j)
    m_in j h = let i = dickson_found ring M G dickson j h in subst (λ f. I f) i.2 (member_at ring (F ++ E) G basis.members i.0 i.1)

    m_some : (j : ℕ) → j < length M → m_at j ≡ [] → ⊥
    m_some j h e = let i = dickson_found ring M G dickson j h in not_zero_at G basis.not_zero i.0 i.1 (i.2 ∙ e)

    m_leading : (j : ℕ) → j < length M → ¬ (value_at ring a (lc_x ring (m_at j)) ≡ 0)
    m_leading = leading_at ring a M leading

    lead_x_length : (f : List Term) → IsCanonical ring f → (f ≡ [] → ⊥) → length (lead_x ring f) ≡ ring.variables
    lead_x_length [] k some = absurd (some refl)
    lead_x_length (y ∷ f) k some = variables_length ring y.exponents k.2

    covered : (i : ℕ) → i < length G → IsCovered ring a pos field (F ++ E) G M monic basis m_ok m_in m_leading i
    covered i h = by_test (has_no_variables ring (get_or G i [])) refl
      where
        by_test : (b : Bool) → has_no_variables ring (get_or G i []) ≡ b → IsCovered ring a pos field (F ++ E) G M monic basis m_ok m_in m_leading i
        by_test true e =
            let free : HasNoVariables ring (get_or G i []) = tested_free ring (get_or G i []) e in
            inl (free_vanishes ring a pos (get_or G i []) free (parametric_at ring (λ g. value_at ring a g ≡ 0) G zeros i h free))
        by_test false e =
            let j = dickson_divides ring M G dickson i h (λ n. cc (e, free_tested ring (get_or G i []) n)) in
            inr (λ m d. (
              j.0,
              j.1,
              divides_trans (lead_x ring (m_at j.0)) (lead_x ring (get_or G i [])) (take ring.variables m)
                  (lead_x_length (m_at j.0) (m_ok j.0 j.1) (m_some j.0 j.1)
                  ∙ sym (lead_x_length (get_or G i []) (canonical_at ring G monic.canonical i h) (not_zero_at G basis.not_zero i h)))
                  j.2
                  (take_divides ring.variables (leading_monomial_at G i) m d),
            ))

    found : (f : List Term) → IsCanonical ring f → I f → (x : List ℕ) → IsSpecialLead ring a pos x f
        → (j : ℕ) × (j < length M) × (divides (lead_x ring (m_at j)) x ≡ true)
    found = stability ring a pos field (F ++ E) G M monic basis m_ok m_in m_leading covered

    abbrev specials : List (List Term)
    specials = specialised_list ring a M

    in_list : (i : ℕ) → i < length specials → i < length M
    in_list i h = omega (arith, length-map M (specialised ring a))

    each_special : (P : List Term → Type 0) → ((j : ℕ) → j < length M → P (specialised ring a (m_at j))) → AllByRecursion P specials
    each_special P each = all_by_places P [] specials (λ i h. subst P (sym (get_specialised ring a M i)) (each i (in_list i h)))

    special_lead : (j : ℕ) → j < length M → leading_monomial_at specials j ≡ lead_x ring (m_at j)
    special_lead j h = ap leading_monomial (get_specialised ring a M j) ∙ specialised_lead ring a pos (m_at j) (m_ok j h) (m_leading j h)

    -- what becomes f has a lead that some lead divides
    lifted_leads : (f : List Term) → IsCanonical (variables_ring ring) f → (f ≡ [] → ⊥) → (h : List Term) → IsOfRing ring h → I h
        → ((w : List ℕ → ℕ) → total (at_point ring a w) h % ring.modulus ≡ total w f % ring.modulus) → SomeLeadDivides specials (leading_monomial f)
    lifted_leads f k some h of_ring inside e =
        let g : List Term = canonical ring h in
        let ga : Alike ring.modulus g h = canonical_alike ring h pos of_ring in
        let s : IsSpecialLead ring a pos (leading_monomial f) h = lead_of_form ring a pos f h k some (λ w. sym (e w)) in
        let sg : IsSpecialLead ring a pos (leading_monomial f) g =
        special_lead_alike ring a pos (leading_monomial f) h g (λ w. sym (ga.under (at_point ring a w))) s in
        let j = found g (is_canonical ring h pos of_ring) (same_member ring (F ++ E) pos ga inside) (leading_monomial f) sg in
        lead_at_place specials (leading_monomial f) j.0 (omega (arith, length-map M (specialised ring a), j.1))
        (subst (λ x. divides x (leading_monomial f) ≡ true) (sym (special_lead j.0 j.1)) j.2)

    special_leads : (f : List Term) → IsCanonical (variables_ring ring) f → IsMember (variables_ring ring) (specialised_list ring a F) f → (f ≡ [] → ⊥)
        → SomeLeadDivides specials (leading_monomial f)
    special_leads f k m some =
        let l = lifted_member ring a pos F E (of_ring_at ring F f_ok) e_ring second_zero f m in
        lifted_leads f k some l.0 l.1 l.2 l.3

    -- there the Dickson basis becomes a minimal Gröbner basis of what the polynomials become
    pub specialised_basis : IsMinimal (variables_ring ring) specials (specialised_list ring a F)
    specialised_basis = record {
      groebner = record {
        canonical = each_special (IsCanonical (variables_ring ring)) (λ j l. specialised_canonical ring a pos (m_at j) (m_ok j l) (m_leading j l));
        members = each_special (IsMember (variables_ring ring) (specialised_list ring a F)) (λ j l.
            specialised_member ring a pos F E (of_ring_at ring F f_ok) e_ring second_zero (m_at j) (canonical_of_ring ring (m_at j) (m_ok j l)) (m_in j l));
        not_zero = each_special (λ f. ¬ (f ≡ [])) (λ j l. specialised_not_zero ring a pos (m_at j) (m_ok j l) (m_leading j l));
        leads = special_leads;
      };
      apart = of_two_places (λ f g. ¬ IsTrue (divides (leading_monomial f) (leading_monomial g))) specials (λ i j hi hj n d.
          two_places (λ f g. ¬ IsTrue (divides (lead_x ring f) (lead_x ring g))) M dickson.apart i j (in_list i hi) (in_list j hj) n
          (subst (λ x. divides x (lead_x ring (m_at j)) ≡ true) (special_lead i (in_list i hi))
          (subst (λ y. divides (leading_monomial_at specials i) y ≡ true) (special_lead j (in_list j hj)) d)));
    }

-- the conditions vanish where the basis' members in the parameters alone do
pub conditions_zero : (ring : Ring) (a : List ℕ) (F E G : List (List Term)) → 0 < ring.modulus → AllByRecursion (IsParametric ring) E → AreMonic ring G
    → IsGroebnerBasis ring G (F ++ E)
    → AllVanish ring a (parametric_members ring G) → AllVanish ring a E
conditions_zero ring a F E G pos e_ok monic basis zeros = second_all ring a pos F E G e_ok monic basis zeros
