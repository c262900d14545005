-- The members of a minimal Gröbner basis, each made monic, are one again.
use Rattle.std.proofs.Common.{ℕ, ◌≡◌, ◌%◌, ◌<◌, IsTrue, List, [], ◌∷◌, length, get_or, map, refl, sym, ap, ◌∙◌, subst, arith}
use Rattle.std.proofs.lemmas.List.{length-map, get_or-map}
use Rattle.cgs_field.specs.Inverse.{inverse}
use Rattle.cgs_exps.specs.Monomial.{divides}
use Rattle.cgs_poly.specs.Ring.{Ring}
use Rattle.cgs_poly.specs.Polynomial.{Term, IsRing, IsCanonical}
use Rattle.cgs_poly.specs.Product.{leading_monomial, leading_coefficient}
use Rattle.cgs_poly.specs.Parameters.{variables_ring}
use Rattle.cgs_poly.specs.Monic.{monic_of}
use Rattle.cgs_poly.proofs.RingLemmas.{ring_positive}
use Rattle.cgs_poly.proofs.SumLemmas.{total_scaled}
use Rattle.cgs_poly.proofs.MonicLemmas.{monic_alike, monic_canonical, monic_lead, monic_leading}
use Rattle.cgs_algebra.specs.Combination.{IsMember}
use Rattle.cgs_algebra.specs.Groebner.{AreMonic, IsMinimal, leading_monomial_at}
use Rattle.cgs_algebra.specs.Specialisation.{specialised_list}
use Rattle.cgs_algebra.proofs.MemberLemmas.{scaled_member}
use Rattle.cgs_locate.specs.Located.{monic_at, basis_at}
use Rattle.cgs_locate.specs.Laws.{IsMonicBasisAt}
use Rattle.std.specs.List.{AllByRecursion}
use Rattle.cgs_list.proofs.ListLemmas.{all_by_places, all_weaker}
use Rattle.cgs_poly.proofs.MultipleLemmas.{monic_not_empty}
use Rattle.cgs_algebra.proofs.PlaceLemmas.{canonical_at, member_at, not_zero_at, lead_place, lead_at_place, leads_apart, of_two_places}

module _ (ring : Ring) (F P : List (List Term)) (r : IsRing ring) (basis : IsMinimal ring F P) where
  abbrev G : List (List Term)
  G = map (monic_of ring) F

  within : (i : ℕ) → i < length G → i < length F
  within i l = omega (arith, length-map F (monic_of ring))

  at : (i : ℕ) → i < length F → get_or G i [] ≡ monic_of ring (get_or F i [])
  at i l = get_or-map (monic_of ring) F i [] [] l

  same_lead : (i : ℕ) → i < length F → leading_monomial_at G i ≡ leading_monomial_at F i
  same_lead i l = ap leading_monomial (at i l) ∙ monic_lead ring r (get_or F i []) (canonical_at ring F basis.groebner.canonical i l)

  -- what holds of each member that is made monic
  each : (Q : List Term → Type 0) → ((i : ℕ) → i < length F → Q (monic_of ring (get_or F i []))) → AllByRecursion Q G
  each Q h = all_by_places Q [] G (λ i l. subst Q (sym (at i (within i l))) (h i (within i l)))

  canonical : AllByRecursion (IsCanonical ring) G
  canonical = each (IsCanonical ring) (λ i l. monic_canonical ring r (get_or F i []) (canonical_at ring F basis.groebner.canonical i l))

  leading_one : AllByRecursion (λ g. leading_coefficient g ≡ 1) G
  leading_one = each (λ g. leading_coefficient g ≡ 1) (λ i l.
      monic_leading ring r (get_or F i []) (canonical_at ring F basis.groebner.canonical i l) (not_zero_at F basis.groebner.not_zero i l))

  member : AllByRecursion (IsMember ring P) G
  member = each (IsMember ring P) (λ i l.
      let f : List Term = get_or F i [] in
      let c : ℕ = inverse ring.modulus (leading_coefficient f) in
      scaled_member ring P (ring_positive ring r) c f (monic_of ring f)
      (λ w. (monic_alike ring r f (canonical_at ring F basis.groebner.canonical i l)).under w ∙ ap (λ n. n % ring.modulus) (total_scaled w c f))
      (member_at ring P F basis.groebner.members i l))

  divided : (f : List Term) (i : ℕ) → i < length F → IsTrue (divides (leading_monomial_at F i) (leading_monomial f))
      → IsTrue (divides (leading_monomial_at G i) (leading_monomial f))
  divided f i l d = subst (λ x. IsTrue (divides x (leading_monomial f))) (sym (same_lead i l)) d

  pub monic_minimal : IsMinimal ring G P
  monic_minimal = record {
    groebner = record {
      canonical = canonical;
      members = member;
      not_zero = all_weaker (λ g. leading_coefficient g ≡ 1) (λ g. ¬ (g ≡ [])) G leading_one monic_not_empty;
      leads = λ f k h n.
          let j = lead_place F (leading_monomial f) (basis.groebner.leads f k h n) in
          lead_at_place G (leading_monomial f) j.0 (omega (arith, length-map F (monic_of ring), j.1)) (divided f j.0 j.1 j.2);
    };
    apart = of_two_places (λ f g. ¬ IsTrue (divides (leading_monomial f) (leading_monomial g))) G (λ i j a b n d.
        leads_apart F basis.apart i j (within i a) (within j b) n
        (subst (λ x. IsTrue (divides x (leading_monomial_at F j))) (same_lead i (within i a))
        (subst (λ y. IsTrue (divides (leading_monomial_at G i) y)) (same_lead j (within j b)) d)));
  }

  pub monic_monic : AreMonic ring G
  monic_monic = record { canonical = canonical; monic = leading_one }

specialised_first : (ring : Ring) (point : List ℕ) (G : List (List Term))
    → basis_at ring point G ≡ map (monic_of (variables_ring ring)) (specialised_list ring point G)
specialised_first ring point [] = refl
specialised_first ring point (g ∷ G) = ap (λ k. monic_at ring point g ∷ k) (specialised_first ring point G)

-- where the members become a minimal Gröbner basis, they become a monic one
pub basis_serves_at : (ring : Ring) (point : List ℕ) (polys basis : List (List Term)) → IsRing ring
    → IsMinimal (variables_ring ring) (specialised_list ring point basis) (specialised_list ring point polys)
    → IsMonicBasisAt ring point polys (basis_at ring point basis)
basis_serves_at ring point polys basis r minimal =
    let F : List (List Term) = specialised_list ring point basis in
    let P : List (List Term) = specialised_list ring point polys in
    rw (specialised_first ring point basis) (record { monic = monic_monic own F P own_ring minimal; minimal = monic_minimal own F P own_ring minimal })
  where
    own : Ring
    own = variables_ring ring

    own_ring : IsRing own
    own_ring = record { modulus = r.modulus; some = r.some; variables = r.variables; parameters = omega arith }
