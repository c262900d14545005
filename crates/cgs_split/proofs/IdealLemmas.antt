-- At each point of a child's region the child's polynomials generate the ideal of the branch's.
use Rattle.std.proofs.Common.{ℕ, zero, ◌≡◌, ◌+◌, ◌*◌, ◌%◌, ◌<◌, Bool, true, false, List, [], ◌∷◌, ◌++◌, length, get_or, map, replicate, refl, sym, ap, ◌∙◌}
use Rattle.std.proofs.Common.{subst, arith}
use Rattle.std.proofs.Math.Nat.{mul-one, mod-eq_of_lt}
use Rattle.std.proofs.lemmas.List.{length-append, length-map, get_or_append_left, get_or-append-add}
use Rattle.std.specs.List.{AllByRecursion}
use Rattle.cgs_list.proofs.ListLemmas.{all_append, all_weaker, all_by_places, all_at_place}
use Rattle.cgs_field.specs.Prime.{IsField}
use Rattle.cgs_field.proofs.ModularLemmas.{mod_mul}
use Rattle.cgs_poly.specs.Ring.{Ring}
use Rattle.cgs_poly.specs.Polynomial.{one, Term, total, IsOfRing, IsCanonical}
use Rattle.cgs_poly.specs.Parameters.{has_no_variables, HasNoVariables, value_at, lc_x, variables_ring, specialised_terms, specialised}
use Rattle.cgs_poly.proofs.CanonicalLemmas.{canonical_of_ring, is_canonical}
use Rattle.cgs_algebra.specs.Combination.{IsMember, SameIdeal}
use Rattle.cgs_algebra.specs.Groebner.{IsMinimal}
use Rattle.cgs_algebra.specs.Specialisation.{specialised_list, IsParametric, AllVanish, NoneVanishes}
use Rattle.cgs_algebra.specs.Stability.{parametric_members, other_members}
use Rattle.cgs_algebra.proofs.MemberLemmas.{same_member, scaled_member, generator_member, member_of_members}
use Rattle.cgs_algebra.proofs.PointLemmas.{power_weight, total_specialised, get_specialised}
use Rattle.cgs_algebra.proofs.VanishingLemmas.{free_vanishes, free_total}
use Rattle.cgs_algebra.proofs.SpecialisedIdealLemmas.{specialised_member}
use Rattle.cgs_algebra.proofs.PlaceLemmas.{canonical_at, of_ring_at, member_at}
use Rattle.cgs_poly.proofs.ParameterLemmas.{tested_free, free_tested}
use Rattle.cgs_poly.proofs.OneLemmas.{one_canonical}
use Rattle.cgs_poly.proofs.SpecialisedLemmas.{at_point, specialised_of_ring}
use Rattle.cgs_algebra.proofs.DicksonLemmas.{FoundIn, found_other, found_parametric, other_found, parametric_each, other_each}
use Rattle.cgs_algebra.proofs.GenerationLemmas.{basis_generates}
use Rattle.cgs_algebra.proofs.OneLemmas.{all_members}
use Rattle.cgs_algebra.proofs.SpecialisedBasisLemmas.{second_all, specialised_basis}
use Rattle.cgs_split.specs.Cases.{Case}
use Rattle.cgs_split.specs.Soundness.{IsBranch, HasBasis, SameIdealAt}
use Rattle.cgs_entry.proofs.OneLemmas.{one_special, one_special_total}

-- ideals

-- an ideal at a place of a list that holds the generator
pub found_member : (ring : Ring) (F : List (List Term)) (g : List Term) → 0 < ring.modulus → IsOfRing ring g → FoundIn F g → IsMember ring F g
found_member ring F g pos h i = subst (λ f. IsMember ring F f) i.2 (generator_member ring F pos i.0 i.1 (subst (λ f. IsOfRing ring f) (sym i.2) h))

module _ (ring : Ring) (a : List ℕ) (pos : 0 < ring.modulus) where
  specialised_in_ring : (f : List Term) → IsOfRing ring f → IsOfRing (variables_ring ring) (specialised ring a f)
  specialised_in_ring f h = canonical_of_ring (variables_ring ring) (specialised ring a f)
      (is_canonical (variables_ring ring) (specialised_terms ring a f) pos (specialised_of_ring ring a f h))

  -- the polynomials of a list become polynomials in the variables alone
  pub specials_canonical : (F : List (List Term)) → AllByRecursion (IsCanonical ring) F
      → AllByRecursion (IsCanonical (variables_ring ring)) (specialised_list ring a F)
  specials_canonical [] h = tt
  specials_canonical (f ∷ F) h = (
    is_canonical (variables_ring ring) (specialised_terms ring a f) pos (specialised_of_ring ring a f (canonical_of_ring ring f h.0)),
    specials_canonical F h.1,
  )

  -- members of the ideal of F ++ E, where E vanishes
  pub members_at : (F E L : List (List Term)) → AllByRecursion (IsCanonical ring) F → AllByRecursion (IsParametric ring) E → AllVanish ring a E
      → AllByRecursion (λ f. IsCanonical ring f × IsMember ring (F ++ E) f) L
      → (f : List Term) → IsMember (variables_ring ring) (specialised_list ring a L) f → IsMember (variables_ring ring) (specialised_list ring a F) f
  members_at F E L f_ok e_ok zeros h = member_of_members (variables_ring ring) (specialised_list ring a L) (specialised_list ring a F) pos inside
    where
      e_ring : (i : ℕ) → i < length E → IsOfRing ring (get_or E i [])
      e_ring i l = canonical_of_ring ring (get_or E i []) (all_at_place (IsParametric ring) [] E e_ok i l).canonical

      e_zero : (i : ℕ) → i < length E → (w : List ℕ → ℕ) → total (at_point ring a w) (get_or E i []) % ring.modulus ≡ 0
      e_zero i l =
          free_vanishes ring a pos (get_or E i []) (all_at_place (IsParametric ring) [] E e_ok i l).free
          (all_at_place (λ f. value_at ring a f ≡ 0) [] E zeros i l)

      inside : AllByRecursion (IsMember (variables_ring ring) (specialised_list ring a F)) (specialised_list ring a L)
      inside = all_by_places (IsMember (variables_ring ring) (specialised_list ring a F)) [] (specialised_list ring a L) (λ i l.
          let q = all_at_place (λ f. IsCanonical ring f × IsMember ring (F ++ E) f) [] L h i (omega (arith, length-map L (specialised ring a))) in
          subst (λ f. IsMember (variables_ring ring) (specialised_list ring a F) f) (sym (get_specialised ring a L i))
          (specialised_member ring a pos F E (of_ring_at ring F f_ok) e_ring e_zero (get_or L i []) (canonical_of_ring ring (get_or L i []) q.0) q.1))

module _ (ring : Ring) (a : List ℕ) (field : IsField ring.modulus) (branch : Case) (ok : IsBranch ring branch) (G M : List (List Term))
    (basis : HasBasis ring branch G M) where
  abbrev pos : 0 < ring.modulus
  pos = omega (arith, field.two)

  abbrev F : List (List Term)
  F = branch.polys

  abbrev E : List (List Term)
  E = branch.zero

  generators_ok : AllByRecursion (IsCanonical ring) (F ++ E)
  generators_ok = all_append (IsCanonical ring) F E ok.polys (all_weaker (IsParametric ring) (IsCanonical ring) E ok.zero (λ f p. p.canonical))

  -- the members of G in the parameters alone, and the others
  pub parts_ok : AllByRecursion (IsParametric ring) (parametric_members ring G) × AllByRecursion (IsCanonical ring) (other_members ring G)
  parts_ok = (
    all_weaker (λ g. IsCanonical ring g × HasNoVariables ring g) (IsParametric ring) (parametric_members ring G)
        (parametric_each ring (IsCanonical ring) G basis.monic.canonical) (λ g p. record { canonical = p.0; free = p.1 }),
    other_each ring (IsCanonical ring) G basis.monic.canonical,
  )

  same_generators : SameIdeal ring G (F ++ E)
  same_generators = basis_generates ring (F ++ E) G field generators_ok basis.groebner

  -- each member of G is one of the two parts
  part_at : (i : ℕ) → i < length G → IsMember ring (other_members ring G ++ parametric_members ring G) (get_or G i [])
  part_at i l = by_test (has_no_variables ring (get_or G i [])) refl
    where
      of_ring : IsOfRing ring (get_or G i [])
      of_ring = of_ring_at ring G basis.monic.canonical i l

      by_test : (b : Bool) → has_no_variables ring (get_or G i []) ≡ b → IsMember ring (other_members ring G ++ parametric_members ring G) (get_or G i [])
      by_test true e =
          let k = found_parametric ring G i l (tested_free ring (get_or G i []) e) in
          found_member ring (other_members ring G ++ parametric_members ring G) (get_or G i []) pos of_ring (
            length (other_members ring G) + k.0,
            omega (arith, length-append (other_members ring G) (parametric_members ring G), k.1),
            get_or-append-add (other_members ring G) (parametric_members ring G) k.0 [] ∙ k.2,
          )
      by_test false e =
          let k = found_other ring G i l (λ n. cc (e, free_tested ring (get_or G i []) n)) in
          found_member ring (other_members ring G ++ parametric_members ring G) (get_or G i []) pos of_ring (
            k.0,
            omega (arith, length-append (other_members ring G) (parametric_members ring G), k.1),
            get_or_append_left (other_members ring G) (parametric_members ring G) [] k.0 k.1 ∙ k.2,
          )

  in_parts : AllByRecursion (IsMember ring (other_members ring G ++ parametric_members ring G)) G
  in_parts = all_by_places (IsMember ring (other_members ring G ++ parametric_members ring G)) [] G part_at

  pub generators_in_parts : (f : List Term) → IsMember ring (F ++ E) f → IsMember ring (other_members ring G ++ parametric_members ring G) f
  generators_in_parts f m = member_of_members ring G (other_members ring G ++ parametric_members ring G) pos in_parts f (same_generators.second f m)

  module _ (zeros : AllVanish ring a (parametric_members ring G)) where
    -- at a point where the basis' members in the parameters alone vanish, the branch's conditions do
    pub conditions_vanish : AllVanish ring a E
    conditions_vanish = second_all ring a pos F E G ok.zero basis.monic basis.groebner zeros

    -- the members of G with variables
    pub others_same : SameIdealAt ring a (other_members ring G) F
    others_same = record {
      first = members_at ring a pos F E (other_members ring G) ok.polys ok.zero conditions_vanish (all_by_places _ [] (other_members ring G) member);
      second = members_at ring a pos (other_members ring G) (parametric_members ring G) F parts_ok.1 parts_ok.0 zeros (all_by_places _ [] F generator);
    }
      where
        member : (i : ℕ) → i < length (other_members ring G)
            → IsCanonical ring (get_or (other_members ring G) i []) × IsMember ring (F ++ E) (get_or (other_members ring G) i [])
        member i l =
            let k = (other_found ring G i l).0 in
            let inside : IsMember ring (F ++ E) (get_or G k.0 []) = member_at ring (F ++ E) G basis.groebner.members k.0 k.1 in
            (canonical_at ring (other_members ring G) parts_ok.1 i l, subst (IsMember ring (F ++ E)) k.2 inside)

        generator : (i : ℕ) → i < length F
            → IsCanonical ring (get_or F i []) × IsMember ring (other_members ring G ++ parametric_members ring G) (get_or F i [])
        generator i l =
            let c : IsCanonical ring (get_or F i []) = canonical_at ring F ok.polys i l in (
              c,
              generators_in_parts (get_or F i [])
                  (found_member ring (F ++ E) (get_or F i []) pos (canonical_of_ring ring (get_or F i []) c)
                  (i, omega (arith, length-append F E), get_or_append_left F E [] i l)),
            )

    -- the Dickson basis, where no leading coefficient is 0
    module _ (leading : NoneVanishes ring a (map (lc_x ring) M)) where
      -- there the Dickson basis becomes a minimal Gröbner basis of what the polynomials become
      pub dickson_minimal : IsMinimal (variables_ring ring) (specialised_list ring a M) (specialised_list ring a F)
      dickson_minimal = specialised_basis ring a pos F E G ok.zero basis.monic basis.groebner zeros ok.polys M field basis.dickson leading

      pub dickson_same : SameIdealAt ring a M F
      dickson_same =
          basis_generates (variables_ring ring) (specialised_list ring a F) (specialised_list ring a M)
          field (specials_canonical ring a pos F ok.polys) dickson_minimal.groebner

  -- a member of G in the parameters alone that is not 0 at the point
  module _ (zeros : AllVanish ring a E) (g : List Term) (parametric : IsParametric ring g) (inside : IsMember ring (F ++ E) g)
      (some : ¬ (value_at ring a g ≡ 0)) where
    -- where a member in the parameters alone does not vanish, 1 is a member of the ideal
    one_at_point : IsMember (variables_ring ring) (specialised_list ring a F) (specialised ring a (one ring))
    one_at_point =
        let p : ℕ = ring.modulus in
        let g_ring : IsOfRing ring g = canonical_of_ring ring g parametric.canonical in
        let v : ℕ = total (power_weight ring a) g in
        let d = field.inverse v some in
        let in_f : IsMember (variables_ring ring) (specialised_list ring a F) (specialised ring a g) =
        members_at ring a pos F E (g ∷ []) ok.polys ok.zero zeros ((parametric.canonical, inside), tt) (specialised ring a g)
        (generator_member (variables_ring ring) (specialised ring a g ∷ []) pos 0 (omega arith) (specialised_in_ring ring a pos g g_ring)) in
        scaled_member (variables_ring ring) (specialised_list ring a F) pos d.0 (specialised ring a g) (specialised ring a (one ring))
        (λ w.
        let u : ℕ = w (replicate ring.variables 0) in
        let t : total w (specialised ring a g) % p ≡ (u * v) % p = total_specialised ring a w g pos g_ring
        ∙ ap (λ n. n % p) (free_total ring a pos w g parametric.free) in
        let s : (d.0 * total w (specialised ring a g)) % p ≡ (d.0 * (u * v)) % p = mod_mul p d.0 d.0 (total w (specialised ring a g)) (u * v) refl t in
        let l : d.0 * (u * v) ≡ u * (v * d.0) = regroup d.0 u v in
        let o : (u * (v * d.0)) % p ≡ (u * 1) % p = mod_mul p u u (v * d.0) 1 refl (d.1 ∙ sym (mod-eq_of_lt field.two)) in
        one_special_total ring a field.two w ∙ sym (s ∙ (ap (λ n. n % p) l ∙ (o ∙ ap (λ n. n % p) (mul-one u)))))
        in_f
      where
        regroup : (d u v : ℕ) → d * (u * v) ≡ u * (v * d)
        regroup d u v = omega arith

    -- and generates it
    pub one_same : SameIdealAt ring a (one ring ∷ []) F
    one_same = record {
      first = member_of_members (variables_ring ring) (specialised ring a (one ring) ∷ []) (specialised_list ring a F) pos (one_at_point, tt);
      second = member_of_members (variables_ring ring) (specialised_list ring a F) (specialised ring a (one ring) ∷ []) pos second_at;
    }
      where
        one_there : IsMember (variables_ring ring) (specialised ring a (one ring) ∷ []) (one (variables_ring ring))
        one_there =
            same_member (variables_ring ring) (specialised ring a (one ring) ∷ []) pos (one_special ring a field.two)
            (generator_member (variables_ring ring) (specialised ring a (one ring) ∷ []) pos 0 (omega arith)
            (specialised_in_ring ring a pos (one ring) (canonical_of_ring ring (one ring) (one_canonical ring field.two))))

        second_at : AllByRecursion (IsMember (variables_ring ring) (specialised ring a (one ring) ∷ [])) (specialised_list ring a F)
        second_at =
            all_weaker (IsCanonical (variables_ring ring)) (IsMember (variables_ring ring) (specialised ring a (one ring) ∷ [])) (specialised_list ring a F)
            (specials_canonical ring a pos F ok.polys) (λ f k.
            all_members (variables_ring ring) pos (specialised ring a (one ring) ∷ []) f (canonical_of_ring (variables_ring ring) f k) one_there)
