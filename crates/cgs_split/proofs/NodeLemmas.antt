-- The children of a good branch are good branches that generate its ideal at each point of theirs.
use Rattle.std.proofs.Common.{ℕ, ◌≡◌, ◌<◌, inl, inr, Bool, true, false, cond, not, ◌==◌, List, [], ◌∷◌, ◌++◌, map, filter, refl, sym, ◌∙◌, subst, arith}
use Rattle.std.proofs.lemmas.Bool.{and_parts}
use Rattle.std.specs.List.{AllByRecursion}
use Rattle.cgs_list.proofs.ListLemmas.{all_weaker, all_by_places}
use Rattle.cgs_field.specs.Prime.{IsField}
use Rattle.cgs_field.proofs.PrimeLemmas.{modulus_field}
use Rattle.cgs_poly.specs.Ring.{Ring}
use Rattle.cgs_poly.specs.Polynomial.{Term, IsCanonical, one, IsRing}
use Rattle.cgs_poly.specs.Parameters.{HasNoVariables, value_at, lc_x, variables_ring}
use Rattle.cgs_poly.proofs.ParameterLemmas.{lc_x_canonical, lc_x_free}
use Rattle.cgs_algebra.specs.Combination.{IsMember}
use Rattle.cgs_algebra.specs.Specialisation.{specialised_list, IsParametric, AllVanish, NoneVanishes}
use Rattle.cgs_algebra.specs.Stability.{parametric_members, other_members}
use Rattle.cgs_algebra.proofs.MemberLemmas.{generator_member}
use Rattle.cgs_algebra.proofs.DicksonLemmas.{dickson_found, parametric_each}
use Rattle.cgs_poly.specs.Monic.{monic_of}
use Rattle.cgs_poly.proofs.OneLemmas.{one_canonical}
use Rattle.cgs_entry.specs.Conditions.{with_member, with_members, all_vanish, none_vanishes}
use Rattle.cgs_entry.specs.Entries.{IsBasisAt}
use Rattle.cgs_entry.proofs.AddingLemmas.{monic_free}
use Rattle.cgs_dickson.specs.Dickson.{is_constant, coefficient_list}
use Rattle.cgs_dickson.proofs.CoefficientLemmas.{coefficients_stand}
use Rattle.cgs_split.specs.Cases.{Case}
use Rattle.cgs_split.specs.Nodes.{unit_children, split_children, main_child, children_of, is_point_of, branches_at}
use Rattle.cgs_split.specs.Soundness.{IsBranch, SameIdealAt, HasBasis, IsSoundChild}
use Rattle.cgs_split.proofs.InverseLemmas.{monic_canonical}
use Rattle.cgs_split.proofs.ConditionLemmas.{all_with, none_with, none_with_all, all_told, told_all, none_told, told_none, each_with, each_with_all}
use Rattle.cgs_split.proofs.PartitionLemmas.{children_count}
use Rattle.cgs_algebra.proofs.SameIdealLemmas.{same_ideal_back, minimal_of_same}
use Rattle.cgs_entry.proofs.OneLemmas.{one_basis}
use Rattle.cgs_split.proofs.IdealLemmas.{specials_canonical, parts_ok, conditions_vanish, others_same, dickson_minimal, dickson_same, one_same}
use Rattle.cgs_algebra.proofs.PlaceLemmas.{canonical_at, of_ring_at, not_zero_at, all_both}

-- conditions in the parameters alone

pub monic_parametric : (ring : Ring) (f : List Term) → 0 < ring.modulus → IsParametric ring f → IsParametric ring (monic_of ring f)
monic_parametric ring f pos h = record { canonical = monic_canonical ring f pos h.canonical; free = monic_free ring f h.free }

-- leading coefficients

abbrev nonconstant : List (List Term) → List (List Term)
nonconstant L = filter (λ c. not (is_constant c)) L

nonconstant_each : (P : List Term → Type 0) (L : List (List Term)) → AllByRecursion P L → AllByRecursion P (nonconstant L)
nonconstant_each P [] h = tt
nonconstant_each P (f ∷ L) h = by_test (is_constant f) (nonconstant_each P L h.1)
  where
    by_test : (b : Bool) → AllByRecursion P (nonconstant L) → AllByRecursion P (cond (not b) (f ∷ nonconstant L) (nonconstant L))
    by_test true ih = ih
    by_test false ih = (h.0, ih)

coefficients_parametric : (ring : Ring) (M : List (List Term)) → AllByRecursion (IsCanonical ring) M → AllByRecursion (IsParametric ring) (map (lc_x ring) M)
coefficients_parametric ring [] h = tt
coefficients_parametric ring (f ∷ M) h = (record { canonical = lc_x_canonical ring f h.0; free = lc_x_free ring f }, coefficients_parametric ring M h.1)

leading_each : (ring : Ring) (a : List ℕ) (M : List (List Term)) → AllByRecursion (λ g. ¬ (value_at ring a (lc_x ring g) ≡ 0)) M
    → NoneVanishes ring a (map (lc_x ring) M)
leading_each ring a [] h = tt
leading_each ring a (g ∷ M) h = (h.0, leading_each ring a M h.1)

-- what is a basis of one list is a basis of each other that generates the ideal
pub basis_of_same : (ring : Ring) (a : List ℕ) (F K B : List (List Term)) → SameIdealAt ring a F K → IsBasisAt ring a F B → IsBasisAt ring a K B
basis_of_same ring a F K B s h = record {
  leading = h.leading;
  minimal = minimal_of_same (variables_ring ring) (specialised_list ring a F) (specialised_list ring a K) (specialised_list ring a B) s h.minimal;
}

module _ (ring : Ring) (r : IsRing ring) (branch : Case) (ok : IsBranch ring branch) (G M : List (List Term)) (basis : HasBasis ring branch G M) where
  abbrev field : IsField ring.modulus
  field = modulus_field ring.modulus r.modulus

  abbrev pos : 0 < ring.modulus
  pos = omega (arith, (modulus_field ring.modulus r.modulus).two)

  abbrev Z : List (List Term)
  Z = parametric_members ring G

  abbrev Sound : Case → Type 0
  Sound child = IsSoundChild ring branch child

  dickson_ok : AllByRecursion (IsCanonical ring) M
  dickson_ok = all_by_places (IsCanonical ring) [] M
      (λ j l. let i = dickson_found ring M G basis.dickson j l in subst (IsCanonical ring) i.2 (canonical_at ring G basis.monic.canonical i.0 i.1))

  dickson_some : AllByRecursion (λ f. ¬ (f ≡ [])) M
  dickson_some = all_by_places (λ f. ¬ (f ≡ [])) [] M (λ j l e.
      let i = dickson_found ring M G basis.dickson j l in
      not_zero_at G basis.groebner.not_zero i.0 i.1 (i.2 ∙ e))

  dickson_nonzero : AllByRecursion (λ g. IsCanonical ring g × ¬ (g ≡ [])) M
  dickson_nonzero = all_both (IsCanonical ring) (λ f. ¬ (f ≡ [])) M dickson_ok dickson_some

  coefficients_ok : AllByRecursion (IsParametric ring) (nonconstant (map (lc_x ring) M))
  coefficients_ok = nonconstant_each (IsParametric ring) (map (lc_x ring) M) (coefficients_parametric ring M dickson_ok)

  pub H_ok : AllByRecursion (IsParametric ring) (coefficient_list ring M)
  H_ok = each_with_all ring (IsParametric ring) [] (nonconstant (map (lc_x ring) M)) tt
      (all_weaker (IsParametric ring) (λ f. IsParametric ring (monic_of ring f)) (nonconstant (map (lc_x ring) M)) coefficients_ok
      (λ f p. monic_parametric ring f pos p))

  canonical_each : (L : List (List Term)) → AllByRecursion (IsParametric ring) L → AllByRecursion (IsCanonical ring) L
  canonical_each L h = all_weaker (IsParametric ring) (IsCanonical ring) L h (λ f p. p.canonical)

  Z_ok : AllByRecursion (IsParametric ring) Z
  Z_ok = (parts_ok ring [] field branch ok G M basis).0

  -- 1 is a basis of itself
  one_good : (a : List ℕ) → IsBasisAt ring a (one ring ∷ []) (one ring ∷ [])
  one_good a =
      one_basis ring a field.two (one ring ∷ [])
      (generator_member (variables_ring ring) (specialised_list ring a (one ring ∷ [])) pos 0 (omega arith)
      (of_ring_at (variables_ring ring) (specialised_list ring a (one ring ∷ []))
      (specials_canonical ring a pos (one ring ∷ []) (one_canonical ring field.two, tt)) 0 (omega arith)))

  -- the branches where a member of G in the parameters alone does not vanish
  units_sound : (E K : List (List Term)) → AllByRecursion (IsParametric ring) E
      → AllByRecursion (λ g. IsParametric ring g × IsMember ring (branch.polys ++ branch.zero) g) K
      → ((a : List ℕ) → all_vanish ring a E ≡ true → AllVanish ring a branch.zero) → AllByRecursion Sound (unit_children ring branch E branch.nonzero K)
  units_sound E [] e_ok k_ok back = tt
  units_sound E (g ∷ K) e_ok k_ok back = (
    record {
      valid = record {
        of = ok.of;
        zero = e_ok;
        nonzero = each_with ring (IsParametric ring) branch.nonzero g ok.nonzero (monic_parametric ring g pos k_ok.0.0);
        polys = (one_canonical ring field.two, tt);
      };
      good = inr (λ a h. one_good a);
      ideal = λ a h. one_same ring a field branch ok G M basis (back a (told_all ring a E h.vanish)) g k_ok.0.0 k_ok.0.1 (not_zero a h.stand);
    },
    units_sound (with_member ring E g) K (each_with ring (IsParametric ring) E g e_ok (monic_parametric ring g pos k_ok.0.0)) k_ok.1
        (λ a h. back a (and_parts _ _ (sym (all_with ring a field E g k_ok.0.0.canonical) ∙ h)).0),
  )
    where
      not_zero : (a : List ℕ) → NoneVanishes ring a (with_member ring branch.nonzero g) → ¬ (value_at ring a g ≡ 0)
      not_zero a h z =
          let p = and_parts (none_vanishes ring a branch.nonzero) (not (value_at ring a g == 0))
          (sym (none_with ring a field branch.nonzero g k_ok.0.0.canonical) ∙ told_none ring a (with_member ring branch.nonzero g) h) in
          let e : not (value_at ring a g == 0) ≡ false = rw z refl in
          cc (p.1, e)

  -- the branches where a leading coefficient vanishes
  splits_sound : (N H : List (List Term)) → AllByRecursion (IsParametric ring) N → AllByRecursion (IsParametric ring) H
      → AllByRecursion Sound (split_children ring branch Z N (other_members ring G) H)
  splits_sound N [] n_ok h_ok = tt
  splits_sound N (h ∷ H) n_ok h_ok = (
    record {
      valid = record {
        of = ok.of;
        zero = each_with ring (IsParametric ring) Z h Z_ok (monic_parametric ring h pos h_ok.0);
        nonzero = n_ok;
        polys = (parts_ok ring [] field branch ok G M basis).1;
      };
      good = inl refl;
      ideal = λ a i. others_same ring a field branch ok G M basis (zeros a i.vanish);
    },
    splits_sound (with_member ring N h) H (each_with ring (IsParametric ring) N h n_ok (monic_parametric ring h pos h_ok.0)) h_ok.1,
  )
    where
      zeros : (a : List ℕ) → AllVanish ring a (with_member ring Z h) → AllVanish ring a Z
      zeros a i = all_told ring a Z (and_parts _ _ (sym (all_with ring a field Z h h_ok.0.canonical) ∙ told_all ring a (with_member ring Z h) i)).0

  -- the branch where none does
  main_leading : (a : List ℕ) → NoneVanishes ring a (with_members ring branch.nonzero (coefficient_list ring M)) → NoneVanishes ring a (map (lc_x ring) M)
  main_leading a h =
      let p = and_parts _ _ (sym (none_with_all ring a field branch.nonzero (coefficient_list ring M) (canonical_each (coefficient_list ring M) H_ok))
      ∙ told_none ring a (with_members ring branch.nonzero (coefficient_list ring M)) h) in
      leading_each ring a M (coefficients_stand ring M a r dickson_nonzero (none_told ring a (coefficient_list ring M) p.1))

  main_sound : Sound (main_child ring branch G M)
  main_sound = record {
    valid = record {
      of = ok.of;
      zero = Z_ok;
      nonzero = each_with_all ring (IsParametric ring) branch.nonzero (coefficient_list ring M) ok.nonzero
          (all_weaker (IsParametric ring) (λ f. IsParametric ring (monic_of ring f)) (coefficient_list ring M) H_ok (λ f p. monic_parametric ring f pos p));
      polys = dickson_ok;
    };
    good = inr (λ a h.
        let l : NoneVanishes ring a (map (lc_x ring) M) = main_leading a h.stand in
        let s : SameIdealAt ring a M branch.polys = dickson_same ring a field branch ok G M basis h.vanish l in
        basis_of_same ring a branch.polys M M (same_ideal_back (variables_ring ring) _ _ s)
        (record { leading = l; minimal = dickson_minimal ring a field branch ok G M basis h.vanish l }));
    ideal = λ a h. dickson_same ring a field branch ok G M basis h.vanish (main_leading a h.stand);
  }

  each_branch_append : (bs cs : List Case) → AllByRecursion Sound bs → AllByRecursion Sound cs → AllByRecursion Sound (bs ++ cs)
  each_branch_append [] cs h k = k
  each_branch_append (b ∷ bs) cs h k = (h.0, each_branch_append bs cs h.1 k)

  -- each child is a good branch, and generates the branch's ideal at its points
  pub children_sound : AllByRecursion Sound (children_of ring branch G M)
  children_sound =
      each_branch_append (unit_children ring branch branch.zero branch.nonzero Z)
      (main_child ring branch G M ∷ split_children ring branch Z branch.nonzero (other_members ring G) (coefficient_list ring M))
      (units_sound branch.zero Z ok.zero units_inside (λ a h. all_told ring a branch.zero h))
      (main_sound, splits_sound branch.nonzero (coefficient_list ring M) ok.nonzero H_ok)
    where
      units_inside : AllByRecursion (λ g. IsParametric ring g × IsMember ring (branch.polys ++ branch.zero) g) Z
      units_inside =
          all_weaker (λ g. (IsCanonical ring g × IsMember ring (branch.polys ++ branch.zero) g) × HasNoVariables ring g)
          (λ g. IsParametric ring g × IsMember ring (branch.polys ++ branch.zero) g) Z
          (parametric_each ring (λ g. IsCanonical ring g × IsMember ring (branch.polys ++ branch.zero) g) G
          (all_both (IsCanonical ring) (IsMember ring (branch.polys ++ branch.zero)) G basis.monic.canonical basis.groebner.members))
          (λ g p. (record { canonical = p.0.0; free = p.1 }, p.0.1))

  -- each point of the branch's region is one of exactly one child
  pub children_partition : (a : List ℕ) → branches_at ring a (children_of ring branch G M) ≡ cond (is_point_of ring a branch) 1 0
  children_partition a =
      children_count ring a field branch G M (canonical_each Z Z_ok) (canonical_each (coefficient_list ring M) H_ok)
      (λ e. told_all ring a branch.zero (conditions_vanish ring a field branch ok G M basis (all_told ring a Z e)))
