-- A branch that is to be split can be solved from the polynomials of the problem: with its vanishing conditions they generate its ideal.
use Rattle.std.proofs.Common.{ℕ, ◌≡◌, ◌<◌, List, [], ◌∷◌, ◌++◌, refl, arith}
use Rattle.std.specs.List.{AllByRecursion}
use Rattle.cgs_list.proofs.ListLemmas.{all_append, all_parts, all_weaker}
use Rattle.cgs_field.specs.Prime.{IsField}
use Rattle.cgs_field.proofs.PrimeLemmas.{modulus_field}
use Rattle.cgs_poly.specs.Ring.{Ring}
use Rattle.cgs_poly.specs.Polynomial.{Term, IsRing, IsOfRing, IsCanonical}
use Rattle.cgs_poly.proofs.CanonicalLemmas.{canonical_of_ring}
use Rattle.cgs_algebra.specs.Combination.{IsMember, SameIdeal}
use Rattle.cgs_algebra.specs.Specialisation.{IsParametric}
use Rattle.cgs_algebra.specs.Stability.{parametric_members, other_members}
use Rattle.cgs_algebra.proofs.DicksonLemmas.{other_each}
use Rattle.cgs_algebra.proofs.MemberLemmas.{generators_inside, member_of_members}
use Rattle.cgs_algebra.proofs.PlaceLemmas.{all_both}
use Rattle.cgs_entry.specs.declared.entry.Entry.{Entry}
use Rattle.cgs_entry.specs.Conditions.{with_member}
use Rattle.cgs_entry.proofs.AddingLemmas.{all_members_added}
use Rattle.cgs_dickson.specs.Dickson.{minimal_dickson, coefficient_list}
use Rattle.cgs_split.specs.declared.kind.BranchKind.TheVariants.{Split}
use Rattle.cgs_split.specs.declared.kind.Limits.{Limits}
use Rattle.cgs_split.specs.Cases.{Case}
use Rattle.cgs_split.specs.Nodes.{unit_children, main_child, split_children}
use Rattle.cgs_split.specs.Soundness.{IsBranch, HasBasis}
use Rattle.cgs_split.specs.Trees.{root_case}
use Rattle.cgs_split.proofs.IdealLemmas.{parts_ok, generators_in_parts}
use Rattle.cgs_split.proofs.NodeLemmas.{H_ok, monic_parametric}
use Rattle.cgs_split.proofs.NodeRunLemmas.{reduced_has_basis}
use Rattle.cgs_split.proofs.ConditionLemmas.{each_with}
use Rattle.cgs_system.specs.ExactList.{IsReducedBasisOf, IsExactNode, empty, solved, whole, divided}
use Rattle.cgs_system.proofs.KeptLemmas.{IsKept, kept_with, kept_with_all, kept_parametric}
use Rattle.cgs_system.proofs.ParametricLemmas.{parametric_generated}

-- the problem with the branch's conditions has these conditions and the branch's ideal
pub record IsApart (ring : Ring) (F : List (List Term)) (branch : Case) : Type 0 where
  pub zero : IsKept ring branch.zero
  pub nonzero : IsKept ring branch.nonzero
  pub ideal : SameIdeal ring (F ++ branch.zero) (branch.polys ++ branch.zero)

-- so it is with a branch that is to be split
abbrev pub IsOfProblem : Ring → List (List Term) → Case → Type 0
IsOfProblem ring F branch = branch.kind ≡ Split → IsApart ring F branch

module _ (ring : Ring) (r : IsRing ring) (F : List (List Term)) (polys_ok : AllByRecursion (IsCanonical ring) F) where
  abbrev field : IsField ring.modulus
  field = modulus_field ring.modulus r.modulus

  abbrev pos : 0 < ring.modulus
  pos = omega (arith, (modulus_field ring.modulus r.modulus).two)

  canonical_list : (L : List (List Term)) → AllByRecursion (IsParametric ring) L → AllByRecursion (IsCanonical ring) L
  canonical_list L h = all_weaker (IsParametric ring) (IsCanonical ring) L h (λ f p. p.canonical)

  generators : (L : List (List Term)) → AllByRecursion (IsCanonical ring) L → AllByRecursion (IsMember ring L) L
  generators L h = generators_inside ring L pos (all_weaker (IsCanonical ring) (IsOfRing ring) L h (λ f k. canonical_of_ring ring f k))

  -- the members of two lists are in the ideal of both
  both_inside : (K L : List (List Term)) → AllByRecursion (IsCanonical ring) K → AllByRecursion (IsCanonical ring) L
      → AllByRecursion (IsMember ring (K ++ L)) K × AllByRecursion (IsMember ring (K ++ L)) L
  both_inside K L k l = all_parts (IsMember ring (K ++ L)) K L (generators (K ++ L) (all_append (IsCanonical ring) K L k l))

  -- members of lists whose generators are members
  members_inside : (K L : List (List Term)) → AllByRecursion (IsMember ring L) K → (M : List (List Term)) → AllByRecursion (IsMember ring K) M
      → AllByRecursion (IsMember ring L) M
  members_inside K L h M m = all_weaker (IsMember ring K) (IsMember ring L) M m (member_of_members ring K L pos h)

  pub root_of_problem : (limits : Limits) (E N : List (List Term)) → AllByRecursion (IsParametric ring) E → AllByRecursion (IsParametric ring) N
      → IsOfProblem ring F (root_case ring limits E N F)
  root_of_problem limits E N z n k = record {
    zero = kept_with_all ring r [] E refl (canonical_list E z);
    nonzero = kept_with_all ring r [] N refl (canonical_list N n);
    ideal = record { first = λ f m. m; second = λ f m. m };
  }

  module _ (branch : Case) (ok : IsBranch ring branch) (apart : IsApart ring F branch) (G : List (List Term)) (based : IsReducedBasisOf ring branch G) where
    abbrev E : List (List Term)
    E = branch.zero

    abbrev Z : List (List Term)
    Z = parametric_members ring G

    abbrev O : List (List Term)
    O = other_members ring G

    abbrev M : List (List Term)
    M = minimal_dickson ring (other_members ring G)

    basis : HasBasis ring branch G M
    basis = reduced_has_basis ring branch G based.reduced based.ascending

    Z_ok : AllByRecursion (IsParametric ring) Z
    Z_ok = (parts_ok ring [] field branch ok G M basis).0

    O_ok : AllByRecursion (IsCanonical ring) O
    O_ok = (parts_ok ring [] field branch ok G M basis).1

    -- the conditions that vanish are generated by the members of the basis in the parameters alone
    conditions_generated : AllByRecursion (IsMember ring Z) E
    conditions_generated =
        all_weaker (λ f. IsParametric ring f × IsMember ring (branch.polys ++ E) f) (IsMember ring Z) E
        (all_both (IsParametric ring) (IsMember ring (branch.polys ++ E)) E ok.zero (both_inside branch.polys E ok.polys (canonical_list E ok.zero)).1)
        (λ f m. parametric_generated ring field pos (branch.polys ++ E) G basis.groebner f m.0 m.1)

    -- conditions C that generate these members
    module _ (C : List (List Term)) (C_ok : AllByRecursion (IsCanonical ring) C) (over : AllByRecursion (IsMember ring C) Z) where
      -- the ideal of C is in that of a list with C behind it
      in_front : (K : List (List Term)) → AllByRecursion (IsCanonical ring) K → AllByRecursion (IsMember ring (K ++ C)) C
      in_front K k = (both_inside K C k C_ok).1

      problem_inside : AllByRecursion (IsMember ring (O ++ C)) (F ++ C)
      problem_inside =
          all_append (IsMember ring (O ++ C)) F C
          (members_inside (O ++ Z) (O ++ C)
          (all_append (IsMember ring (O ++ C)) O Z (both_inside O C O_ok C_ok).0 (members_inside C (O ++ C) (in_front O O_ok) Z over)) F
          (all_weaker (IsMember ring (F ++ E)) (IsMember ring (O ++ Z)) F (both_inside F E polys_ok (canonical_list E ok.zero)).0
          (λ f m. generators_in_parts ring [] field branch ok G M basis f (apart.ideal.first f m))))
          (in_front O O_ok)

      others_inside : AllByRecursion (IsMember ring (F ++ C)) (O ++ C)
      others_inside =
          all_append (IsMember ring (F ++ C)) O C
          (members_inside (F ++ E) (F ++ C)
          (all_append (IsMember ring (F ++ C)) F E (both_inside F C polys_ok C_ok).0
          (members_inside C (F ++ C) (in_front F polys_ok) E (members_inside Z C over E conditions_generated))) O
          (all_weaker (IsMember ring (branch.polys ++ E)) (IsMember ring (F ++ E)) O
          (other_each ring (IsMember ring (branch.polys ++ E)) G basis.groebner.members) (λ f m. apart.ideal.second f m)))
          (in_front F polys_ok)

      same_ideal : SameIdeal ring (F ++ C) (O ++ C)
      same_ideal = record {
        first = member_of_members ring (F ++ C) (O ++ C) pos problem_inside;
        second = member_of_members ring (O ++ C) (F ++ C) pos others_inside;
      }

    -- with one condition more
    same_with : (h : List Term) → IsParametric ring h → SameIdeal ring (F ++ with_member ring Z h) (O ++ with_member ring Z h)
    same_with h k =
        let C : List (List Term) = with_member ring Z h in
        let C_ok : AllByRecursion (IsCanonical ring) C = canonical_list C (each_with ring (IsParametric ring) Z h Z_ok (monic_parametric ring h pos k)) in
        same_ideal C C_ok ((all_members_added (IsMember ring C) ring Z (h ∷ [])).0 (generators C C_ok)).0

    splits_of_problem : (N H : List (List Term)) → IsKept ring N → AllByRecursion (IsParametric ring) H
        → AllByRecursion (IsOfProblem ring F) (split_children ring branch Z N O H)
    splits_of_problem N [] n h = tt
    splits_of_problem N (h ∷ H) n k = (
      λ e. record {
        zero = kept_with ring r Z h (kept_parametric ring r G basis.monic based.ascending) k.0.canonical;
        nonzero = n;
        ideal = same_with h k.0;
      },
      splits_of_problem (with_member ring N h) H (kept_with ring r N h n k.0.canonical) k.1,
    )

    units_of_problem : (E N K : List (List Term)) → AllByRecursion (IsOfProblem ring F) (unit_children ring branch E N K)
    units_of_problem E N [] = tt
    units_of_problem E N (g ∷ K) = (λ e. cc, units_of_problem (with_member ring E g) N K)

    children_of_problem : AllByRecursion (IsOfProblem ring F)
        (unit_children ring branch E branch.nonzero Z ++ main_child ring branch G M ∷ split_children ring branch Z branch.nonzero O (coefficient_list ring M))
    children_of_problem =
        all_append (IsOfProblem ring F) (unit_children ring branch E branch.nonzero Z)
        (main_child ring branch G M ∷ split_children ring branch Z branch.nonzero O (coefficient_list ring M))
        (units_of_problem E branch.nonzero Z)
        (λ e. cc, splits_of_problem branch.nonzero (coefficient_list ring M) apart.nonzero (H_ok ring r branch ok G M basis))

  -- the children of a branch of the problem are such
  pub below_of_problem : (branch : Case) → IsBranch ring branch → IsOfProblem ring F branch → (path : List ℕ) (own : List Entry) (children : List Case)
      → IsExactNode ring branch path own children → AllByRecursion (IsOfProblem ring F) children
  below_of_problem branch ok apart path own children (empty c) = tt
  below_of_problem branch ok apart path own children (solved c k) = tt
  below_of_problem branch ok apart path own children (whole c k h) = tt
  below_of_problem branch ok apart path own children (divided c k G h n) = children_of_problem branch ok (apart k) G h
