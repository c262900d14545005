-- The children of a branch, one after another.
use Rattle.std.proofs.Common.{ℕ, ◌≡◌, ◌+◌, Some, List, [], ◌∷◌, ◌++◌, drop, sym, ap, ◌∙◌, subst}
use Rattle.std.specs.List.{AllByRecursion}
use Rattle.std.specs.Prelude.{slice_get}
use Rattle.std.proofs.lemmas.List.{append_assoc}
use Rattle.cgs_poly.specs.Ring.{Ring}
use Rattle.cgs_poly.specs.Polynomial.{Term, IsRing, one, ArePolys}
use Rattle.cgs_algebra.specs.Stability.{parametric_members, other_members}
use Rattle.cgs_poly.specs.Parameters.{IsCondition}
use Rattle.cgs_entry.specs.Conditions.{with_member}
use Rattle.cgs_list.proofs.ListLemmas.{drop_at}
use Rattle.cgs_split.specs.declared.kind.BranchKind.TheVariants.{Split, Unit as UnitKind}
use Rattle.cgs_split.specs.Cases.{Case, case_like}
use Rattle.cgs_split.specs.Nodes.{unit_children, split_children}
use Rattle.cgs_split.proofs.PreparedLemmas.{parametric_conditions, other_polys}

module _ (ring : Ring) (branch : Case) (i : ℕ) (all longer : List Case) (child : Case) (pushed : longer ≡ all ++ child ∷ []) where
  joined : (first : Case) (rest : List Case) → child ≡ first → longer ++ rest ≡ all ++ first ∷ rest
  joined first rest e = ap (λ xs. xs ++ rest) pushed ∙ (ap (λ c. (all ++ c ∷ []) ++ rest) e ∙ append_assoc all (first ∷ []) rest)

  -- one child more, with 1 as its basis
  pub unit_step : (E N K E' : List (List Term)) (g : List Term) → slice_get K i ≡ Some g
      → child ≡ case_like branch UnitKind E (with_member ring N g) (one ring ∷ []) → E' ≡ with_member ring E g
      → longer ++ unit_children ring branch E' N (drop (i + 1) K) ≡ all ++ unit_children ring branch E N (drop i K)
  unit_step E N K E' g at made next =
      ap (λ H. longer ++ unit_children ring branch H N (drop (i + 1) K)) next
      ∙ (joined (case_like branch UnitKind E (with_member ring N g) (one ring ∷ [])) (unit_children ring branch (with_member ring E g) N (drop (i + 1) K)) made
      ∙ ap (λ H. all ++ unit_children ring branch E N H) (sym (drop_at K i g at)))

  -- one child more, to be split
  pub split_step : (E N F H N' : List (List Term)) (h : List Term) → slice_get H i ≡ Some h → child ≡ case_like branch Split (with_member ring E h) N F
      → N' ≡ with_member ring N h
      → longer ++ split_children ring branch E N' F (drop (i + 1) H) ≡ all ++ split_children ring branch E N F (drop i H)
  split_step E N F H N' h at made next =
      ap (λ K. longer ++ split_children ring branch E K F (drop (i + 1) H)) next
      ∙ (joined (case_like branch Split (with_member ring E h) N F) (split_children ring branch E (with_member ring N h) F (drop (i + 1) H)) made
      ∙ ap (λ K. all ++ split_children ring branch E N F K) (sym (drop_at H i h at)))

-- the parts of a basis G of a branch, as its code finds them: K without variables, and O with them

module _ (inside branch : Case) (view : inside ≡ branch) (r : IsRing inside.ring) (G : List (List Term)) (h : ArePolys branch.ring G) where
  basis_polys : ArePolys inside.ring G
  basis_polys = subst (λ ring. ArePolys ring G) (sym (ap (λ (k : Case). k.ring) view)) h

  pub parametric_kept : (K : List (List Term)) → K ≡ parametric_members inside.ring G → AllByRecursion (IsCondition inside.ring) K
  parametric_kept K k = subst (λ L. AllByRecursion (IsCondition inside.ring) L) (sym k) (parametric_conditions inside.ring r G basis_polys)

  module _ (O : List (List Term)) (o : O ≡ other_members inside.ring G) where
    pub others_kept : ArePolys inside.ring O
    others_kept = subst (λ L. ArePolys inside.ring L) (sym o) (other_polys inside.ring r G basis_polys)
