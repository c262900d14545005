-- The height of a branch is above that of its children.
use Rattle.std.proofs.Common.{ℕ, ◌≡◌, ◌+◌, ◌-◌, ◌<◌, ◌≤◌, Bool, true, false, cond, nat_lt, max, Some, None, List, [], ◌∷◌, ◌++◌, length, refl, ap, arith}
use Rattle.std.specs.List.{AllByRecursion}
use Rattle.std.specs.Prelude.{slice_get}
use Rattle.std.proofs.lemmas.List.{length-append}
use Rattle.std.proofs.lemmas.Bool.{ltb-false}
use Rattle.cgs_poly.specs.Ring.{Ring}
use Rattle.cgs_poly.specs.Polynomial.{Term}
use Rattle.cgs_algebra.specs.Stability.{parametric_members, other_members}
use Rattle.cgs_divide.specs.Ending.{Ending, ended, out_of_budget, out_of_degree}
use Rattle.cgs_basis.specs.BasisRun.{basis_run}
use Rattle.cgs_entry.specs.Conditions.{with_member}
use Rattle.cgs_entry.specs.declared.entry.Cause.TheVariants.{Budget, Degree, Depth}
use Rattle.cgs_entry.specs.declared.entry.EntryKind.TheVariants.{Solved, Refused}
use Rattle.cgs_list.proofs.ListLemmas.{all_at, all_append}
use Rattle.cgs_dickson.specs.Dickson.{minimal_dickson, coefficient_list}
use Rattle.cgs_radical.specs.EmptinessRun.{is_one_alone, emptiness_run}
use Rattle.cgs_board.specs.Tree.{Falls}
use Rattle.cgs_split.specs.declared.kind.BranchKind.{BranchKind}
use Rattle.cgs_split.specs.declared.kind.BranchKind.TheVariants.{Split, Main}
use Rattle.cgs_split.specs.declared.kind.BranchKind.TheVariants.{Unit as UnitKind}
use Rattle.cgs_split.specs.declared.kind.Limits.{Limits}
use Rattle.cgs_split.specs.Cases.{Case}
use Rattle.cgs_split.specs.Nodes.{unit_children, split_children, main_child, children_of}
use Rattle.cgs_split.specs.NodeRun.{Node, settled, by_kind, is_too_deep, after_basis, after_emptiness, node_of, height_of}

low : (k : BranchKind) (n : ℕ) → by_kind k n 0 ≤ n
low Split n = omega arith
low UnitKind n = omega arith
low Main n = omega arith

module _ (branch : Case) (path : List ℕ) where
  abbrev IsAlike : Case → Type 0
  IsAlike child = child.limits ≡ branch.limits

  units_alike : (ring : Ring) (E N K : List (List Term)) → AllByRecursion IsAlike (unit_children ring branch E N K)
  units_alike ring E N [] = tt
  units_alike ring E N (g ∷ K) = (refl, units_alike ring (with_member ring E g) N K)

  splits_alike : (ring : Ring) (E N F H : List (List Term)) → AllByRecursion IsAlike (split_children ring branch E N F H)
  splits_alike ring E N F [] = tt
  splits_alike ring E N F (h ∷ H) = (refl, splits_alike ring E (with_member ring N h) F H)

  children_alike : (ring : Ring) (G M : List (List Term)) → AllByRecursion IsAlike (children_of ring branch G M)
  children_alike ring G M =
      all_append IsAlike (unit_children ring branch branch.zero branch.nonzero (parametric_members ring G))
      (main_child ring branch G M ∷ split_children ring branch (parametric_members ring G) branch.nonzero (other_members ring G)
      (coefficient_list ring M))
      (units_alike ring branch.zero branch.nonzero (parametric_members ring G))
      (refl, splits_alike ring (parametric_members ring G) branch.nonzero (other_members ring G) (coefficient_list ring M))

  -- each child is lower
  abbrev AreLower : Node → Type 0
  AreLower node = (i : ℕ) (child : Case) → slice_get node.1 i ≡ Some child → height_of child (path ++ i ∷ []) < height_of branch path

  abbrev no_case : List Case
  no_case = []

  childless : (i : ℕ) (child : Case) → slice_get no_case i ≡ Some child → height_of child (path ++ i ∷ []) < height_of branch path
  childless i child e = absurd (cc)

  module _ (split : branch.kind ≡ Split) (short : length path ≤ branch.limits.depth) where
    child_lower : (i : ℕ) (child : Case) → IsAlike child → height_of child (path ++ i ∷ []) < height_of branch path
    unfolding height_of
    child_lower i child same =
        let l : length (path ++ i ∷ []) ≡ length path + 1 = length-append path (i ∷ []) in
        let d : child.limits.depth ≡ branch.limits.depth = ap (λ (m : Limits). m.depth) same in
        let a = low child.kind (max 1 (child.limits.depth + 2 - length (path ++ i ∷ []))) in
        let b : by_kind branch.kind (max 1 (branch.limits.depth + 2 - length path)) 0 ≡ max 1 (branch.limits.depth + 2 - length path) = rw split refl in
        omega (arith, a, b, l, d, short)

    children_lower : (ring : Ring) (G M : List (List Term)) → AreLower (None, children_of ring branch G M)
    children_lower ring G M i child e = child_lower i child (all_at IsAlike (children_of ring branch G M) i child (children_alike ring G M) e)

    basis_lower : (run : Ending (List (List Term))) → AreLower (after_basis branch path run)
    basis_lower (ended G left) = by_one (is_one_alone branch.ring G)
      where
        by_one : (b : Bool) → AreLower
            (cond b (settled branch path (Solved G true))
            (None, children_of branch.ring branch G (minimal_dickson branch.ring (other_members branch.ring G))))
        by_one true = childless
        by_one false = children_lower branch.ring G (minimal_dickson branch.ring (other_members branch.ring G))
    basis_lower (out_of_budget left) = childless
    basis_lower (out_of_degree left) = childless

  kinds_lower : (k : BranchKind) → branch.kind ≡ k → (x y : Node) → (branch.kind ≡ Split → AreLower x) → AreLower y → AreLower (by_kind k x y)
  kinds_lower Split e x y hx hy = hx e
  kinds_lower UnitKind e x y hx hy = hy
  kinds_lower Main e x y hx hy = hy

  run_lower : (branch.kind ≡ Split → length path ≤ branch.limits.depth) → (run : Ending Bool) → AreLower (after_emptiness branch path run)
  run_lower short (ended true units) = childless
  run_lower short (ended false units) =
      kinds_lower branch.kind refl (after_basis branch path (basis_run branch.ring (branch.polys ++ branch.zero) units))
      (settled branch path (Solved branch.polys true))
      (λ s. basis_lower s (short s) (basis_run branch.ring (branch.polys ++ branch.zero) units)) (childless)
  run_lower short (out_of_budget units) =
      kinds_lower branch.kind refl (settled branch path (Refused Budget)) (settled branch path (Solved branch.polys false)) (λ s. childless) (childless)
  run_lower short (out_of_degree units) =
      kinds_lower branch.kind refl (settled branch path (Refused Degree)) (settled branch path (Solved branch.polys false)) (λ s. childless) (childless)

  node_lower : AreLower (node_of branch path)
  unfolding node_of
  node_lower = by_depth (is_too_deep branch path) refl
    where
      by_depth : (b : Bool) → is_too_deep branch path ≡ b
          → AreLower (cond b (settled branch path (Refused Depth))
          (after_emptiness branch path (emptiness_run branch.ring branch.zero branch.nonzero branch.limits.budget)))
      by_depth true t = childless
      by_depth false t = run_lower short (emptiness_run branch.ring branch.zero branch.nonzero branch.limits.budget)
        where
          short : branch.kind ≡ Split → length path ≤ branch.limits.depth
          short s = let u : nat_lt branch.limits.depth (length path) ≡ false = rw s at t in ltb-false branch.limits.depth (length path) u

pub heights_fall : Falls node_of height_of
heights_fall branch path i child e = node_lower branch path i child e
