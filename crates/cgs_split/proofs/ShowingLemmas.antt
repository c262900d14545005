-- A branch with a basis has 1 alone, or polynomials that have variables; so have its children with bases, and so has each entry of a tree.
use Rattle.std.proofs.Common.{ℕ, ◌≡◌, ◌⊎◌, inl, inr, Bool, true, false, cond, ◌&&◌, None, List, [], ◌∷◌, ◌++◌, refl, sym, subst}
use Rattle.std.specs.Prelude.{IfSome}
use Rattle.std.specs.List.{AllByRecursion}
use Rattle.std.proofs.lemmas.Slice.Eq.{slice_eq-Decides}
use Rattle.cgs_list.proofs.ListLemmas.{all_append}
use Rattle.cgs_poly.specs.Ring.{Ring}
use Rattle.cgs_poly.specs.Polynomial.{Term, one}
use Rattle.cgs_poly.specs.Parameters.{has_no_variables}
use Rattle.cgs_poly.proofs.SameLemmas.{same_poly_decides}
use Rattle.cgs_algebra.specs.Stability.{parametric_members, other_members}
use Rattle.cgs_divide.specs.Ending.{Ending, ended, out_of_budget, out_of_degree}
use Rattle.cgs_basis.specs.BasisRun.{basis_run}
use Rattle.cgs_entry.specs.declared.entry.Cause.{Cause}
use Rattle.cgs_entry.specs.declared.entry.Cause.TheVariants.{Budget, Degree, Depth}
use Rattle.cgs_entry.specs.declared.entry.EntryKind.TheVariants.{Solved, Refused}
use Rattle.cgs_entry.specs.Bases.{HaveVariables, IsOneOrHasVariables, ShowsOne}
use Rattle.cgs_entry.specs.Conditions.{with_member}
use Rattle.cgs_dickson.specs.Dickson.{minimal_dickson, has_minimal_lead_x, has_least_lead, coefficient_list}
use Rattle.cgs_radical.specs.EmptinessRun.{is_one_alone, emptiness_run}
use Rattle.cgs_split.specs.declared.kind.BranchKind.{BranchKind}
use Rattle.cgs_split.specs.declared.kind.BranchKind.TheVariants.{Split, Main}
use Rattle.cgs_split.specs.declared.kind.BranchKind.TheVariants.{Unit as UnitKind}
use Rattle.cgs_split.specs.Cases.{Case}
use Rattle.cgs_split.specs.Laws.{EntriesShowOne}
use Rattle.cgs_split.specs.Nodes.{unit_children, split_children, main_child, children_of}
use Rattle.cgs_split.specs.NodeRun.{Node, settled, by_kind, is_too_deep, after_basis, without_test, with_points, after_emptiness, node_of, height_of}
use Rattle.cgs_split.specs.Trees.{root_case}
use Rattle.cgs_split.proofs.OfRingLemmas.{tree_each}
use Rattle.cgs_split.proofs.PreparedLemmas.{filter_each}

-- a branch that is still to be split, or has such polynomials
record IsShowing (ring : Ring) (branch : Case) : Type 0 where
  of : branch.ring ≡ ring
  polys : (branch.kind ≡ Split) ⊎ IsOneOrHasVariables ring branch.polys

abbrev IsNodeShowing : Ring → Node → Type 0
IsNodeShowing ring node = IfSome node.0 (ShowsOne ring) × AllByRecursion (IsShowing ring) node.1

others_have_variables : (ring : Ring) (G : List (List Term)) → HaveVariables ring (other_members ring G)
others_have_variables ring [] = tt
others_have_variables ring (g ∷ G) = by_test (has_no_variables ring g) refl (others_have_variables ring G)
  where
    by_test : (b : Bool) → has_no_variables ring g ≡ b → HaveVariables ring (other_members ring G)
        → HaveVariables ring (cond b (other_members ring G) (g ∷ other_members ring G))
    by_test true e ih = ih
    by_test false e ih = (e, ih)

-- the node of a branch over its own ring

module _ (branch : Case) (path : List ℕ) (h : (branch.kind ≡ Split) ⊎ IsOneOrHasVariables branch.ring branch.polys) where
  abbrev own : Ring
  own = branch.ring

  abbrev AreShowing : List Case → Type 0
  AreShowing children = AllByRecursion (IsShowing branch.ring) children

  units_showing : (E N K : List (List Term)) → AreShowing (unit_children own branch E N K)
  units_showing E N [] = tt
  units_showing E N (g ∷ K) = (record { of = refl; polys = inr (inl refl) }, units_showing (with_member own E g) N K)

  splits_showing : (E N F H : List (List Term)) → AreShowing (split_children own branch E N F H)
  splits_showing E N F [] = tt
  splits_showing E N F (c ∷ H) = (record { of = refl; polys = inl refl }, splits_showing E (with_member own N c) F H)

  dickson_has_variables : (G : List (List Term)) → HaveVariables own (minimal_dickson own (other_members own G))
  dickson_has_variables G =
      let F : List (List Term) = other_members own G in
      filter_each (λ g. has_no_variables own g ≡ false) (λ g. has_minimal_lead_x own F g && has_least_lead own F g) F (others_have_variables own G)

  children_showing : (G : List (List Term)) → AreShowing (children_of own branch G (minimal_dickson own (other_members own G)))
  children_showing G =
      let M : List (List Term) = minimal_dickson own (other_members own G) in
      let E : List (List Term) = parametric_members own G in
      let units : List Case = unit_children own branch branch.zero branch.nonzero E in
      let splits : List Case = split_children own branch E branch.nonzero (other_members own G) (coefficient_list own M) in
      all_append (IsShowing own) units (main_child own branch G M ∷ splits) (units_showing branch.zero branch.nonzero E)
      (record { of = refl; polys = inr (inr (dickson_has_variables G)) }, splits_showing E branch.nonzero (other_members own G) (coefficient_list own M))

  basis_showing : (run : Ending (List (List Term))) → IsNodeShowing own (after_basis branch path run)
  basis_showing (ended G left) = by_one (is_one_alone own G) refl
    where
      by_one : (b : Bool) → is_one_alone own G ≡ b
          → IsNodeShowing own (cond b (settled branch path (Solved G true)) (None, children_of own branch G (minimal_dickson own (other_members own G))))
      by_one true e = (inl ((slice_eq-Decides same_poly_decides G (one own ∷ []) (is_one_alone own G) refl).0 e), tt)
      by_one false e = (tt, children_showing G)
  basis_showing (out_of_budget left) = (inr tt, tt)
  basis_showing (out_of_degree left) = (inr tt, tt)

  -- a branch that is not to be split has its basis
  polys_showing : (tested : Bool) → ¬ (branch.kind ≡ Split) → IsNodeShowing own (settled branch path (Solved branch.polys tested))
  polys_showing tested n = (elim h [ inl e ↦ absurd (n e) | inr q ↦ q ], tt)

  by_kind_showing : (kind : BranchKind) → branch.kind ≡ kind → (x y : Node) → IsNodeShowing own x → (¬ (branch.kind ≡ Split) → IsNodeShowing own y)
      → IsNodeShowing own (by_kind kind x y)
  by_kind_showing Split e x y hx hy = hx
  by_kind_showing UnitKind e x y hx hy = hy (λ s. cc (e, s))
  by_kind_showing Main e x y hx hy = hy (λ s. cc (e, s))

  untested_showing : (cause : Cause) → IsNodeShowing own (without_test branch path cause)
  untested_showing cause =
      let x : Node = settled branch path (Refused cause) in
      let y : Node = settled branch path (Solved branch.polys false) in
      by_kind_showing branch.kind refl x y (inr tt, tt) (polys_showing false)

  points_showing : (units : ℕ) → IsNodeShowing own (with_points branch path units)
  points_showing units =
      let run : Ending (List (List Term)) = basis_run own (branch.polys ++ branch.zero) units in
      let y : Node = settled branch path (Solved branch.polys true) in
      by_kind_showing branch.kind refl (after_basis branch path run) y (basis_showing run) (polys_showing true)

  emptiness_showing : (run : Ending Bool) → IsNodeShowing own (after_emptiness branch path run)
  emptiness_showing (ended true units) = (tt, tt)
  emptiness_showing (ended false units) = points_showing units
  emptiness_showing (out_of_budget units) = untested_showing Budget
  emptiness_showing (out_of_degree units) = untested_showing Degree

  node_showing : IsNodeShowing own (node_of branch path)
  unfolding node_of
  node_showing = by_depth (is_too_deep branch path) (emptiness_run own branch.zero branch.nonzero branch.limits.budget)
    where
      by_depth : (b : Bool) (run : Ending Bool) → IsNodeShowing own (cond b (settled branch path (Refused Depth)) (after_emptiness branch path run))
      by_depth true run = (inr tt, tt)
      by_depth false run = emptiness_showing run

node_is_showing : (ring : Ring) (branch : Case) (path : List ℕ) → IsShowing ring branch → IsNodeShowing ring (node_of branch path)
node_is_showing ring branch path h =
    let polys = subst (λ ring. (branch.kind ≡ Split) ⊎ IsOneOrHasVariables ring branch.polys) (sym h.of) h.polys in
    subst (λ ring. IsNodeShowing ring (node_of branch path)) h.of (node_showing branch path polys)

pub entries_show_one : EntriesShowOne
entries_show_one ring limits E N F =
    tree_each node_of (IsShowing ring) (ShowsOne ring) (node_is_showing ring) height_of (root_case ring limits E N F) (record { of = refl; polys = inl refl })
