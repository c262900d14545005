-- The entries of a tree are of its root's ring: conditions and polynomials stay as a program keeps them from a branch to its children.
use Rattle.std.proofs.Common.{ℕ, zero, suc, ◌≡◌, ◌+◌, Bool, true, false, cond, Option, Some, None, List, [], ◌∷◌, ◌++◌, map, refl, sym, subst}
use Rattle.std.specs.Prelude.{IfSome}
use Rattle.std.specs.List.{AllByRecursion}
use Rattle.cgs_list.proofs.ListLemmas.{all_append}
use Rattle.cgs_poly.specs.Ring.{Ring}
use Rattle.cgs_poly.specs.Polynomial.{Term, IsRing, IsPoly, one, ArePolys}
use Rattle.cgs_algebra.specs.Stability.{parametric_members, other_members}
use Rattle.cgs_divide.specs.Ending.{Ending, ended, out_of_budget, out_of_degree}
use Rattle.cgs_basis.specs.BasisRun.{basis_run}
use Rattle.cgs_basis.proofs.LowLemmas.{basis_polys}
use Rattle.cgs_entry.specs.declared.entry.Cause.{Cause}
use Rattle.cgs_entry.specs.declared.entry.Cause.TheVariants.{Budget, Degree, Depth}
use Rattle.cgs_entry.specs.declared.entry.EntryKind.{EntryKind}
use Rattle.cgs_entry.specs.declared.entry.EntryKind.TheVariants.{Solved, Refused}
use Rattle.cgs_poly.specs.Parameters.{IsCondition}
use Rattle.cgs_entry.specs.Conditions.{with_member, with_members}
use Rattle.cgs_entry.specs.Entries.{IsFound, IsEntry}
use Rattle.cgs_dickson.specs.Dickson.{minimal_dickson, coefficient_list}
use Rattle.cgs_radical.specs.EmptinessRun.{is_one_alone, emptiness_run}
use Rattle.cgs_board.specs.Tree.{each_from, preorder_to, preorder, entry_at, entry_of, entries_of}
use Rattle.cgs_split.specs.declared.kind.BranchKind.{BranchKind}
use Rattle.cgs_split.specs.declared.kind.BranchKind.TheVariants.{Split, Main}
use Rattle.cgs_split.specs.declared.kind.BranchKind.TheVariants.{Unit as UnitKind}
use Rattle.cgs_split.specs.declared.kind.Limits.{Limits}
use Rattle.cgs_split.specs.Cases.{Case, case_like, IsPrepared}
use Rattle.cgs_split.specs.Nodes.{unit_children, split_children, main_child, children_of}
use Rattle.cgs_split.specs.NodeRun.{Node, settled, by_kind, is_too_deep, after_basis, without_test, with_points, after_emptiness, node_of, height_of}
use Rattle.cgs_split.specs.Trees.{root_case}
use Rattle.cgs_split.specs.Laws.{EntriesAreOfRing}
use Rattle.cgs_poly.proofs.OneLemmas.{one_poly}
use Rattle.cgs_split.proofs.PreparedLemmas.{conditions_with, conditions_with_all, conditions_polys, parametric_conditions, other_polys, dickson_polys}
use Rattle.cgs_split.proofs.PreparedLemmas.{coefficient_conditions}

-- what a tree keeps from a branch to its children holds of all entries, if it holds of the entry of each node that keeps it

each_image : {X Y : Type 0} (P : Y → Type 0) (f : X → Y) (xs : List X) → AllByRecursion (λ x. P (f x)) xs → AllByRecursion P (map f xs)
each_image P f [] h = tt
each_image P f (x ∷ xs) h = (h.0, each_image P f xs h.1)

module _ {J E : Type 0} (node : J → List ℕ → Option E × List J) (Q : J → Type 0) (P : E → Type 0)
    (keeps : (branch : J) (path : List ℕ) → Q branch → IfSome (node branch path).0 P × AllByRecursion Q (node branch path).1) where
  abbrev Holds : List ℕ × E → Type 0
  Holds found = P found.1

  abbrev tree : ℕ → J → List ℕ → List (List ℕ × E)
  tree levels branch path = preorder_to node (entry_of node) levels branch path

  abbrev trees_from : ℕ → List ℕ → ℕ → List J → List (List ℕ × E)
  trees_from levels path i children = each_from (λ i child. tree levels child (path ++ i ∷ [])) i children

  own_each : (path : List ℕ) (entry : Option E) → IfSome entry P → AllByRecursion Holds (entry_at path entry)
  own_each path None h = tt
  own_each path (Some entry) h = (h, tt)

  below_each : (levels : ℕ) (path : List ℕ) → ((branch : J) (path : List ℕ) → Q branch → AllByRecursion Holds (tree levels branch path))
      → (i : ℕ) (children : List J) → AllByRecursion Q children → AllByRecursion Holds (trees_from levels path i children)
  below_each levels path ih i [] h = tt
  below_each levels path ih i (child ∷ children) h =
      all_append Holds (tree levels child (path ++ i ∷ [])) (trees_from levels path (i + 1) children) (ih child (path ++ i ∷ []) h.0)
      (below_each levels path ih (i + 1) children h.1)

  preorder_each : (levels : ℕ) (branch : J) (path : List ℕ) → Q branch → AllByRecursion Holds (tree levels branch path)
  preorder_each zero branch path h = tt
  preorder_each (suc levels) branch path h =
      let k = keeps branch path h in
      all_append Holds (entry_of node branch path) (trees_from levels path 0 (node branch path).1) (own_each path (node branch path).0 k.0)
      (below_each levels path (preorder_each levels) 0 (node branch path).1 k.1)

  pub tree_each : (height : J → List ℕ → ℕ) (branch : J) → Q branch → AllByRecursion P (map (λ found. found.1) (entries_of node height branch []))
  unfolding preorder
  tree_each height branch h =
      let levels : ℕ = suc (height branch []) in
      each_image P (λ found. found.1) (tree levels branch []) (preorder_each levels branch [] h)

-- a branch over a ring: its conditions are in the parameters alone, and its polynomials are of the ring
pub record IsCase (ring : Ring) (branch : Case) : Type 0 where
  pub of : branch.ring ≡ ring
  pub prepared : IsPrepared ring branch.zero branch.nonzero branch.polys

-- a node whose entry and whose children are over the ring
abbrev pub IsNodeOver : Ring → Node → Type 0
IsNodeOver ring node = IfSome node.0 (IsEntry ring) × AllByRecursion (IsCase ring) node.1

-- the node of a branch over its own ring

module _ (branch : Case) (path : List ℕ) (h : IsPrepared branch.ring branch.zero branch.nonzero branch.polys) where
  abbrev own : Ring
  own = branch.ring

  abbrev AreConditions : List (List Term) → Type 0
  AreConditions E = AllByRecursion (IsCondition branch.ring) E

  abbrev AreCases : List Case → Type 0
  AreCases children = AllByRecursion (IsCase branch.ring) children

  child_case : (kind : BranchKind) (E N F : List (List Term)) → AreConditions E → AreConditions N → ArePolys own F
      → IsCase own (case_like branch kind E N F)
  child_case kind E N F e n f = record { of = refl; prepared = record { valid = h.valid; zero = e; nonzero = n; polys = f } }

  unit_cases : (E N K : List (List Term)) → AreConditions E → AreConditions N → AreConditions K → AreCases (unit_children own branch E N K)
  unit_cases E N [] e n k = tt
  unit_cases E N (g ∷ K) e n k = (
    child_case UnitKind E (with_member own N g) (one own ∷ []) e (conditions_with own h.valid N g n k.0) (one_poly own h.valid, tt),
    unit_cases (with_member own E g) N K (conditions_with own h.valid E g e k.0) n k.1,
  )

  split_cases : (E N F H : List (List Term)) → AreConditions E → AreConditions N → ArePolys own F → AreConditions H
      → AreCases (split_children own branch E N F H)
  split_cases E N F [] e n f k = tt
  split_cases E N F (c ∷ H) e n f k = (
    child_case Split (with_member own E c) N F (conditions_with own h.valid E c e k.0) n f,
    split_cases E (with_member own N c) F H e (conditions_with own h.valid N c n k.0) f k.1,
  )

  children_cases : (G M : List (List Term)) → ArePolys own G → ArePolys own M → AreCases (children_of own branch G M)
  children_cases G M g m =
      let E : List (List Term) = parametric_members own G in
      let H : List (List Term) = coefficient_list own M in
      let F : List (List Term) = other_members own G in
      let e : AreConditions E = parametric_conditions own h.valid G g in
      let k : AreConditions H = coefficient_conditions own h.valid M m in
      let n : AreConditions (with_members own branch.nonzero H) = conditions_with_all own h.valid branch.nonzero H h.nonzero k in
      let units : List Case = unit_children own branch branch.zero branch.nonzero E in
      let splits : List Case = split_children own branch E branch.nonzero F H in
      all_append (IsCase own) units (main_child own branch G M ∷ splits) (unit_cases branch.zero branch.nonzero E h.zero h.nonzero e)
      (child_case Main E (with_members own branch.nonzero H) M e n m, split_cases E branch.nonzero F H e h.nonzero (other_polys own h.valid G g) k)

  settled_over : (kind : EntryKind) → IsFound own kind → IsNodeOver own (settled branch path kind)
  settled_over kind found = (record { zero = h.zero; nonzero = h.nonzero; found = found }, tt)

  basis_over : (units : ℕ) (run : Ending (List (List Term))) → basis_run own (branch.polys ++ branch.zero) units ≡ run
      → IsNodeOver own (after_basis branch path run)
  basis_over units (ended G left) e = by_one (is_one_alone own G)
    where
      generators : ArePolys own (branch.polys ++ branch.zero)
      generators = all_append (IsPoly own) branch.polys branch.zero h.polys (conditions_polys own h.valid branch.zero h.zero)

      basis : ArePolys own G
      basis =
          let F : List (List Term) = branch.polys ++ branch.zero in
          basis_polys own h.valid F G units left generators e

      others : ArePolys own (other_members branch.ring G)
      others = other_polys own h.valid G basis

      by_one : (b : Bool)
          → IsNodeOver own (cond b (settled branch path (Solved G true)) (None, children_of own branch G (minimal_dickson own (other_members own G))))
      by_one true = settled_over (Solved G true) basis
      by_one false = (tt, children_cases G (minimal_dickson own (other_members own G)) basis (dickson_polys own h.valid (other_members own G) others))
  basis_over units (out_of_budget left) e = settled_over (Refused Budget) tt
  basis_over units (out_of_degree left) e = settled_over (Refused Degree) tt

  by_kind_over : (kind : BranchKind) (x y : Node) → IsNodeOver own x → IsNodeOver own y → IsNodeOver own (by_kind kind x y)
  by_kind_over Split x y hx hy = hx
  by_kind_over UnitKind x y hx hy = hy
  by_kind_over Main x y hx hy = hy

  untested_over : (cause : Cause) → IsNodeOver own (without_test branch path cause)
  untested_over cause =
      let x : Node = settled branch path (Refused cause) in
      let y : Node = settled branch path (Solved branch.polys false) in
      by_kind_over branch.kind x y (settled_over (Refused cause) tt) (settled_over (Solved branch.polys false) h.polys)

  points_over : (units : ℕ) → IsNodeOver own (with_points branch path units)
  points_over units =
      let run : Ending (List (List Term)) = basis_run own (branch.polys ++ branch.zero) units in
      let y : Node = settled branch path (Solved branch.polys true) in
      by_kind_over branch.kind (after_basis branch path run) y (basis_over units run refl) (settled_over (Solved branch.polys true) h.polys)

  emptiness_over : (run : Ending Bool) → IsNodeOver own (after_emptiness branch path run)
  emptiness_over (ended true units) = (tt, tt)
  emptiness_over (ended false units) = points_over units
  emptiness_over (out_of_budget units) = untested_over Budget
  emptiness_over (out_of_degree units) = untested_over Degree

  node_over : IsNodeOver own (node_of branch path)
  unfolding node_of
  node_over = by_depth (is_too_deep branch path) (emptiness_run own branch.zero branch.nonzero branch.limits.budget)
    where
      by_depth : (b : Bool) (run : Ending Bool) → IsNodeOver own (cond b (settled branch path (Refused Depth)) (after_emptiness branch path run))
      by_depth true run = settled_over (Refused Depth) tt
      by_depth false run = emptiness_over run

pub node_is_over : (ring : Ring) (branch : Case) (path : List ℕ) → IsCase ring branch → IsNodeOver ring (node_of branch path)
node_is_over ring branch path h =
    let prepared = subst (λ ring. IsPrepared ring branch.zero branch.nonzero branch.polys) (sym h.of) h.prepared in
    subst (λ ring. IsNodeOver ring (node_of branch path)) h.of (node_over branch path prepared)

-- the branch of given polynomials under given conditions
pub root_is_case : (ring : Ring) (limits : Limits) (E N F : List (List Term)) → IsRing ring → AllByRecursion (IsCondition ring) E
    → AllByRecursion (IsCondition ring) N → ArePolys ring F → IsCase ring (root_case ring limits E N F)
root_is_case ring limits E N F r e n f = record {
  of = refl;
  prepared = record { valid = r; zero = conditions_with_all ring r [] E tt e; nonzero = conditions_with_all ring r [] N tt n; polys = f };
}

pub entries_are_of_ring : EntriesAreOfRing
entries_are_of_ring ring limits E N F r e n f =
    tree_each node_of (IsCase ring) (IsEntry ring) (node_is_over ring) height_of (root_case ring limits E N F) (root_is_case ring limits E N F r e n f)
