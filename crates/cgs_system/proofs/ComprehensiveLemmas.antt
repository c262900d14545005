-- The exact list of a problem is comprehensive: its nodes are nodes, and its trees are trees.
use Rattle.std.proofs.Common.{ℕ, ◌≡◌, ◌+◌, true, List, [], ◌∷◌, map, refl, sym, ap, subst}
use Rattle.std.specs.List.{AllByRecursion}
use Rattle.cgs_poly.specs.Ring.{Ring}
use Rattle.cgs_poly.specs.Polynomial.{IsRing}
use Rattle.cgs_algebra.specs.Stability.{other_members}
use Rattle.cgs_entry.specs.declared.entry.Entry.{Entry}
use Rattle.cgs_dickson.specs.Dickson.{minimal_dickson}
use Rattle.cgs_radical.proofs.PointLemmas.{contradiction_has_no_point}
use Rattle.cgs_split.specs.declared.kind.Limits.{Limits}
use Rattle.cgs_split.specs.Cases.{Case}
use Rattle.cgs_split.specs.Soundness.{IsBranch}
use Rattle.cgs_split.specs.Trees.{IsNode, AreTreesOf, root_case}
use Rattle.cgs_split.specs.Trees as limited
use Rattle.cgs_split.proofs.NodeRunLemmas.{reduced_has_basis, never_met}
use Rattle.cgs_split.proofs.TreeLemmas.{node_valid, root_valid, tree_comprehensive}
use Rattle.cgs_system.specs.ExactList.{IsExactNode, empty, solved, whole, divided, at_paths, AreExactTrees, none, tree}
use Rattle.cgs_system.specs.Laws.{ExactListIsComprehensive}

module _ (ring : Ring) (r : IsRing ring) where
  exact_is_node : (branch : Case) → IsBranch ring branch → (path : List ℕ) (own : List Entry) (children : List Case)
      → IsExactNode ring branch path own children → IsNode ring branch path own children
  exact_is_node branch ok path own children (empty c) =
      limited.empty (never_met ring branch (λ a point. contradiction_has_no_point ring branch.zero branch.nonzero a r ok.zero ok.nonzero c))
  exact_is_node branch ok path own children (solved c k) = limited.solved k true
  exact_is_node branch ok path own children (whole c k h) = limited.whole k h.reduced.minimal.groebner true
  exact_is_node branch ok path own children (divided c k G h n) =
      limited.divided k G (minimal_dickson ring (other_members ring G)) (reduced_has_basis ring branch G h.reduced h.ascending)

  abbrev without_paths : List (List ℕ × Case) → List Case
  without_paths branches = map (λ b. b.1) branches

  children_without : (path : List ℕ) (i : ℕ) (children : List Case) → without_paths (at_paths path i children) ≡ children
  children_without path i [] = refl
  children_without path i (child ∷ children) = ap (λ cs. child ∷ cs) (children_without path (i + 1) children)

  exact_are_trees : (branches : List (List ℕ × Case)) (entries : List Entry) → AreExactTrees ring branches entries
      → AllByRecursion (IsBranch ring) (without_paths branches) → AreTreesOf ring (without_paths branches) entries
  exact_are_trees branches entries none ok = limited.none
  exact_are_trees branches entries (tree path branch others children own below rest n t u) ok =
      let node = exact_is_node branch ok.0 path own children n in
      let same = children_without path 0 children in
      let valid = node_valid ring r branch ok.0 path own children node in
      limited.tree branch path children (without_paths others) own below rest node
      (subst (λ cs. AreTreesOf ring cs below) same
      (exact_are_trees (at_paths path 0 children) below t (subst (λ cs. AllByRecursion (IsBranch ring) cs) (sym same) valid)))
      (exact_are_trees others rest u ok.1)

pub exact_comprehensive : ExactListIsComprehensive
exact_comprehensive ring E N F entries r z n p h =
    let limits : Limits = record { budget = 0; depth = 0 } in
    tree_comprehensive ring r limits E N F z n p entries
    (exact_are_trees ring r (([], root_case ring limits E N F) ∷ []) entries (h limits) (root_valid ring r limits E N F z n p, tt))
