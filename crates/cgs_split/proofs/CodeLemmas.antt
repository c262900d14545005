-- The parts of a node, as its code finds them.
use Rattle.std.proofs.Common.{ℕ, ◌≡◌, Bool, true, false, cond, None, Result, List, refl, sym, ap, ◌∙◌, subst}
use Rattle.std.specs.Prelude.{IfOk}
use Rattle.std.proofs.lemmas.Result.{IfOk-weaker}
use Rattle.cgs_list.proofs.ListLemmas.{all_weaker}
use Rattle.cgs_poly.specs.Polynomial.{IsPoly, IsCanonical, Term}
use Rattle.cgs_radical.proofs.TestLemmas.{conditions_parametric}
use Rattle.cgs_split.specs.Cases.{IsPrepared, Case}
use Rattle.cgs_split.specs.Soundness.{IsBranch, IsGood}
use Rattle.cgs_split.specs.Trees.{own_entries, IsSoundNode}
use Rattle.cgs_split.proofs.TreeLemmas.{node_sound}
use Rattle.cgs_split.proofs.NodeRunLemmas.{node_is_node}
use Rattle.cgs_algebra.specs.Stability.{other_members}
use Rattle.cgs_entry.specs.declared.entry.Cause.TheVariants.{Depth}
use Rattle.cgs_entry.specs.declared.entry.EntryKind.TheVariants.{Solved, Refused}
use Rattle.cgs_dickson.specs.Dickson.{minimal_dickson}
use Rattle.cgs_divide.specs.Ending.{Ending}
use Rattle.cgs_radical.specs.EmptinessRun.{is_one_alone, emptiness_run}
use Rattle.cgs_split.specs.Nodes.{children_of}
use Rattle.cgs_split.specs.NodeRun.{Node, settled, is_too_deep, with_basis, after_emptiness, node_of}

abbrev emptied : Case → Ending Bool
emptied branch = emptiness_run branch.ring branch.zero branch.nonzero branch.limits.budget

abbrev by_depth : Case → List ℕ → Bool → Ending Bool → Node
by_depth branch path deep run = cond deep (settled branch path (Refused Depth)) (after_emptiness branch path run)

-- what a branch gives that is too deep
pub deep_node : (branch : Case) (path : List ℕ) → is_too_deep branch path ≡ true → settled branch path (Refused Depth) ≡ node_of branch path
unfolding node_of
deep_node branch path t = sym (ap (λ b. by_depth branch path b (emptied branch)) t)

-- what another gives, by its emptiness run
pub run_node : (branch : Case) (path : List ℕ) → is_too_deep branch path ≡ false → after_emptiness branch path (emptied branch) ≡ node_of branch path
unfolding node_of
run_node branch path t = sym (ap (λ b. by_depth branch path b (emptied branch)) t)

pub divided_is : (branch : Case) (path : List ℕ) (G : List (List Term)) (children : List Case) → is_one_alone branch.ring G ≡ false
    → children ≡ children_of branch.ring branch G (minimal_dickson branch.ring (other_members branch.ring G)) → (None, children) ≡ with_basis branch path G
divided_is branch path G children t e =
    let rest : Node = (None, children_of branch.ring branch G (minimal_dickson branch.ring (other_members branch.ring G))) in
    let pair : (c : List Case) → Node = λ c. (None, c) in
    ap pair e ∙ sym (ap (λ b. cond b (settled branch path (Solved G true))
    (pair (children_of branch.ring branch G (minimal_dickson branch.ring (other_members branch.ring G))))) t)

-- what a program keeps is a branch
prepared_branch : (branch : Case) → IsPrepared branch.ring branch.zero branch.nonzero branch.polys → IsBranch branch.ring branch
prepared_branch branch p = record {
  of = refl;
  zero = conditions_parametric branch.ring branch.zero p.zero;
  nonzero = conditions_parametric branch.ring branch.nonzero p.nonzero;
  polys = all_weaker (IsPoly branch.ring) (IsCanonical branch.ring) branch.polys p.polys (λ f h. h.canonical);
}

module _ (branch inside : Case) (path : List ℕ) (view : inside ≡ branch) (kept : IsPrepared inside.ring inside.zero inside.nonzero inside.polys) where
  -- the node of a good branch is sound
  pub made_sound : (node : Node) → node ≡ node_of branch path → IsGood branch.ring branch → IsSoundNode branch.ring branch (own_entries node.0) node.1
  made_sound node is good =
      let prepared = subst (λ (b : Case). IsPrepared b.ring b.zero b.nonzero b.polys) view kept in
      let valid = prepared_branch branch prepared in
      let of = node_of branch path in
      subst (λ (n : Node). IsSoundNode branch.ring branch (own_entries n.0) n.1) (sym is)
      (node_sound branch.ring prepared.valid branch path (own_entries of.0) of.1 valid good (node_is_node branch.ring branch path prepared.valid valid))

  -- the same of what a call gives
  pub node_made_sound : {E : Type 0} (r : Result Node E) → IfOk r (λ node. node ≡ node_of branch path) → IsGood branch.ring branch
      → IfOk r (λ node. IsSoundNode branch.ring branch (own_entries node.0) node.1)
  node_made_sound r h good = IfOk-weaker r _ _ (λ node is. made_sound node is good) h
