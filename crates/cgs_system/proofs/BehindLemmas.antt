-- The trees of a part, put behind the path of the entry that was refused, are those of its branch.
use Rattle.std.proofs.Common.{ℕ, ◌≡◌, ◌+◌, List, [], ◌∷◌, ◌++◌, map, refl, sym, ap, ◌∙◌, subst, append_assoc}
use Rattle.std.proofs.lemmas.List.{append-nil, map-append}
use Rattle.cgs_poly.specs.Ring.{Ring}
use Rattle.cgs_poly.specs.Polynomial.{Term}
use Rattle.cgs_algebra.proofs.SameIdealLemmas.{same_ideal_bases}
use Rattle.cgs_entry.specs.declared.entry.Entry.{Entry}
use Rattle.cgs_split.specs.declared.kind.BranchKind.TheVariants.{Split}
use Rattle.cgs_split.specs.declared.kind.Limits.{Limits}
use Rattle.cgs_split.specs.Cases.{Case, case_of}
use Rattle.cgs_split.specs.Soundness.{IsBranch}
use Rattle.cgs_split.specs.Trees.{root_case}
use Rattle.cgs_system.specs.ExactList.{IsReducedBasisOf, IsExactNode, empty, solved, whole, divided, at_paths, AreExactTrees, none, tree}
use Rattle.cgs_system.specs.Joining.{behind}
use Rattle.cgs_system.proofs.UniquenessLemmas.{first_same, others_same}
use Rattle.cgs_system.proofs.ExactNodeLemmas.{limited}
use Rattle.cgs_system.proofs.ProblemLemmas.{IsApart}

module _ (ring : Ring) where
  -- behind a path

  abbrev branch_behind : List ℕ → List ℕ × Case → List ℕ × Case
  branch_behind path branch = (path ++ branch.0, branch.1)

  node_behind : (path q : List ℕ) (branch : Case) (own : List Entry) (children : List Case) → IsExactNode ring branch q own children
      → IsExactNode ring branch (path ++ q) (map (behind path) own) children
  node_behind path q branch own children (empty c) = empty c
  node_behind path q branch own children (solved c k) = solved c k
  node_behind path q branch own children (whole c k h) = whole c k h
  node_behind path q branch own children (divided c k G h n) = divided c k G h n

  paths_behind : (path q : List ℕ) (i : ℕ) (children : List Case) → map (branch_behind path) (at_paths q i children) ≡ at_paths (path ++ q) i children
  paths_behind path q i [] = refl
  paths_behind path q i (child ∷ children) =
      ap (λ p. (p, child) ∷ map (branch_behind path) (at_paths q (i + 1) children)) (sym (append_assoc path q (i ∷ [])))
      ∙ ap (λ bs. ((path ++ q) ++ i ∷ [], child) ∷ bs) (paths_behind path q (i + 1) children)

  trees_behind : (path : List ℕ) (branches : List (List ℕ × Case)) (entries : List Entry) → AreExactTrees ring branches entries
      → AreExactTrees ring (map (branch_behind path) branches) (map (behind path) entries)
  trees_behind path branches entries none = none
  trees_behind path branches entries (tree q branch others children own below rest n t u) =
      let apart : map (behind path) (own ++ below ++ rest) ≡ map (behind path) own ++ map (behind path) below ++ map (behind path) rest =
      map-append (behind path) (own ++ below) rest ∙ ap (λ es. es ++ map (behind path) rest) (map-append (behind path) own below) in
      subst (λ es. AreExactTrees ring ((path ++ q, branch) ∷ map (branch_behind path) others) es) (sym apart)
      (tree (path ++ q) branch (map (branch_behind path) others) children (map (behind path) own) (map (behind path) below) (map (behind path) rest)
      (node_behind path q branch own children n)
      (subst (λ bs. AreExactTrees ring bs (map (behind path) below)) (paths_behind path q 0 children)
      (trees_behind path (at_paths q 0 children) below t)) (trees_behind path others rest u))

  -- side by side

  trees_beside : (branches others : List (List ℕ × Case)) (entries rest : List Entry) → AreExactTrees ring branches entries
      → AreExactTrees ring others rest → AreExactTrees ring (branches ++ others) (entries ++ rest)
  trees_beside branches others entries rest none u = u
  trees_beside branches others entries rest (tree q branch more children own below after n t v) u =
      subst (λ es. AreExactTrees ring ((q, branch) ∷ more ++ others) es) (sym (append_assoc (own ++ below) after rest))
      (tree q branch (more ++ others) children own below (after ++ rest) n t (trees_beside more others after rest v u))

  pub no_trees : (branches : List (List ℕ × Case)) (entries : List Entry) → branches ≡ [] → AreExactTrees ring branches entries → entries ≡ []
  no_trees branches entries e none = refl
  no_trees branches entries e (tree q branch others children own below rest n t u) = absurd (cc)

  -- from other polynomials

  -- a branch that is to be split has the node of one with the same conditions and ideal
  node_apart : (F : List (List Term)) (limits : Limits) (branch : Case) → IsApart ring F branch → (path : List ℕ) (own : List Entry) (children : List Case)
      → IsExactNode ring (case_of ring limits Split branch.zero branch.nonzero F) path own children
      → IsExactNode ring (case_of ring limits Split branch.zero branch.nonzero branch.polys) path own children
  node_apart F limits branch apart path own children n = by_node own children n
    where
      based : (G : List (List Term)) → IsReducedBasisOf ring (case_of ring limits Split branch.zero branch.nonzero F) G
          → IsReducedBasisOf ring (case_of ring limits Split branch.zero branch.nonzero branch.polys) G
      based G h = record {
        reduced = (same_ideal_bases ring (F ++ branch.zero) (branch.polys ++ branch.zero) G apart.ideal).2.0 h.reduced;
        ascending = h.ascending;
      }

      by_node : (own : List Entry) (children : List Case)
          → IsExactNode ring (case_of ring limits Split branch.zero branch.nonzero F) path own children
          → IsExactNode ring (case_of ring limits Split branch.zero branch.nonzero branch.polys) path own children
      by_node own children (empty c) = empty c
      by_node own children (solved c k) = absurd (k refl)
      by_node own children (whole c k h) = whole c k (based _ h)
      by_node own children (divided c k G h m) = divided c k G (based G h) m

  -- the tree of a branch is that of another one with its nodes
  trees_by_node : (path : List ℕ) (b c : Case)
      → ((own : List Entry) (children : List Case) → IsExactNode ring b path own children → IsExactNode ring c path own children)
      → (branches : List (List ℕ × Case)) (entries : List Entry) → branches ≡ (path, b) ∷ [] → AreExactTrees ring branches entries
      → AreExactTrees ring ((path, c) ∷ []) entries
  trees_by_node path b c f branches entries e none = absurd (cc)
  trees_by_node path b c f branches entries e (tree q branch others children own below rest n t u) =
      let first : ◌≡◌ {A = List ℕ × Case} (q, branch) (path, b) = first_same (q, branch) (path, b) others [] e in
      let same_path : q ≡ path = ap {A = List ℕ × Case} (λ x. x.0) first in
      let same_branch : branch ≡ b = ap {A = List ℕ × Case} (λ x. x.1) first in
      let here : IsExactNode ring b path own children =
      subst (λ x. IsExactNode ring b x own children) same_path (subst (λ x. IsExactNode ring x q own children) same_branch n) in
      tree path c [] children own below rest (f own children here) (subst (λ p. AreExactTrees ring (at_paths p 0 children) below) same_path t)
      (subst (λ bs. AreExactTrees ring bs rest) (others_same (q, branch) (path, b) others [] e) u)

  -- the exact list of a refused branch's problem is that of the branch's tree, behind its path
  pub part_is_tree : (F : List (List Term)) (limits : Limits) (branch : Case) → IsBranch ring branch → branch.kind ≡ Split → IsApart ring F branch
      → (path : List ℕ) (others : List (List ℕ × Case)) (part rest : List Entry)
      → AreExactTrees ring (([], root_case ring limits branch.zero branch.nonzero F) ∷ []) part → AreExactTrees ring others rest
      → AreExactTrees ring ((path, limited limits branch) ∷ others) (map (behind path) part ++ rest)
  part_is_tree F limits branch ok split apart path others part rest t u =
      let root : root_case ring limits branch.zero branch.nonzero F ≡ case_of ring limits Split branch.zero branch.nonzero F = cc (apart.zero, apart.nonzero) in
      let same : case_of ring limits Split branch.zero branch.nonzero branch.polys ≡ limited limits branch = cc (ok.of, split) in
      let here : AreExactTrees ring (([], limited limits branch) ∷ []) part =
      subst (λ b. AreExactTrees ring (([], b) ∷ []) part) same
      (trees_by_node [] (case_of ring limits Split branch.zero branch.nonzero F) (case_of ring limits Split branch.zero branch.nonzero branch.polys)
      (node_apart F limits branch apart []) (([], case_of ring limits Split branch.zero branch.nonzero F) ∷ []) part refl
      (subst (λ b. AreExactTrees ring (([], b) ∷ []) part) root t)) in
      let moved : AreExactTrees ring ((path, limited limits branch) ∷ []) (map (behind path) part) =
      subst (λ p. AreExactTrees ring ((p, limited limits branch) ∷ []) (map (behind path) part)) (append-nil path)
      (trees_behind path (([], limited limits branch) ∷ []) part here) in
      trees_beside ((path, limited limits branch) ∷ []) others (map (behind path) part) rest moved u
