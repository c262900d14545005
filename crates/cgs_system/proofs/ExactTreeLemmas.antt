-- A list joined with exact parts is the exact one, by induction over the tree; so is a list that no limit touches.
use Rattle.std.proofs.Common.{ℕ, zero, suc, ◌≡◌, ◌+◌, ◌<◌, cond, Some, List, [], ◌∷◌, ◌++◌, map, refl, sym, ap, ◌∙◌, subst, arith}
use Rattle.std.proofs.Common.{append_assoc}
use Rattle.std.specs.Prelude.{slice_get}
use Rattle.std.specs.List.{AllByRecursion}
use Rattle.std.proofs.lemmas.List.{append-nil, map-append}
use Rattle.cgs_list.proofs.ListLemmas.{all_parts}
use Rattle.cgs_poly.specs.Ring.{Ring}
use Rattle.cgs_poly.specs.Polynomial.{Term, IsRing, IsCanonical}
use Rattle.cgs_entry.specs.declared.entry.Entry.{Entry}
use Rattle.cgs_entry.specs.declared.entry.EntryKind.{EntryKind}
use Rattle.cgs_entry.specs.declared.entry.EntryKind.TheVariants.{Solved, Refused}
use Rattle.cgs_entry.specs.Entries.{is_refused, IsSound}
use Rattle.cgs_board.specs.Tree.{each_from, entry_of, entries_of}
use Rattle.cgs_board.proofs.TreeLemmas.{preorder_step}
use Rattle.cgs_split.specs.declared.kind.Limits.{Limits}
use Rattle.cgs_split.specs.Cases.{Case}
use Rattle.cgs_split.specs.Heights.{heights_fall}
use Rattle.cgs_split.specs.Laws.{entry_list}
use Rattle.cgs_split.specs.Soundness.{IsBranch}
use Rattle.cgs_split.specs.Trees.{IsNode, empty, solved, refused, whole, divided, root_case, own_entries}
use Rattle.cgs_split.specs.NodeRun.{node_of, height_of}
use Rattle.cgs_split.proofs.NodeRunLemmas.{node_is_node}
use Rattle.cgs_split.proofs.PreorderLemmas.{own_entry, nodes_comprehensive}
use Rattle.cgs_split.proofs.TreeLemmas.{node_valid, root_valid}
use Rattle.cgs_system.specs.ExactList.{IsExactNode, IsExactList, at_paths, AreExactTrees, none, tree, IsTested}
use Rattle.cgs_system.specs.Joining.{behind, joined, IsTestedOrHasExactPart}
use Rattle.cgs_system.specs.Laws.{part_of, JoinedListIsExact, TestedJoinIsExact, TestedListIsExact, TestedListsAgree}
use Rattle.cgs_system.proofs.UniquenessLemmas.{exact_unique}
use Rattle.cgs_system.proofs.ExactNodeLemmas.{node_exact, limited, exact_limited}
use Rattle.cgs_system.proofs.ProblemLemmas.{IsOfProblem, root_of_problem, below_of_problem}
use Rattle.cgs_system.proofs.BehindLemmas.{no_trees, part_is_tree}

abbrev AreTested : List Entry → Type 0
AreTested entries = AllByRecursion IsTested entries

-- the entries of a branch's tree, and of the trees of its children from number i on
abbrev listed : Case → List ℕ → List Entry
listed branch path = map (λ found. found.1) (entries_of node_of height_of branch path)

abbrev listed_from : List ℕ → ℕ → List Case → List Entry
listed_from path i children = map (λ found. found.1) (each_from (λ i child. entries_of node_of height_of child (path ++ i ∷ [])) i children)

-- a branch's own entry, and those of its children's trees
listed_step : (branch : Case) (path : List ℕ) → listed branch path ≡ own_entries (node_of branch path).0 ++ listed_from path 0 (node_of branch path).1
listed_step branch path =
    let own = entry_of node_of branch path in
    let below = each_from (λ i child. entries_of node_of height_of child (path ++ i ∷ [])) 0 (node_of branch path).1 in
    ap (λ es. map (λ found. found.1) es) (preorder_step node_of height_of heights_fall (entry_of node_of) branch path)
    ∙ (map-append (λ found. found.1) own below ∙ ap (λ es. es ++ listed_from path 0 (node_of branch path).1) (own_entry path (node_of branch path).0))

joined_append : (part : Entry → List Entry) (es fs : List Entry) → joined part (es ++ fs) ≡ joined part es ++ joined part fs
joined_append part [] fs = refl
joined_append part (e ∷ es) fs =
    let first : List Entry = cond (is_refused e) (map (behind e.path) (part e)) (e ∷ []) in
    ap (λ xs. first ++ xs) (joined_append part es fs) ∙ sym (append_assoc first (joined part es) (joined part fs))

module _ (ring : Ring) (r : IsRing ring) (limits : Limits) (F : List (List Term)) (polys_ok : AllByRecursion (IsCanonical ring) F)
    (part : Entry → List Entry) where
  abbrev AreServed : List Entry → Type 0
  AreServed entries = AllByRecursion (IsTestedOrHasExactPart ring F part) entries

  module _ (branch : Case) (path : List ℕ) (ok : IsBranch ring branch) (apart : IsOfProblem ring F branch) where
    -- the children of a node whose own entry is served
    below_node : (own : List Entry) (children : List Case) → IsNode ring branch path own children
        → (AreTested own → IsExactNode ring branch path own children) → AreServed own → AllByRecursion (IsOfProblem ring F) children
    below_node own children (empty c) exact s = tt
    below_node own children (solved k tested) exact s = tt
    below_node own children (refused k cause) exact s = tt
    below_node own children (whole k basis tested) exact s = tt
    below_node own children (divided k G M basis) exact s = below_of_problem ring r F polys_ok branch ok apart path own children (exact tt)

    -- the tree of such a node, with others beside it
    module _ (others : List (List ℕ × Case)) (below rest : List Entry) (beside : AreExactTrees ring others rest) where
      abbrev IsTreeOf : List Entry → Type 0
      IsTreeOf own = AreExactTrees ring ((path, limited limits branch) ∷ others) (joined part own ++ below ++ rest)

      by_exact : (own : List Entry) (children : List Case) → joined part own ≡ own → IsExactNode ring branch path own children
          → AreExactTrees ring (at_paths path 0 (map (limited limits) children)) below → IsTreeOf own
      by_exact own children same exact t =
          subst (λ es. AreExactTrees ring ((path, limited limits branch) ∷ others) (es ++ below ++ rest)) (sym same)
          (tree path (limited limits branch) others (map (limited limits) children) own below rest
          (exact_limited ring limits branch path own children exact) t beside)

      tree_of_node : (own : List Entry) (children : List Case) → IsNode ring branch path own children
          → (AreTested own → IsExactNode ring branch path own children) → AreServed own
          → AreExactTrees ring (at_paths path 0 (map (limited limits) children)) below → IsTreeOf own
      tree_of_node own children (empty c) exact s t = by_exact own children refl (exact tt) t
      tree_of_node own children (solved k tested) exact s t = by_exact own children refl (exact (s.0, tt)) t
      tree_of_node own children (whole k basis tested) exact s t = by_exact own children refl (exact (s.0, tt)) t
      tree_of_node own children (divided k G M basis) exact s t = by_exact own children refl (exact tt) t
      tree_of_node (e ∷ []) children (refused k cause) exact s t =
          let moved : List Entry = map (behind path) (part e) in
          let nothing : below ≡ [] = no_trees ring [] below refl t in
          let whole_list : (moved ++ []) ++ below ++ rest ≡ moved ++ rest =
          ap (λ es. (es ++ below) ++ rest) (append-nil moved) ∙ (ap (λ es. (moved ++ es) ++ rest) nothing ∙ ap (λ es. es ++ rest) (append-nil moved)) in
          subst (λ es. AreExactTrees ring ((path, limited limits branch) ∷ others) es) (sym whole_list)
          (part_is_tree ring F limits branch ok k (apart k) path others (part e) rest (s.0 limits) beside)

  -- the tree of each branch up to a height is exact when it is joined, and so are trees beside it
  abbrev AreExactBelow : ℕ → Type 0
  AreExactBelow height = (branch : Case) (path : List ℕ) (others : List (List ℕ × Case)) (rest : List Entry) → IsBranch ring branch
      → IsOfProblem ring F branch → height_of branch path < height → AreServed (listed branch path) → AreExactTrees ring others rest
      → AreExactTrees ring ((path, limited limits branch) ∷ others) (joined part (listed branch path) ++ rest)

  children_exact : (height : ℕ) → AreExactBelow height → (path : List ℕ) (i : ℕ) (children : List Case) → AllByRecursion (IsBranch ring) children
      → AllByRecursion (IsOfProblem ring F) children
      → ((k : ℕ) (child : Case) → slice_get children k ≡ Some child → height_of child (path ++ (i + k) ∷ []) < height)
      → AreServed (listed_from path i children)
      → AreExactTrees ring (at_paths path i (map (limited limits) children)) (joined part (listed_from path i children))
  children_exact height each path i [] ok apart low t = none
  children_exact height each path i (child ∷ children) ok apart low t =
      let here = listed child (path ++ i ∷ []) in
      let after = listed_from path (i + 1) children in
      let two_lists : listed_from path i (child ∷ children) ≡ here ++ after =
      map-append (λ found. found.1) (entries_of node_of height_of child (path ++ i ∷ []))
      (each_from (λ i child. entries_of node_of height_of child (path ++ i ∷ [])) (i + 1) children) in
      let two = all_parts (IsTestedOrHasExactPart ring F part) here after (subst AreServed two_lists t) in
      let z : i + 0 ≡ i = omega arith in
      subst (λ es. AreExactTrees ring (at_paths path i (map (limited limits) (child ∷ children))) es)
      (sym (ap (joined part) two_lists ∙ joined_append part here after))
      (each child (path ++ i ∷ []) (at_paths path (i + 1) (map (limited limits) children)) (joined part after) ok.0 apart.0
      (subst (λ n. height_of child (path ++ n ∷ []) < height) z (low 0 child refl)) two.0
      (children_exact height each path (i + 1) children ok.1 apart.1
      (λ k c e. let s : i + suc k ≡ (i + 1) + k = omega arith in subst (λ n. height_of c (path ++ n ∷ []) < height) s (low (suc k) c e)) two.1))

  tree_exact : (height : ℕ) → AreExactBelow height
  tree_exact zero branch path others rest ok apart low t beside = absurd (omega (arith, low))
  tree_exact (suc height) branch path others rest ok apart low t beside =
      let own = own_entries (node_of branch path).0 in
      let children = (node_of branch path).1 in
      let below = listed_from path 0 children in
      let two = all_parts (IsTestedOrHasExactPart ring F part) own below (subst AreServed (listed_step branch path) t) in
      let node = node_is_node ring branch path r ok in
      let exact = node_exact ring branch path r ok in
      subst (λ es. AreExactTrees ring ((path, limited limits branch) ∷ others) (es ++ rest))
      (sym (ap (joined part) (listed_step branch path) ∙ joined_append part own below))
      (tree_of_node branch path ok apart others (joined part below) rest beside own children node exact two.0
      (children_exact height (tree_exact height) path 0 children (node_valid ring r branch ok path own children node)
      (below_node branch path ok apart own children node exact two.0)
      (λ k child e. let f = heights_fall branch path k child e in let z : 0 + k ≡ k = omega arith in
      subst (λ n. height_of child (path ++ n ∷ []) < height) (sym z) (omega (arith, f, low))) two.1))

pub joined_exact : JoinedListIsExact
joined_exact ring limits E N F part r z n p t others =
    let root = root_case ring limits E N F in
    subst (λ es. AreExactTrees ring (([], root_case ring others E N F) ∷ []) es) (append-nil (joined part (listed root [])))
    (tree_exact ring r others F p part (suc (height_of root [])) root [] [] [] (root_valid ring r limits E N F z n p)
    (root_of_problem ring r F p limits E N z n) (omega arith) t none)

-- a list without refused entries is joined already

abbrev with_kind : Entry → EntryKind → Entry
with_kind e kind = record { path = e.path; conditions = e.conditions; kind = kind }

module _ (ring : Ring) (F : List (List Term)) (part : Entry → List Entry) where
  tested_served : (entries : List Entry) → AreTested entries → AllByRecursion (IsTestedOrHasExactPart ring F part) entries
  tested_served [] t = tt
  tested_served (e ∷ es) t = (by_kind e.kind t.0, tested_served es t.1)
    where
      by_kind : (k : EntryKind) → IsTested (with_kind e k) → IsTestedOrHasExactPart ring F part (with_kind e k)
      by_kind (Solved basis tested) t = t
      by_kind (Refused cause) t = absurd t

  joined_already : (entries : List Entry) → AreTested entries → joined part entries ≡ entries
  joined_already [] t = refl
  joined_already (e ∷ es) t = ap (λ xs. cond (is_refused e) (map (behind e.path) (part e)) (e ∷ []) ++ xs) (joined_already es t.1) ∙ by_kind e.kind t.0
    where
      by_kind : (k : EntryKind) → IsTested (with_kind e k)
          → cond (is_refused (with_kind e k)) (map (behind e.path) (part e)) (e ∷ []) ++ es ≡ e ∷ es
      by_kind (Solved basis tested) t = refl
      by_kind (Refused cause) t = absurd t

pub tested_exact : TestedListIsExact
tested_exact ring limits E N F r z n p t =
    let entries : List Entry = entry_list ring limits E N F in
    let nothing : Entry → List Entry = λ e. [] in
    subst (λ es. IsExactList ring E N F es) (joined_already ring F nothing entries t)
    (joined_exact ring limits E N F nothing r z n p (tested_served ring F nothing entries t))

pub tested_agree : TestedListsAgree
tested_agree ring these those E N F r z n p t s =
    exact_unique ring E N F _ _ r (tested_exact ring these E N F r z n p t) (tested_exact ring those E N F r z n p s)

-- parts that no limit touches are exact

module _ (ring : Ring) (r : IsRing ring) (those : List ℕ → Limits) (F : List (List Term)) (p : AllByRecursion (IsCanonical ring) F) where
  abbrev part : Entry → List Entry
  part = part_of ring those F

  tested_behind : (path : List ℕ) (entries : List Entry) → AreTested (map (behind path) entries) → AreTested entries
  tested_behind path [] t = tt
  tested_behind path (e ∷ es) t = (t.0, tested_behind path es t.1)

  each_served : (entries : List Entry) → AllByRecursion (IsSound ring F) entries → AreTested (joined part entries)
      → AllByRecursion (IsTestedOrHasExactPart ring F part) entries
  each_served [] s t = tt
  each_served (e ∷ es) s t =
      let two = all_parts IsTested (cond (is_refused e) (map (behind e.path) (part e)) (e ∷ [])) (joined part es) t in
      (by_kind e.kind two.0, each_served es s.1 two.1)
    where
      by_kind : (k : EntryKind) → AreTested (cond (is_refused (with_kind e k)) (map (behind e.path) (part (with_kind e k))) (with_kind e k ∷ []))
          → IsTestedOrHasExactPart ring F part (with_kind e k)
      by_kind (Solved basis tested) t = t.0
      by_kind (Refused cause) t =
          tested_exact ring (those e.path) e.conditions.zero e.conditions.nonzero F r s.0.zero s.0.nonzero p
          (tested_behind e.path (part (with_kind e (Refused cause))) t)

pub tested_join_exact : TestedJoinIsExact
tested_join_exact ring limits those E N F r z n p t =
    let sound = (nodes_comprehensive ring r node_of height_of heights_fall (λ branch path ok. node_is_node ring branch path r ok) limits E N F z n p).sound in
    joined_exact ring limits E N F (part_of ring those F) r z n p (each_served ring r those F p (entry_list ring limits E N F) sound t)
