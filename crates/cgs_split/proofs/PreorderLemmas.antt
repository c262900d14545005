-- A tree that is given by its nodes, in preorder.
use Rattle.std.proofs.Common.{ℕ, zero, suc, ◌≡◌, ◌+◌, ◌<◌, Option, Some, None, List, [], ◌∷◌, ◌++◌, map, refl, sym, ap, ◌∙◌, subst, arith}
use Rattle.std.proofs.lemmas.List.{append-nil, map-append}
use Rattle.std.specs.Prelude.{slice_get}
use Rattle.std.specs.List.{AllByRecursion}
use Rattle.cgs_poly.specs.Ring.{Ring}
use Rattle.cgs_poly.specs.Polynomial.{Term, IsRing, IsCanonical}
use Rattle.cgs_algebra.specs.Specialisation.{IsParametric}
use Rattle.cgs_entry.specs.declared.entry.Entry.{Entry}
use Rattle.cgs_entry.specs.Entries.{IsComprehensive}
use Rattle.cgs_board.specs.Tree.{each_from, preorder_to, preorder, entry_at, entry_of, entries_of, Falls}
use Rattle.cgs_split.specs.declared.kind.Limits.{Limits}
use Rattle.cgs_split.specs.Cases.{Case}
use Rattle.cgs_split.specs.Soundness.{IsBranch}
use Rattle.cgs_split.specs.Trees.{IsNode, AreTreesOf, none, tree, root_case, own_entries}
use Rattle.cgs_split.proofs.TreeLemmas.{node_valid, root_valid, tree_comprehensive}

-- what a function makes of the list of a tree

module _ {J E X Y : Type 0} (node : J → List ℕ → Option E × List J) (f : J → List ℕ → List X) (g : X → Y) where
  map_each : (levels : ℕ) (path : List ℕ)
      → ((branch : J) (path : List ℕ) → map g (preorder_to node f levels branch path) ≡ preorder_to node (λ b q. map g (f b q)) levels branch path)
      → (i : ℕ) (children : List J)
      → map g (each_from (λ i child. preorder_to node f levels child (path ++ i ∷ [])) i children)
      ≡ each_from (λ i child. preorder_to node (λ b q. map g (f b q)) levels child (path ++ i ∷ [])) i children
  map_each levels path ih i [] = refl
  map_each levels path ih i (child ∷ children) =
      map-append g (preorder_to node f levels child (path ++ i ∷ [])) (each_from (λ i child. preorder_to node f levels child (path ++ i ∷ [])) (i + 1) children)
      ∙ cc (ih child (path ++ i ∷ []), map_each levels path ih (i + 1) children)

  map_preorder : (levels : ℕ) (branch : J) (path : List ℕ)
      → map g (preorder_to node f levels branch path) ≡ preorder_to node (λ b q. map g (f b q)) levels branch path
  map_preorder zero branch path = refl
  map_preorder (suc levels) branch path =
      map-append g (f branch path) (each_from (λ i child. preorder_to node f levels child (path ++ i ∷ [])) 0 (node branch path).1)
      ∙ ap (λ xs. map g (f branch path) ++ xs) (map_each levels path (map_preorder levels) 0 (node branch path).1)

-- the entry of a node, without its path
pub own_entry : (path : List ℕ) (e : Option Entry) → map (λ found. found.1) (entry_at path e) ≡ own_entries e
own_entry path None = refl
own_entry path (Some e) = refl

module _ (ring : Ring) (r : IsRing ring) (node : Case → List ℕ → Option Entry × List Case) (height : Case → List ℕ → ℕ) (falls : Falls node height)
    (each : (branch : Case) (path : List ℕ) → IsBranch ring branch → IsNode ring branch path (own_entries (node branch path).0) (node branch path).1) where
  -- the entry of a branch's node
  abbrev own : Case → List ℕ → List Entry
  own branch path = map (λ found. found.1) (entry_of node branch path)

  own_is : (branch : Case) (path : List ℕ) → own branch path ≡ own_entries (node branch path).0
  own_is branch path = own_entry path (node branch path).0

  -- the branches from number i on are lower than so many levels
  abbrev AreLower : ℕ → List ℕ → ℕ → List Case → Type 0
  AreLower levels path i [] = Unit {0}
  AreLower levels path i (child ∷ children) = (height child (path ++ i ∷ []) < levels) × AreLower levels path (i + 1) children

  abbrev entries_below : ℕ → List ℕ → ℕ → List Case → List Entry
  entries_below levels path i children = each_from (λ i child. preorder_to node own levels child (path ++ i ∷ [])) i children

  abbrev Forest : ℕ → Type 0
  Forest levels = (path : List ℕ) (i : ℕ) (children : List Case) → AllByRecursion (IsBranch ring) children → AreLower levels path i children
      → AreTreesOf ring children (entries_below levels path i children)

  -- the children of a node are lower than it
  lower_from : (levels : ℕ) (path : List ℕ) (i : ℕ) (children : List Case)
      → ((k : ℕ) (child : Case) → slice_get children k ≡ Some child → height child (path ++ (i + k) ∷ []) < levels) → AreLower levels path i children
  lower_from levels path i [] h = tt
  lower_from levels path i (child ∷ children) h =
      let z : i + 0 ≡ i = omega arith in (
        subst (λ n. height child (path ++ n ∷ []) < levels) z (h 0 child refl),
        lower_from levels path (i + 1) children
            (λ k c e. let s : i + suc k ≡ (i + 1) + k = omega arith in subst (λ n. height c (path ++ n ∷ []) < levels) s (h (suc k) c e)),
      )

  children_lower : (levels : ℕ) (branch : Case) (path : List ℕ) → height branch path < suc levels → AreLower levels path 0 (node branch path).1
  children_lower levels branch path l =
      lower_from levels path 0 (node branch path).1
      (λ k child e. let f = falls branch path k child e in let z : 0 + k ≡ k = omega arith in
      subst (λ n. height child (path ++ n ∷ []) < levels) (sym z) (omega (arith, f, l)))

  each_own : (branch : Case) (path : List ℕ) → IsBranch ring branch → IsNode ring branch path (own branch path) (node branch path).1
  each_own branch path ok = subst (λ es. IsNode ring branch path es (node branch path).1) (sym (own_is branch path)) (each branch path ok)

  valid_below : (branch : Case) (path : List ℕ) → IsBranch ring branch → AllByRecursion (IsBranch ring) (node branch path).1
  valid_below branch path ok = node_valid ring r branch ok path (own_entries (node branch path).0) (node branch path).1 (each branch path ok)

  row : (levels : ℕ) → Forest levels → Forest (suc levels)
  row levels ih path i [] ok l = none
  row levels ih path i (child ∷ children) ok l =
      let q : List ℕ = path ++ i ∷ [] in
      tree child q (node child q).1 children (own child q) (entries_below levels q 0 (node child q).1) (entries_below (suc levels) path (i + 1) children)
      (each_own child q ok.0)
      (ih q 0 (node child q).1 (valid_below child q ok.0) (children_lower levels child q l.0))
      (row levels ih path (i + 1) children ok.1 l.1)

  forest : (levels : ℕ) → Forest levels
  forest zero path i [] ok l = none
  forest zero path i (child ∷ children) ok l = absurd (omega (arith, l.0))
  forest (suc levels) path i children ok l = row levels (forest levels) path i children ok l

  tree_of_nodes : (branch : Case) → IsBranch ring branch → AreTreesOf ring (branch ∷ []) (map (λ found. found.1) (entries_of node height branch []))
  unfolding preorder
  tree_of_nodes branch ok =
      let levels : ℕ = height branch [] in
      subst (λ es. AreTreesOf ring (branch ∷ []) es)
      (append-nil (preorder_to node own (suc levels) branch []) ∙ sym (map_preorder node (entry_of node) (λ found. found.1) (suc levels) branch []))
      (tree branch [] (node branch []).1 [] (own branch []) (entries_below levels [] 0 (node branch []).1) [] (each_own branch [] ok)
      (forest levels [] 0 (node branch []).1 (valid_below branch [] ok) (children_lower levels branch [] (omega arith))) none)

  -- the list of a tree whose nodes are all of these forms is comprehensive
  pub nodes_comprehensive : (limits : Limits) (E N F : List (List Term)) → AllByRecursion (IsParametric ring) E → AllByRecursion (IsParametric ring) N
      → AllByRecursion (IsCanonical ring) F
      → IsComprehensive ring E N F (map (λ found. found.1) (entries_of node height (root_case ring limits E N F) []))
  nodes_comprehensive limits E N F z n p =
      tree_comprehensive ring r limits E N F z n p (map (λ found. found.1) (entries_of node height (root_case ring limits E N F) []))
      (tree_of_nodes (root_case ring limits E N F) (root_valid ring r limits E N F z n p))
