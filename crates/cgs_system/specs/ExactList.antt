-- The list of entries that a problem has where nothing is limited: no units of work, no order in which pairs are taken, no depth (after Kapur, Sun,
-- Wang 2010).
use Rattle.std.specs.Prelude.{ℕ, ◌≡◌, ◌+◌, IsTrue, true, List, [], ◌∷◌, ◌++◌}
use Rattle.cgs_poly.specs.Ring.{Ring}
use Rattle.cgs_poly.specs.Polynomial.{Term, one}
use Rattle.cgs_algebra.specs.Groebner.{IsReduced, IsAscending}
use Rattle.cgs_algebra.specs.Stability.{other_members}
use Rattle.cgs_entry.specs.declared.entry.Entry.{Entry}
use Rattle.cgs_entry.specs.declared.entry.EntryKind.TheVariants.{Solved, Refused}
use Rattle.cgs_dickson.specs.Dickson.{minimal_dickson}
use Rattle.cgs_radical.specs.Laws.{Contradict}
use Rattle.cgs_split.specs.declared.kind.BranchKind.TheVariants.{Split}
use Rattle.cgs_split.specs.declared.kind.Limits.{Limits}
use Rattle.cgs_split.specs.Cases.{Case}
use Rattle.cgs_split.specs.Nodes.{children_of}
use Rattle.cgs_split.specs.Trees.{entry_of, root_case}

-- the reduced Gröbner basis of a branch's polynomials and vanishing conditions, with ascending leads
pub record IsReducedBasisOf (ring : Ring) (branch : Case) (G : List (List Term)) : Type 0 where
  pub reduced : IsReduced ring G (branch.polys ++ branch.zero)
  pub ascending : IsAscending ring G

-- the node of a branch at a path, its own entry and its children: nothing where the conditions contradict each other; an entry where the polynomials
-- are a basis already, or where 1 is in the ideal; and else the children by the reduced basis
pub data IsExactNode (ring : Ring) (branch : Case) (path : List ℕ) : List Entry → List Case → Type 0 where
  empty : Contradict ring branch.zero branch.nonzero → IsExactNode ring branch path [] []
  solved : ¬ (Contradict ring branch.zero branch.nonzero) → ¬ (branch.kind ≡ Split)
      → IsExactNode ring branch path (entry_of branch path (Solved branch.polys true) ∷ []) []
  whole : ¬ (Contradict ring branch.zero branch.nonzero) → branch.kind ≡ Split → IsReducedBasisOf ring branch (one ring ∷ [])
      → IsExactNode ring branch path (entry_of branch path (Solved (one ring ∷ []) true) ∷ []) []
  divided : ¬ (Contradict ring branch.zero branch.nonzero) → branch.kind ≡ Split → (G : List (List Term)) → IsReducedBasisOf ring branch G
      → ¬ (G ≡ one ring ∷ []) → IsExactNode ring branch path [] (children_of ring branch G (minimal_dickson ring (other_members ring G)))

-- branches with their paths, as children of a branch at a path from number i on
abbrev pub at_paths : List ℕ → ℕ → List Case → List (List ℕ × Case)
at_paths path i [] = []
at_paths path i (child ∷ children) = (path ++ i ∷ [], child) ∷ at_paths path (i + 1) children

-- the entries of the finite trees of some branches at their paths: each node's own, those of its children's trees, and those of the other trees
pub data AreExactTrees (ring : Ring) : List (List ℕ × Case) → List Entry → Type 0 where
  none : AreExactTrees ring [] []
  tree : (path : List ℕ) (branch : Case) (others : List (List ℕ × Case)) (children : List Case) (own below rest : List Entry)
      → IsExactNode ring branch path own children → AreExactTrees ring (at_paths path 0 children) below → AreExactTrees ring others rest
      → AreExactTrees ring ((path, branch) ∷ others) (own ++ below ++ rest)

-- the entries of the tree of given polynomials under given conditions, whatever limits its branches carry: no node looks at them
abbrev pub IsExactList : Ring → List (List Term) → List (List Term) → List (List Term) → List Entry → Type 0
IsExactList ring zero nonzero polys entries = (limits : Limits) → AreExactTrees ring (([], root_case ring limits zero nonzero polys) ∷ []) entries

-- no limit touched the entry: it has a basis, and the search for a contradiction in its conditions came to its end
abbrev pub IsTested : Entry → Type 0
IsTested entry = elim entry.kind [ Solved basis tested ↦ IsTrue tested | Refused cause ↦ ⊥ ]
