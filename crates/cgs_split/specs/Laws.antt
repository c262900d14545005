-- The laws of nodes and trees, as facts.
use Rattle.std.specs.Prelude.{ℕ, IsTrue, List, [], ◌∷◌, map}
use Rattle.std.specs.List.{AllByRecursion}
use Rattle.cgs_poly.specs.Ring.{Ring}
use Rattle.cgs_poly.specs.Polynomial.{Term, IsRing, IsCanonical, ArePolys}
use Rattle.cgs_algebra.specs.Specialisation.{IsParametric}
use Rattle.cgs_entry.specs.declared.entry.Entry.{Entry}
use Rattle.cgs_entry.specs.declared.entry.EntryKind.TheVariants.{Solved, Refused}
use Rattle.cgs_poly.specs.Parameters.{IsCondition}
use Rattle.cgs_entry.specs.Bases.{ShowsOne}
use Rattle.cgs_entry.specs.Entries.{IsComprehensive, IsEntry}
use Rattle.cgs_radical.specs.Laws.{Contradict}
use Rattle.cgs_board.specs.Tree.{entries_of, Falls}
use Rattle.cgs_split.specs.declared.kind.Limits.{Limits}
use Rattle.cgs_split.specs.Cases.{Case}
use Rattle.cgs_split.specs.Soundness.{IsBranch, IsGood}
use Rattle.cgs_split.specs.Trees.{IsNode, AreTreesOf, root_case, own_entries, IsSoundNode}
use Rattle.cgs_split.specs.NodeRun.{node_of, height_of}

-- the node of a good branch
abbrev pub NodeIsSound : Type 0
NodeIsSound =
    (ring : Ring) (branch : Case) (path : List ℕ) (own : List Entry) (children : List Case) → IsRing ring → IsBranch ring branch → IsGood ring branch
    → IsNode ring branch path own children → IsSoundNode ring branch own children

-- the list of the tree of given polynomials under given conditions
abbrev pub TreeIsComprehensive : Type 0
TreeIsComprehensive =
    (ring : Ring) (limits : Limits) (zero nonzero polys : List (List Term)) (entries : List Entry) → IsRing ring → AllByRecursion (IsParametric ring) zero
    → AllByRecursion (IsParametric ring) nonzero → AllByRecursion (IsCanonical ring) polys
    → AreTreesOf ring (root_case ring limits zero nonzero polys ∷ []) entries
    → IsComprehensive ring zero nonzero polys entries

-- the node of each branch is one
abbrev pub NodesAreNodes : Type 0
NodesAreNodes = (ring : Ring) (branch : Case) (path : List ℕ) → IsRing ring → IsBranch ring branch
    → IsNode ring branch path (own_entries (node_of branch path).0) (node_of branch path).1

-- the entries of the tree of given polynomials under given conditions, a branch before its children
abbrev pub entry_list : Ring → Limits → List (List Term) → List (List Term) → List (List Term) → List Entry
entry_list ring limits zero nonzero polys = map (λ found. found.1) (entries_of node_of height_of (root_case ring limits zero nonzero polys) [])

-- the list of the tree of all nodes
abbrev pub ListIsComprehensive : Type 0
ListIsComprehensive =
    (ring : Ring) (limits : Limits) (zero nonzero polys : List (List Term)) → IsRing ring → AllByRecursion (IsParametric ring) zero
    → AllByRecursion (IsParametric ring) nonzero
    → AllByRecursion (IsCanonical ring) polys → IsComprehensive ring zero nonzero polys (entry_list ring limits zero nonzero polys)

-- its entries are of the ring
abbrev pub EntriesAreOfRing : Type 0
EntriesAreOfRing =
    (ring : Ring) (limits : Limits) (zero nonzero polys : List (List Term)) → IsRing ring → AllByRecursion (IsCondition ring) zero
    → AllByRecursion (IsCondition ring) nonzero → ArePolys ring polys
    → AllByRecursion (IsEntry ring) (entry_list ring limits zero nonzero polys)

-- the basis of each, where there is one, is 1 alone or has variables in each member
abbrev pub EntriesShowOne : Type 0
EntriesShowOne = (ring : Ring) (limits : Limits) (zero nonzero polys : List (List Term))
    → AllByRecursion (ShowsOne ring) (entry_list ring limits zero nonzero polys)

-- where the search for a contradiction in the conditions of an entry came to its end, it found none
abbrev pub IsConsistentIfTested : Ring → Entry → Type 0
IsConsistentIfTested ring entry =
    elim entry.kind [
      | Solved basis tested ↦ (IsTrue tested → ¬ (Contradict ring entry.conditions.zero entry.conditions.nonzero))
      | Refused cause ↦ Unit {0}
    ]

-- so it is with each entry
abbrev pub TestedAreConsistent : Type 0
TestedAreConsistent =
    (ring : Ring) (limits : Limits) (zero nonzero polys : List (List Term)) → IsRing ring → AllByRecursion (IsCondition ring) zero
    → AllByRecursion (IsCondition ring) nonzero → ArePolys ring polys
    → AllByRecursion (IsConsistentIfTested ring) (entry_list ring limits zero nonzero polys)

-- heights fall
abbrev pub HeightsFall : Type 0
HeightsFall = Falls node_of height_of
