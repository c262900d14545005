-- The nodes of a tree, and what each promises (Weispfenning 1992).
use Rattle.std.specs.Prelude.{ℕ, ◌≡◌, ◌+◌, Bool, false, cond, Option, Some, None, List, [], ◌∷◌, ◌++◌}
use Rattle.std.specs.List.{AllByRecursion}
use Rattle.cgs_poly.specs.Ring.{Ring}
use Rattle.cgs_poly.specs.Polynomial.{one, Term}
use Rattle.cgs_algebra.specs.Groebner.{IsGroebnerBasis}
use Rattle.cgs_point.specs.Points.{IsPoint}
use Rattle.cgs_entry.specs.declared.entry.Cause.{Cause}
use Rattle.cgs_entry.specs.declared.entry.Entry.{Entry}
use Rattle.cgs_entry.specs.declared.entry.EntryKind.{EntryKind}
use Rattle.cgs_entry.specs.declared.entry.EntryKind.TheVariants.{Solved, Refused}
use Rattle.cgs_entry.specs.Conditions.{with_members}
use Rattle.cgs_entry.specs.Entries.{entries_at, IsSound}
use Rattle.cgs_split.specs.declared.kind.BranchKind.TheVariants.{Split}
use Rattle.cgs_split.specs.declared.kind.Limits.{Limits}
use Rattle.cgs_split.specs.Cases.{Case}
use Rattle.cgs_split.specs.Nodes.{children_of, is_point_of, branches_at}
use Rattle.cgs_split.specs.Soundness.{HasBasis, IsSoundChild}

-- an entry with the conditions of a branch
abbrev pub entry_of : Case → List ℕ → EntryKind → Entry
entry_of branch path kind = record { path = path; conditions = record { zero = branch.zero; nonzero = branch.nonzero }; kind = kind }

-- no point is in the branch's region
abbrev pub HasNoPoint : Ring → Case → Type 0
HasNoPoint ring branch = (a : List ℕ) → IsPoint ring a → is_point_of ring a branch ≡ false

-- the node of a branch at a path: its own entry, if there is one, and its children
pub data IsNode (ring : Ring) (branch : Case) (path : List ℕ) : List Entry → List Case → Type 0 where
  empty : HasNoPoint ring branch → IsNode ring branch path [] []
  solved : ¬ (branch.kind ≡ Split) → (tested : Bool) → IsNode ring branch path (entry_of branch path (Solved branch.polys tested) ∷ []) []
  refused : branch.kind ≡ Split → (cause : Cause) → IsNode ring branch path (entry_of branch path (Refused cause) ∷ []) []
  whole : branch.kind ≡ Split → IsGroebnerBasis ring (one ring ∷ []) (branch.polys ++ branch.zero) → (tested : Bool)
      → IsNode ring branch path (entry_of branch path (Solved (one ring ∷ []) tested) ∷ []) []
  divided : branch.kind ≡ Split → (G M : List (List Term)) → HasBasis ring branch G M → IsNode ring branch path [] (children_of ring branch G M)

-- the entries of the trees of some branches: the node's own, those of its children's trees, and those of the other branches' trees
pub data AreTreesOf (ring : Ring) : List Case → List Entry → Type 0 where
  none : AreTreesOf ring [] []
  tree : (branch : Case) (path : List ℕ) (children others : List Case) (own below rest : List Entry) → IsNode ring branch path own children
      → AreTreesOf ring children below
      → AreTreesOf ring others rest → AreTreesOf ring (branch ∷ others) (own ++ below ++ rest)

-- the branch of given polynomials under given conditions
abbrev pub root_case : Ring → Limits → List (List Term) → List (List Term) → List (List Term) → Case
root_case ring limits zero nonzero polys =
    record { ring = ring; limits = limits; kind = Split; zero = with_members ring [] zero; nonzero = with_members ring [] nonzero; polys = polys }

-- each point of the branch's region is in the region of its entry or of one child, and no other point is in any
pub record IsSoundNode (ring : Ring) (branch : Case) (own : List Entry) (children : List Case) : Type 0 where
  pub once : (a : List ℕ) → IsPoint ring a → entries_at ring a own + branches_at ring a children ≡ cond (is_point_of ring a branch) 1 0
  pub bases : AllByRecursion (IsSound ring branch.polys) own
  pub below : AllByRecursion (IsSoundChild ring branch) children

-- at most one entry, as a list
abbrev pub own_entries : Option Entry → List Entry
own_entries None = []
own_entries (Some e) = e ∷ []
