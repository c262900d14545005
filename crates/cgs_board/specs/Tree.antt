-- The tree of a branch. The root has the empty path, and the child number i of a branch has its path followed by i.
use Rattle.std.specs.Prelude.{ℕ, ◌+◌, ◌<◌, ◌≡◌, List, [], ◌∷◌, ◌++◌, Option, Some, None, slice_get}
use Rattle.std.proofs.Common.{zero, suc}

-- the child with that number, where the node has one
abbrev pub child_at : {J E : Type 0} → (J → List ℕ → Option E × List J) → J → List ℕ → ℕ → Option J
child_at node branch path i = slice_get (node branch path).1 i

-- the branch that the numbers lead to from a branch at a path
abbrev pub branch_below : {J E : Type 0} → (J → List ℕ → Option E × List J) → J → List ℕ → List ℕ → Option J
branch_below node branch path [] = Some branch
branch_below node branch path (i ∷ rest) = elim (child_at node branch path i) [ None ↦ None | Some child ↦ branch_below node child (path ++ i ∷ []) rest ]

-- the tree's branch at a path
abbrev pub branch_at : {J E : Type 0} → (J → List ℕ → Option E × List J) → J → List ℕ → Option J
branch_at node root path = branch_below node root [] path

-- what f gives at the branches from number i on, one after another
abbrev pub each_from : {J X : Type 0} → (ℕ → J → List X) → ℕ → List J → List X
each_from f i [] = []
each_from f i (child ∷ children) = f i child ++ each_from f (i + 1) children

-- what f gives at each branch of the tree, a branch before its children, down to so many levels
abbrev pub preorder_to : {J E X : Type 0} → (J → List ℕ → Option E × List J) → (J → List ℕ → List X) → ℕ → J → List ℕ → List X
preorder_to node f zero branch path = []
preorder_to node f (suc levels) branch path = f branch path ++ each_from (λ i child. preorder_to node f levels child (path ++ i ∷ [])) 0 (node branch path).1

-- the whole tree in preorder: it has no more levels than its root's height and one
unfoldable pub preorder : {J E X : Type 0} → (J → List ℕ → Option E × List J) → (J → List ℕ → ℕ) → (J → List ℕ → List X) → J → List ℕ → List X
preorder node height f branch path = preorder_to node f (suc (height branch path)) branch path

-- the entry at this path, where there is one
abbrev pub entry_at : {E : Type 0} → List ℕ → Option E → List (List ℕ × E)
entry_at path None = []
entry_at path (Some entry) = (path, entry) ∷ []

-- the entry of a branch's node
abbrev pub entry_of : {J E : Type 0} → (J → List ℕ → Option E × List J) → J → List ℕ → List (List ℕ × E)
entry_of node branch path = entry_at path (node branch path).0

-- the entries of the tree of a branch at a path: that of the branch, and then those of each child in order
abbrev pub entries_of : {J E : Type 0} → (J → List ℕ → Option E × List J) → (J → List ℕ → ℕ) → J → List ℕ → List (List ℕ × E)
entries_of node height branch path = preorder node height (entry_of node) branch path

-- the branches of the tree, in the same order
abbrev pub branches_of : {J E : Type 0} → (J → List ℕ → Option E × List J) → (J → List ℕ → ℕ) → J → List ℕ → List (List ℕ × J)
branches_of node height branch path = preorder node height (λ b q. (q, b) ∷ []) branch path

-- the height of a branch is above that of each of its children
abbrev pub Falls : {J E : Type 0} → (J → List ℕ → Option E × List J) → (J → List ℕ → ℕ) → Type 0
Falls {J} node height = (branch : J) (path : List ℕ) (i : ℕ) (child : J) → child_at node branch path i ≡ Some child
    → height child (path ++ i ∷ []) < height branch path
