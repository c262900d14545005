-- What holds of all trees and histories.
use Rattle.std.specs.Prelude.{◌≡◌, ℕ, ◌<◌, List, [], ◌∷◌, ◌++◌, length, Option, Some, slice_get}
use Rattle.std.specs.declared.cmp.Ordering.TheVariants.{Less}
use Rattle.cgs_path.specs.PathOrder.{compared}
use Rattle.cgs_board.specs.declared.event.Event.{Event}
use Rattle.cgs_board.specs.History.{IsLegal, IsFinished, IsComplete, HasQuit, gives_of}
use Rattle.cgs_board.specs.Tree.{entries_of, branches_of, entry_of, each_from}

-- the entries of a tree are the entry of its root, and then those of the tree of each child in order
abbrev pub EntriesUnfold : {J E : Type 0} → (J → List ℕ → Option E × List J) → (J → List ℕ → ℕ) → Type 0
EntriesUnfold {J} node height = (branch : J) (path : List ℕ)
    → entries_of node height branch path ≡ entry_of node branch path
    ++ each_from (λ i child. entries_of node height child (path ++ i ∷ [])) 0 (node branch path).1

-- the entries of a tree strictly ascend by their paths
abbrev pub EntriesAscend : {J E : Type 0} → (J → List ℕ → Option E × List J) → (J → List ℕ → ℕ) → Type 0
EntriesAscend {J} {E} node height = (root : J) (i j : ℕ) (x y : List ℕ × E)
    → slice_get (entries_of node height root []) i ≡ Some x → slice_get (entries_of node height root []) j ≡ Some y → i < j → compared x.0 y.0 ≡ Less

-- a legal history after which nothing is open and nothing is out is complete, if nobody quit
abbrev pub FinishedIsComplete : {J E : Type 0} → (J → List ℕ → Option E × List J) → Type 0
FinishedIsComplete {J} node = (root : J) (workers : ℕ) (h : List Event) → IsLegal node root workers h → IsFinished h → (HasQuit h → ⊥)
    → IsComplete node root workers h

-- a complete history has as many gives as the tree has branches
abbrev pub CompleteGivesAll : {J E : Type 0} → (J → List ℕ → Option E × List J) → (J → List ℕ → ℕ) → Type 0
CompleteGivesAll {J} node height = (root : J) (workers : ℕ) (h : List Event) → IsComplete node root workers h
    → gives_of h ≡ length (branches_of node height root [])
