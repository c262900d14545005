-- What a board keeps: a slot for each branch that was ever offered, and how the slots follow from the history.
use Rattle.std.specs.Prelude.{◌≡◌, ℕ, ◌+◌, ◌-◌, ◌<◌, ◌⊎◌, Bool, true, false, List, [], ◌∷◌, ◌++◌, Option, Some, None, slice_get, flat_map}
use Rattle.std.proofs.Common.{zero, suc}
use Rattle.std.specs.List.{list_any}
use Rattle.cgs_board.specs.declared.event.Event.{Event}
use Rattle.cgs_board.specs.declared.event.Event.TheVariants.{Claim, Give, Quit}
use Rattle.cgs_board.specs.declared.slot.Slot.{Slot}
use Rattle.cgs_board.specs.declared.slot.Stage.{Stage}
use Rattle.cgs_board.specs.declared.slot.Stage.TheVariants.{Open, Out, Closed}
use Rattle.cgs_board.specs.Tree.{branch_at, entry_of}
use Rattle.cgs_board.specs.History.{IsLegal, IsOffered, IsOpen, IsOut, IsGivenWith, is_quit_of}

-- the slot of a branch that nobody has
abbrev pub open_slot : {J : Type 0} → List ℕ → J → Slot J
open_slot path branch = record { path = path; stage = Open (record { path = path; branch = branch }) branch path }

-- the slot of a branch that a worker has
abbrev pub out_slot : {J : Type 0} → List ℕ → ℕ → J → Slot J
out_slot path worker branch = record { path = path; stage = Out worker branch }

-- the slot of a branch that was given back, with the places of its children's slots
abbrev pub closed_slot : {J : Type 0} → List ℕ → ℕ → ℕ → Slot J
closed_slot path first children = record { path = path; stage = Closed first children }

-- the slots of the children of a branch from number i on
abbrev pub open_slots : {J : Type 0} → List ℕ → ℕ → List J → List (Slot J)
open_slots path i [] = []
open_slots path i (child ∷ children) = open_slot (path ++ i ∷ []) child ∷ open_slots path (i + 1) children

abbrev pub is_open : {J : Type 0} → Stage J → Bool
is_open (Open piece kept noted) = true
is_open (Out worker kept) = false
is_open (Closed first children) = false

abbrev pub is_closed : {J : Type 0} → Stage J → Bool
is_closed (Open piece kept noted) = false
is_closed (Out worker kept) = false
is_closed (Closed first children) = true

-- the stage of the branch at a path is the one that the history asks for, and what it keeps of the branch is the tree's
abbrev pub Agrees : {J E : Type 0} → (J → List ℕ → Option E × List J) → J → List Event → List ℕ → Stage J → Type 0
Agrees node root h path (Open piece kept noted) = (piece.path ≡ path) × (noted ≡ path) × (kept ≡ piece.branch) × (branch_at node root path ≡ Some kept)
    × IsOpen path h
Agrees node root h path (Out worker kept) = (branch_at node root path ≡ Some kept) × IsOut worker path h
Agrees node root h path (Closed first children) = IsGivenWith path children h

-- what f gives at the branch that an event gave back
abbrev pub brought : {J E X : Type 0} → (J → List ℕ → Option E × List J) → (J → List ℕ → List X) → J → Event → List X
brought node f root (Claim worker path) = []
brought node f root (Give worker path children entries) = elim (branch_at node root path) [ None ↦ [] | Some branch ↦ f branch path ]
brought node f root (Quit worker) = []

-- slots and entries follow from the history, which is legal: there is one slot for each branch that was offered, and the entries are those of the branches
-- that were given back
pub record Follows {J E : Type 0} (node : J → List ℕ → Option E × List J) (root : J) (workers : ℕ) (slots : List (Slot J)) (found : List (List ℕ × E))
    (h : List Event) : Type 0 where
  pub legal : IsLegal node root workers h
  pub agree : (i : ℕ) (slot : Slot J) → slice_get slots i ≡ Some slot → Agrees node root h slot.path slot.stage
  pub apart : (i j : ℕ) (s t : Slot J) → slice_get slots i ≡ Some s → slice_get slots j ≡ Some t → s.path ≡ t.path → i ≡ j
  pub covers : (path : List ℕ) → IsOffered path h → (i : ℕ) × (slot : Slot J) × (slice_get slots i ≡ Some slot) × (slot.path ≡ path)
  pub entries : found ≡ flat_map (brought node (entry_of node) root) h

-- the slot at this place has this path
abbrev pub StandsAt : {J : Type 0} → List (Slot J) → ℕ → List ℕ → Type 0
StandsAt {J} slots i path = (slot : Slot J) × (slice_get slots i ≡ Some slot) × (slot.path ≡ path)

-- the slot of the child with this number stands at this place, where the branch was given back and has the child
abbrev pub IsChildPlace : {J : Type 0} → Stage J → ℕ → ℕ → Type 0
IsChildPlace stage number place = (first : ℕ) × (children : ℕ) × (stage ≡ Closed first children) × (number < children) × (place ≡ first + number)

-- the root's slot is the first, and each slot that is closed tells where those of its children stand
pub record LeadsDown {J : Type 0} (slots : List (Slot J)) : Type 0 where
  pub top : StandsAt slots 0 []
  pub below : (i number place : ℕ) (slot : Slot J) → slice_get slots i ≡ Some slot → IsChildPlace slot.stage number place
      → StandsAt slots place (slot.path ++ number ∷ [])

-- so each slot is found by its path
pub record IsTree {J : Type 0} (slots : List (Slot J)) : Type 0 where
  pub leads : LeadsDown slots
  pub apart : (i j : ℕ) (path : List ℕ) → StandsAt slots i path → StandsAt slots j path → i ≡ j
  pub above : (i : ℕ) (slot : Slot J) → slice_get slots i ≡ Some slot → (slot.path ≡ [])
      ⊎ ((j : ℕ) × (number : ℕ) × (place : ℕ) × (parent : Slot J) × (slice_get slots j ≡ Some parent) × IsChildPlace parent.stage number place
      × (slot.path ≡ parent.path ++ number ∷ []))

-- 1 where it holds
abbrev pub count_if : Bool → ℕ
count_if true = 1
count_if false = 0

-- how many slots are in a stage that passes
abbrev pub count_stages : {J : Type 0} → (Stage J → Bool) → List (Slot J) → ℕ
count_stages passes [] = 0
count_stages passes (s ∷ ss) = count_if (passes s.stage) + count_stages passes ss

-- how many workers below a number did not give up
abbrev pub staying : ℕ → List Event → ℕ
staying zero h = 0
staying (suc n) h = (1 - count_if (list_any (is_quit_of n) h)) + staying n h
