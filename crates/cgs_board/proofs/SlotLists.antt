-- Lists of slots: reading, writing, appending, how many are in a stage, and what a test over a list tells.
use Rattle.std.proofs.Common.{◌≡◌, ℕ, zero, suc, ◌+◌, ◌<◌, ◌≤◌, Bool, true, false, List, [], ◌∷◌, ◌++◌, length, get_or, take, refl, ap, sym, ◌∙◌, arith, inl}
use Rattle.std.proofs.Common.{inr}
use Rattle.std.specs.Prelude.{◌⊎◌, ◌||◌, Some, slice_get, slice_set}
use Rattle.std.specs.List.{list_any}
use Rattle.std.proofs.lemmas.Option.{none-some, same_Some}
use Rattle.std.proofs.lemmas.Bool.{false≢true}
use Rattle.std.proofs.lemmas.List.{take_more, length-take}
use Rattle.cgs_board.specs.declared.slot.Slot.{Slot}
use Rattle.cgs_board.specs.declared.slot.Stage.{Stage}
use Rattle.cgs_board.specs.declared.slot.Stage.TheVariants.{Open, Out, Closed}
use Rattle.cgs_board.specs.Slots.{open_slot, out_slot, closed_slot, open_slots, is_open, is_closed, count_stages, count_if}
use Rattle.cgs_board.specs.Steps.{Closes}

-- ---- reading after a write

pub get-set_cases : {X : Type 0} (xs : List X) (i j : ℕ) (y x : X) → slice_get (slice_set xs i y) j ≡ Some x
    → ((j ≡ i) × (x ≡ y)) ⊎ ((j ≡ i → ⊥) × (slice_get xs j ≡ Some x))
get-set_cases [] i j y x at = absurd (none-some x at)
get-set_cases (z ∷ xs) zero zero y x at = inl (refl, sym (same_Some y x at))
get-set_cases (z ∷ xs) zero (suc j) y x at = inr ((λ e. omega (arith, e)), at)
get-set_cases (z ∷ xs) (suc i) zero y x at = inr ((λ e. omega (arith, e)), at)
get-set_cases (z ∷ xs) (suc i) (suc j) y x at =
    elim (get-set_cases xs i j y x at) [
      | inl here ↦ let e = here.0 in inl (omega (arith, e), here.1)
      | inr other ↦ inr ((λ e. other.0 (omega (arith, e))), other.1)
    ]

-- what was written stands there, and the rest as it was
pub get-set_same : {X : Type 0} (xs : List X) (i : ℕ) (x y : X) → slice_get xs i ≡ Some x → slice_get (slice_set xs i y) i ≡ Some y
get-set_same [] i x y at = absurd (none-some x at)
get-set_same (z ∷ xs) zero x y at = refl
get-set_same (z ∷ xs) (suc i) x y at = get-set_same xs i x y at

pub get-set_other : {X : Type 0} (xs : List X) (i j : ℕ) (x y : X) → (j ≡ i → ⊥) → slice_get xs j ≡ Some x → slice_get (slice_set xs i y) j ≡ Some x
get-set_other [] i j x y other at = at
get-set_other (z ∷ xs) zero zero x y other at = absurd (other refl)
get-set_other (z ∷ xs) zero (suc j) x y other at = at
get-set_other (z ∷ xs) (suc i) zero x y other at = at
get-set_other (z ∷ xs) (suc i) (suc j) x y other at = get-set_other xs i j x y (λ e. other (omega (arith, e))) at

-- a place below the length stays where others are added
pub get-append : {X : Type 0} (xs ys : List X) (i : ℕ) (x : X) → slice_get xs i ≡ Some x → slice_get (xs ++ ys) i ≡ Some x
get-append [] ys i x at = absurd (none-some x at)
get-append (y ∷ xs) ys zero x at = at
get-append (y ∷ xs) ys (suc i) x at = get-append xs ys i x at

pub get-append_right : {X : Type 0} (xs ys : List X) (i : ℕ) (x : X) → slice_get ys i ≡ Some x → slice_get (xs ++ ys) (length xs + i) ≡ Some x
get-append_right [] ys i x at = let e : 0 + i ≡ i = omega arith in rw e at
get-append_right (y ∷ xs) ys i x at = let e : suc (length xs) + i ≡ suc (length xs + i) = omega arith in rw e (get-append_right xs ys i x at)

pub get-append_cases : {X : Type 0} (xs ys : List X) (j : ℕ) (x : X) → slice_get (xs ++ ys) j ≡ Some x
    → (slice_get xs j ≡ Some x) ⊎ ((k : ℕ) × (j ≡ length xs + k) × (slice_get ys k ≡ Some x))
get-append_cases [] ys j x at = inr (j, omega arith, at)
get-append_cases (y ∷ xs) ys zero x at = inl at
get-append_cases (y ∷ xs) ys (suc j) x at =
    elim (get-append_cases xs ys j x at) [
      | inl before ↦ inl before
      | inr after ↦ let e = after.1 in inr (after.0, omega (arith, e), after.2)
    ]

-- ---- the slots of the children

-- all slots of a list are open
abbrev pub AllOpen : {J : Type 0} → List (Slot J) → Type 0
AllOpen {J} slots = (i : ℕ) (slot : Slot J) → slice_get slots i ≡ Some slot → is_open slot.stage ≡ true

pub get-open_slots : {J : Type 0} (path : List ℕ) (i : ℕ) (cs : List J) (k : ℕ) (slot : Slot J) → slice_get (open_slots path i cs) k ≡ Some slot
    → (c : J) × (slice_get cs k ≡ Some c) × (slot ≡ open_slot (path ++ (i + k) ∷ []) c)
get-open_slots path i [] k slot at = absurd (none-some slot at)
get-open_slots path i (c ∷ cs) zero slot at = let e : i + 0 ≡ i = omega arith in (c, refl, rw e (sym (same_Some _ _ at)))
get-open_slots path i (c ∷ cs) (suc k) slot at =
    let e : i + 1 + k ≡ i + suc k = omega arith in rw e at (get-open_slots path (i + 1) cs k slot at)

pub open_slots-get : {J : Type 0} (path : List ℕ) (i : ℕ) (cs : List J) (k : ℕ) → k < length cs
    → (slot : Slot J) × (slice_get (open_slots path i cs) k ≡ Some slot) × (slot.path ≡ path ++ (i + k) ∷ [])
open_slots-get path i [] k within = absurd (omega arith)
open_slots-get path i (c ∷ cs) zero within = let e : i + 0 ≡ i = omega arith in (open_slot (path ++ i ∷ []) c, refl, rw e refl)
open_slots-get path i (c ∷ cs) (suc k) within =
    let e : i + 1 + k ≡ i + suc k = omega arith in rw e at (open_slots-get path (i + 1) cs k (omega arith))

-- one child more
open_slots-snoc : {J : Type 0} (path : List ℕ) (i : ℕ) (cs : List J) (c : J)
    → open_slots path i (cs ++ c ∷ []) ≡ open_slots path i cs ++ open_slot (path ++ (i + length cs) ∷ []) c ∷ []
open_slots-snoc path i [] c = let e : i + 0 ≡ i = omega arith in rw e refl
open_slots-snoc path i (d ∷ cs) c = let e : i + 1 + length cs ≡ i + suc (length cs) = omega arith in rw (open_slots-snoc path (i + 1) cs c, e) refl

pub open_slots_step : {J : Type 0} (path : List ℕ) (cs : List J) (i : ℕ) (c : J) → i < length cs → c ≡ get_or cs i c
    → open_slots path 0 (take (i + 1) cs) ≡ open_slots path 0 (take i cs) ++ open_slot (path ++ i ∷ []) c ∷ []
open_slots_step path cs i c within is =
    let n : 0 + length (take i cs) ≡ i = rw (length-take i cs) (omega arith) in
    let last : take (i + 1) cs ≡ take i cs ++ c ∷ [] = (take_more cs i c within ∙ ap (λ x. take i cs ++ x ∷ []) (sym is)) in
    rw last (open_slots-snoc path 0 (take i cs) c ∙ ap (λ k. open_slots path 0 (take i cs) ++ open_slot (path ++ k ∷ []) c ∷ []) n)

-- as many slots as children, and all are open
pub open_slots-length : {J : Type 0} (path : List ℕ) (i : ℕ) (cs : List J) → length (open_slots path i cs) ≡ length cs
open_slots-length path i [] = refl
open_slots-length path i (c ∷ cs) = ap suc (open_slots-length path (i + 1) cs)

pub open_slots-open : {J : Type 0} (path : List ℕ) (i : ℕ) (cs : List J) → AllOpen (open_slots path i cs)
open_slots-open {J} path i cs k slot at = let c = get-open_slots path i cs k slot at in ap (λ (s : Slot J). is_open s.stage) c.2

-- ---- how many are in a stage

pub count_if-le : (b : Bool) → count_if b ≤ 1
count_if-le true = omega arith
count_if-le false = omega arith

module _ {J : Type 0} (passes : Stage J → Bool) where
  -- a slot that is written counts in the place of the old one
  pub count-set : (slots : List (Slot J)) (i : ℕ) (old new : Slot J) → slice_get slots i ≡ Some old
      → count_stages passes (slice_set slots i new) + count_if (passes old.stage) ≡ count_stages passes slots + count_if (passes new.stage)
  count-set [] i old new at = absurd (none-some old at)
  count-set (s ∷ ss) zero old new at =
      let e : count_if (passes s.stage) ≡ count_if (passes old.stage) = ap (λ (x : Slot J). count_if (passes x.stage)) (same_Some s old at) in
      omega (arith, e)
  count-set (s ∷ ss) (suc i) old new at = omega (arith, count-set ss i old new at)

  pub count-append : (xs ys : List (Slot J)) → count_stages passes (xs ++ ys) ≡ count_stages passes xs + count_stages passes ys
  count-append [] ys = omega arith
  count-append (x ∷ xs) ys = omega (arith, count-append xs ys)

  pub count-le : (xs : List (Slot J)) → count_stages passes xs ≤ length xs
  count-le [] = omega arith
  count-le (x ∷ xs) = omega (arith, count-le xs, count_if-le (passes x.stage))

  pub count-none : (xs : List (Slot J)) → ((i : ℕ) (x : Slot J) → slice_get xs i ≡ Some x → passes x.stage ≡ false) → count_stages passes xs ≡ 0
  count-none [] none = refl
  count-none (x ∷ xs) none =
      let here : count_if (passes x.stage) ≡ 0 = ap count_if (none zero x refl) in
      omega (arith, here, count-none xs (λ i y at. none (suc i) y at))

  -- where all count, each passes, and else one fails
  pub count_all : (xs : List (Slot J)) → count_stages passes xs ≡ length xs → (i : ℕ) (x : Slot J) → slice_get xs i ≡ Some x → passes x.stage ≡ true
  count_all [] all i x at = absurd (none-some x at)
  count_all (y ∷ ys) all zero x at =
      ap (λ (s : Slot J). passes s.stage) (sym (same_Some y x at)) ∙ is_one (passes y.stage) (omega (arith, all, count-le ys))
    where
      is_one : (b : Bool) → 1 ≤ count_if b → b ≡ true
      is_one true le = refl
      is_one false le = absurd (omega (arith, le))
  count_all (y ∷ ys) all (suc i) x at = count_all ys (omega (arith, all, count-le ys, count_if-le (passes y.stage))) i x at

  pub count_some : (xs : List (Slot J)) → count_stages passes xs < length xs → (i : ℕ) × (x : Slot J) × (slice_get xs i ≡ Some x) × (passes x.stage ≡ false)
  count_some [] below = absurd (omega (arith, below))
  count_some (y ∷ ys) below = by_first (passes y.stage) refl (λ less. count_some ys less)
    where
      by_first : (b : Bool) → passes y.stage ≡ b
          → (count_stages passes ys < length ys → (i : ℕ) × (x : Slot J) × (slice_get ys i ≡ Some x) × (passes x.stage ≡ false))
          → (i : ℕ) × (x : Slot J) × (slice_get (y ∷ ys) i ≡ Some x) × (passes x.stage ≡ false)
      by_first true is later =
          let one : count_if (passes y.stage) ≡ 1 = ap count_if is in
          let r = later (omega (arith, below, one)) in
          (suc r.0, r.1, r.2, r.3)
      by_first false is later = (0, y, refl, is)

-- the slots after a give
pub closes_to : {J : Type 0} (old new : List (Slot J)) (at worker : ℕ) (path : List ℕ) (branch : J) (children : List J)
    → slice_get old at ≡ Some (out_slot path worker branch) → Closes old at (open_slots path 0 children) new
    → new ≡ slice_set (old ++ open_slots path 0 children) at (closed_slot path (length old) (length children))
closes_to {J} old new at worker path branch children out closes =
    let same : closes.0 ≡ out_slot path worker branch = same_Some closes.0 (out_slot path worker branch) (sym closes.1 ∙ out) in
    closes.2
    ∙ (ap (λ (s : Slot J). slice_set (old ++ open_slots path 0 children) at (closed_slot s.path (length old) (length (open_slots path 0 children)))) same
    ∙ ap (λ n. slice_set (old ++ open_slots path 0 children) at (closed_slot path (length old) n)) (open_slots-length path 0 children))

-- no more than one slot is open for each that was and each child
pub close_room : {J : Type 0} (old fresh new : List (Slot J)) (at worker : ℕ) (path : List ℕ) (branch : J)
    → slice_get old at ≡ Some (out_slot path worker branch) → Closes old at fresh new → count_stages is_open new ≤ length old + length fresh
close_room old fresh new at worker path branch out closes =
    let count : count_stages is_open new ≡ count_stages is_open (slice_set (old ++ fresh) at (closed_slot closes.0.path (length old) (length fresh)))
    = ap (count_stages is_open) closes.2 in
    let set = count-set is_open (old ++ fresh) at (out_slot path worker branch) (closed_slot closes.0.path (length old) (length fresh))
    (get-append old fresh at (out_slot path worker branch) out) in
    omega (arith, count, set, count-append is_open old fresh, count-le is_open old, count-le is_open fresh)

-- one slot more is closed
pub close_count : {J : Type 0} (old fresh new : List (Slot J)) (at worker : ℕ) (path : List ℕ) (branch : J)
    → slice_get old at ≡ Some (out_slot path worker branch) → AllOpen fresh → Closes old at fresh new
    → count_stages is_closed new ≡ count_stages is_closed old + 1
close_count {J} old fresh new at worker path branch out are closes =
    let count : count_stages is_closed new ≡ count_stages is_closed (slice_set (old ++ fresh) at (closed_slot closes.0.path (length old) (length fresh)))
    = ap (count_stages is_closed) closes.2 in
    let set = count-set is_closed (old ++ fresh) at (out_slot path worker branch) (closed_slot closes.0.path (length old) (length fresh))
    (get-append old fresh at (out_slot path worker branch) out) in
    let none = count-none is_closed fresh (λ i x is. open_not_closed x.stage (are i x is)) in
    omega (arith, count, set, count-append is_closed old fresh, none)
  where
    open_not_closed : (stage : Stage J) → is_open stage ≡ true → is_closed stage ≡ false
    open_not_closed (Open piece kept noted) is = refl
    open_not_closed (Out worker kept) is = refl
    open_not_closed (Closed first children) is = absurd (false≢true is)

-- ---- searching

-- what a test over a list tells of each element
pub none_passes : {X : Type 0} (p : X → Bool) (xs : List X) → list_any p xs ≡ false → (i : ℕ) (x : X) → slice_get xs i ≡ Some x → p x ≡ false
none_passes p [] none i x at = absurd (none-some x at)
none_passes p (y ∷ xs) none zero x at = ap p (sym (same_Some y x at)) ∙ neither (p y) (list_any p xs) none
  where
    neither : (a b : Bool) → (a || b) ≡ false → a ≡ false
    neither true b h = h
    neither false b h = refl
none_passes p (y ∷ xs) none (suc i) x at = none_passes p xs (neither (p y) (list_any p xs) none) i x at
  where
    neither : (a b : Bool) → (a || b) ≡ false → b ≡ false
    neither true b h = absurd (false≢true (sym h))
    neither false b h = h

-- an element of the list has the answer b
abbrev pub SomeAnswers : {X : Type 0} → (X → Bool) → Bool → List X → Type 0
SomeAnswers {X} p b xs = (i : ℕ) × (x : X) × (slice_get xs i ≡ Some x) × (p x ≡ b)

answers_later : {X : Type 0} (p : X → Bool) (b : Bool) (y : X) (xs : List X) → SomeAnswers p b xs → SomeAnswers p b (y ∷ xs)
answers_later p b y xs r = (suc r.0, r.1, r.2, r.3)

passes_here : {X : Type 0} (p : X → Bool) (y : X) (xs : List X) (b : Bool) → p y ≡ b → (b || list_any p xs) ≡ true
    → (list_any p xs ≡ true → SomeAnswers p true xs) → SomeAnswers p true (y ∷ xs)
passes_here p y xs true is h rest = (0, y, refl, is)
passes_here p y xs false is h rest = answers_later p true y xs (rest h)

pub some_passes : {X : Type 0} (p : X → Bool) (xs : List X) → list_any p xs ≡ true → SomeAnswers p true xs
some_passes p [] any = absurd (false≢true any)
some_passes p (y ∷ xs) any = passes_here p y xs (p y) refl any (some_passes p xs)
