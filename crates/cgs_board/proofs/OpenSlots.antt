-- The open slots, as the heap of a board has them.
use Rattle.std.proofs.Common.{◌≡◌, ℕ, zero, suc, ◌+◌, ◌≤◌, Bool, true, false, List, [], ◌∷◌, ◌++◌, length, refl, ap, sym, ◌∙◌, arith, inl, inr}
use Rattle.std.proofs.Common.{append_assoc, append-nil}
use Rattle.std.specs.Prelude.{Some, slice_get, slice_set, sum_by, IsPermutation}
use Rattle.std.specs.declared.cmp.Reverse.{Reverse}
use Rattle.std.proofs.lemmas.Option.{none-some, same_Some}
use Rattle.std.proofs.lemmas.Bool.{cases_eq}
use Rattle.std.proofs.lemmas.List.{length_push}
use Rattle.std.proofs.lemmas.List.Sorted.{sum_by_popped}
use Rattle.cgs_board.specs.declared.slot.Slot.{Slot}
use Rattle.cgs_board.specs.Slots.{open_slot, is_open, count_if}
use Rattle.cgs_board.specs.Steps.{StandsOpen}
use Rattle.cgs_board.specs.Waiting.{same, names, names_within, open_at, AreWaiting}
use Rattle.cgs_board.proofs.SlotLists.{AllOpen, count_if-le, get-set_same, get-append}

-- ---- places

same_same : (a : ℕ) → same a a ≡ 1
same_same zero = refl
same_same (suc a) = same_same a

same_other : (a b : ℕ) → (b ≡ a → ⊥) → same a b ≡ 0
same_other zero zero other = absurd (other refl)
same_other zero (suc b) other = refl
same_other (suc a) zero other = refl
same_other (suc a) (suc b) other = same_other a b (λ e. other (omega (arith, e)))

-- one place more
pub names_within-push : (i first n : ℕ) → names_within i first (n + 1) ≡ names_within i first n + same (first + n) i
names_within-push i first zero = let e : first + 0 ≡ first = omega arith in rw e (omega arith)
names_within-push i first (suc n) =
    let e : same (first + suc n) i ≡ same (first + 1 + n) i = ap (λ m. same m i) (omega arith) in
    let n1 : suc n + 1 ≡ suc (n + 1) = omega arith in
    let front : names_within i first (suc n + 1) ≡ same first i + names_within i (first + 1) (n + 1) = ap (names_within i first) n1 in
    omega (arith, e, front, names_within-push i (first + 1) n)

-- ---- whether the slot at a place is open

module _ {J : Type 0} where
  pub open_at-read : (xs : List (Slot J)) (i : ℕ) (s : Slot J) → slice_get xs i ≡ Some s → open_at xs i ≡ count_if (is_open s.stage)
  open_at-read [] i s at = absurd (none-some s at)
  open_at-read (x ∷ xs) zero s at = ap (λ (y : Slot J). count_if (is_open y.stage)) (same_Some x s at)
  open_at-read (x ∷ xs) (suc i) s at = open_at-read xs i s at

  open_at-le : (xs : List (Slot J)) (i : ℕ) → open_at xs i ≤ 1
  open_at-le [] i = omega arith
  open_at-le (x ∷ xs) zero = count_if-le (is_open x.stage)
  open_at-le (x ∷ xs) (suc i) = open_at-le xs i

  stands : (xs : List (Slot J)) (i : ℕ) → 1 ≤ open_at xs i → StandsOpen xs i
  stands [] i some = absurd (omega (arith, some))
  stands (x ∷ xs) zero some = (x, refl, is_one (is_open x.stage) some)
    where
      is_one : (b : Bool) → 1 ≤ count_if b → b ≡ true
      is_one true le = refl
      is_one false le = absurd (omega (arith, le))
  stands (x ∷ xs) (suc i) some = stands xs i some

  pub none_there : (xs : List (Slot J)) → ((i : ℕ) → open_at xs i ≡ 0) → (i : ℕ) (s : Slot J) → slice_get xs i ≡ Some s → is_open s.stage ≡ false
  none_there xs none i s at = is_zero (is_open s.stage) (sym (open_at-read xs i s at) ∙ none i)
    where
      is_zero : (b : Bool) → count_if b ≡ 0 → b ≡ false
      is_zero true e = absurd (omega (arith, e))
      is_zero false e = refl

  shut_there : (xs : List (Slot J)) (i : ℕ) (s : Slot J) → slice_get xs i ≡ Some s → is_open s.stage ≡ false → open_at xs i ≡ 0
  shut_there xs i s at shut = open_at-read xs i s at ∙ ap count_if shut

  open_at-set : (xs : List (Slot J)) (i j : ℕ) (new : Slot J) → (j ≡ i → ⊥) → open_at (slice_set xs i new) j ≡ open_at xs j
  open_at-set [] i j new other = refl
  open_at-set (x ∷ xs) zero zero new other = absurd (other refl)
  open_at-set (x ∷ xs) zero (suc j) new other = refl
  open_at-set (x ∷ xs) (suc i) zero new other = refl
  open_at-set (x ∷ xs) (suc i) (suc j) new other = open_at-set xs i j new (λ e. other (omega (arith, e)))

  open_at-push : (xs : List (Slot J)) (s : Slot J) → is_open s.stage ≡ true → (i : ℕ) → open_at (xs ++ s ∷ []) i ≡ open_at xs i + same (length xs) i
  open_at-push [] s is zero = let one : count_if (is_open s.stage) ≡ 1 = ap count_if is in omega (arith, one)
  open_at-push [] s is (suc i) = omega arith
  open_at-push (x ∷ xs) s is zero = omega arith
  open_at-push (x ∷ xs) s is (suc i) = open_at-push xs s is i

  -- slots that are added open
  pub open_at-offered : (xs ys : List (Slot J)) → AllOpen ys → (i : ℕ) → open_at (xs ++ ys) i ≡ open_at xs i + names_within i (length xs) (length ys)
  open_at-offered xs [] are i = let e : open_at (xs ++ []) i ≡ open_at xs i = ap (λ (l : List (Slot J)). open_at l i) (append-nil xs) in omega (arith, e)
  open_at-offered xs (y ∷ ys) are i =
      let e : open_at (xs ++ y ∷ ys) i ≡ open_at ((xs ++ y ∷ []) ++ ys) i
      = ap (λ (l : List (Slot J)). open_at l i) (sym (append_assoc xs (y ∷ []) ys)) in
      let tail : names_within i (length (xs ++ y ∷ [])) (length ys) ≡ names_within i (length xs + 1) (length ys)
      = ap (λ n. names_within i n (length ys)) (length_push xs y) in
      omega (arith, e, tail, open_at-push xs y (are 0 y refl) i, open_at-offered (xs ++ y ∷ []) ys (λ k s at. are (suc k) s at) i)

  -- ---- what waits

  -- the root's slot waits
  pub waits_start : (branch : J) (waiting : List (ℕ × Reverse ℕ)) → ((i : ℕ) → sum_by (names i) waiting ≡ names_within i 0 1)
      → AreWaiting waiting (open_slot [] branch ∷ [])
  waits_start branch waiting all i = omega (arith, all i, open_at-offered [] (open_slot [] branch ∷ []) are i)
    where
      are : AllOpen (open_slot [] branch ∷ [])
      are zero slot at = ap (λ (s : Slot J). is_open s.stage) (sym (same_Some (open_slot [] branch) slot at))
      are (suc k) slot at = absurd (none-some slot at)

  -- nothing waits: nothing is open
  pub none_waits : (slots : List (Slot J)) (waiting : List (ℕ × Reverse ℕ)) → AreWaiting waiting slots → length waiting ≡ 0 → (i : ℕ) → open_at slots i ≡ 0
  none_waits slots [] waits none i = sym (waits i)
  none_waits slots (x ∷ xs) waits none i = absurd (omega (arith, none))

  -- one that waited is open, and waits no more where it is handed out
  module _ (slots : List (Slot J)) (old new : List (ℕ × Reverse ℕ)) (x : ℕ × Reverse ℕ) (waits : AreWaiting old slots)
      (popped : IsPermutation old (x ∷ new)) where
    pub waited_open : StandsOpen slots x.1.0
    waited_open = stands slots x.1.0 (omega (arith, same_same x.1.0, sum_by_popped (names x.1.0) x old new popped, waits x.1.0))

    pub waits_claimed : (s t : Slot J) → slice_get slots x.1.0 ≡ Some s → is_open t.stage ≡ false → AreWaiting new (slice_set slots x.1.0 t)
    waits_claimed s t at shut i = elim (cases_eq i x.1.0) [
      | inl e ↦
          let one : names i x ≡ 1 = ap (same x.1.0) e ∙ same_same x.1.0 in
          let after : open_at (slice_set slots x.1.0 t) i ≡ 0
          = ap (open_at (slice_set slots x.1.0 t)) e ∙ shut_there (slice_set slots x.1.0 t) x.1.0 t (get-set_same slots x.1.0 s t at) shut in
          omega (arith, one, after, sum_by_popped (names i) x old new popped, waits i, open_at-le slots i)
      | inr other ↦
          let none : names i x ≡ 0 = same_other x.1.0 i other in
          omega (arith, none, open_at-set slots x.1.0 i t other, sum_by_popped (names i) x old new popped, waits i)
    ]

  -- the slots of children wait
  pub waits_closed : (slots fresh : List (Slot J)) (old new : List (ℕ × Reverse ℕ)) (at : ℕ) (s t : Slot J) → AreWaiting old slots → AllOpen fresh
      → ((i : ℕ) → sum_by (names i) new ≡ sum_by (names i) old + names_within i (length slots) (length fresh))
      → slice_get slots at ≡ Some s → is_open s.stage ≡ false → is_open t.stage ≡ false → AreWaiting new (slice_set (slots ++ fresh) at t)
  waits_closed slots fresh old new at s t waits are more there was shut i = elim (cases_eq i at) [
    | inl e ↦
        let all : slice_get (slots ++ fresh) at ≡ Some s = get-append slots fresh at s there in
        let before : open_at (slots ++ fresh) i ≡ 0 = ap (open_at (slots ++ fresh)) e ∙ shut_there (slots ++ fresh) at s all was in
        let after : open_at (slice_set (slots ++ fresh) at t) i ≡ 0
        = ap (open_at (slice_set (slots ++ fresh) at t)) e
        ∙ shut_there (slice_set (slots ++ fresh) at t) at t (get-set_same (slots ++ fresh) at s t all) shut in
        omega (arith, before, after, open_at-offered slots fresh are i, more i, waits i)
    | inr other ↦ omega (arith, open_at-set (slots ++ fresh) at i t other, open_at-offered slots fresh are i, more i, waits i)
  ]
