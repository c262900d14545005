-- How a slot is found by its path.
use Rattle.std.proofs.Common.{◌≡◌, ℕ, zero, suc, ◌+◌, ◌<◌, false, List, [], ◌∷◌, ◌++◌, length, take, get_or, refl, ap, sym, ◌∙◌, subst, arith, inl, inr}
use Rattle.std.specs.Prelude.{◌⊎◌, Option, Some, slice_get, slice_set}
use Rattle.std.proofs.lemmas.Option.{none-some, same_Some, slice_get_within, get_or_from_slice_get}
use Rattle.std.proofs.lemmas.Bool.{cases_lt, false≢true}
use Rattle.std.proofs.lemmas.List.{length_push, take_at, take-append-le, take_more, get_or-append-add, get_or_append_left}
use Rattle.cgs_board.specs.declared.event.Event.{Event}
use Rattle.cgs_board.specs.declared.slot.Slot.{Slot}
use Rattle.cgs_board.specs.declared.slot.Stage.{Stage}
use Rattle.cgs_board.specs.declared.slot.Stage.TheVariants.{Open, Out, Closed}
use Rattle.cgs_board.specs.History.{IsGiven, IsGivenWith, IsOffered}
use Rattle.cgs_board.specs.Slots.{open_slot, out_slot, closed_slot, open_slots, is_closed, Agrees, Follows, StandsAt, IsChildPlace, LeadsDown, IsTree}
use Rattle.cgs_board.proofs.SlotLists.{get-set_cases, get-append, get-append_right, get-append_cases, get-open_slots, open_slots-get}
use Rattle.cgs_board.proofs.HistoryLemmas.{claimed_was_offered, given_is_claimed, given_node}
use Rattle.cgs_board.proofs.Following.{path_after, slot_offered}

-- ---- each slot that is closed tells where those of its children stand

module _ {J : Type 0} where
  abbrev first_of : Stage J → ℕ
  first_of (Open piece kept noted) = 0
  first_of (Out worker kept) = 0
  first_of (Closed first children) = first

  abbrev children_of : Stage J → ℕ
  children_of (Open piece kept noted) = 0
  children_of (Out worker kept) = 0
  children_of (Closed first children) = children

  -- what is not closed tells of none
  no_place : (stage : Stage J) (number place : ℕ) → is_closed stage ≡ false → IsChildPlace stage number place → ⊥
  no_place stage number place left c = false≢true (sym left ∙ ap is_closed c.2)

  pub leads_start : (branch : J) → LeadsDown (open_slot [] branch ∷ [])
  leads_start branch = record { top = (open_slot [] branch, refl, refl); below = below }
    where
      below : (i number place : ℕ) (slot : Slot J) → slice_get (open_slot [] branch ∷ []) i ≡ Some slot → IsChildPlace slot.stage number place
          → StandsAt (open_slot [] branch ∷ []) place (slot.path ++ number ∷ [])
      below zero number place slot at c =
          absurd (no_place slot.stage number place (ap (λ (s : Slot J). is_closed s.stage) (sym (same_Some (open_slot [] branch) slot at))) c)
      below (suc i) number place slot at c = absurd (none-some slot at)

  module _ (slots : List (Slot J)) (l : LeadsDown slots) (at : ℕ) where
    -- a write that keeps the path keeps where paths stand
    stays : (old new : Slot J) (xs : List (Slot J)) → slice_get xs at ≡ Some old → new.path ≡ old.path → (i : ℕ) (path : List ℕ) → StandsAt xs i path
        → StandsAt (slice_set xs at new) i path
    stays old new xs was same i path s = let a = path_after xs at old new was same i s.0 s.1 in (a.0, a.1, a.2 ∙ s.2)

    pub leads_claimed : (old new : Slot J) → slice_get slots at ≡ Some old → new.path ≡ old.path → is_closed new.stage ≡ false
        → LeadsDown (slice_set slots at new)
    leads_claimed old new was same left = record {
      top = stays old new slots was same 0 [] l.top;
      below = λ i number place slot there c. elim (get-set_cases slots at i new slot there) [
        | inl here ↦ absurd (no_place slot.stage number place (ap (λ (s : Slot J). is_closed s.stage) here.1 ∙ left) c)
        | inr other ↦ stays old new slots was same place (slot.path ++ number ∷ []) (l.below i number place slot other.1 c)
      ];
    }

    -- a branch comes back, and its children are offered
    module _ (path : List ℕ) (worker : ℕ) (branch : J) (children : List J) (was : slice_get slots at ≡ Some (out_slot path worker branch)) where
      abbrev kids : List (Slot J)
      kids = open_slots path 0 children

      abbrev shut : Slot J
      shut = closed_slot path (length slots) (length children)

      abbrev after : List (Slot J)
      after = slice_set (slots ++ kids) at shut

      moved : (i : ℕ) (p : List ℕ) → StandsAt (slots ++ kids) i p → StandsAt after i p
      moved i p s = stays (out_slot path worker branch) shut (slots ++ kids) (get-append slots kids at (out_slot path worker branch) was) refl i p s

      moved_old : (i : ℕ) (p : List ℕ) → StandsAt slots i p → StandsAt after i p
      moved_old i p s = moved i p (s.0, get-append slots kids i s.0 s.1, s.2)

      kid_left : (k : ℕ) (slot : Slot J) → slice_get kids k ≡ Some slot → is_closed slot.stage ≡ false
      kid_left k slot there = let c = get-open_slots path 0 children k slot there in ap (λ (s : Slot J). is_closed s.stage) c.2

      kid : (number place : ℕ) → IsChildPlace shut.stage number place → StandsAt after place (path ++ number ∷ [])
      kid number place c =
          let first : length slots ≡ c.0 = ap first_of c.2 in
          let many : length children ≡ c.1 = ap children_of c.2 in
          let lt = c.3 in
          let k = open_slots-get path 0 children number (omega (arith, lt, many)) in
          let e : 0 + number ≡ number = omega arith in
          let there : length slots + number ≡ place = (let p = c.4 in omega (arith, p, first)) in
          subst (λ n. StandsAt after n (path ++ number ∷ [])) there
          (moved (length slots + number) (path ++ number ∷ [])
          (k.0, get-append_right slots kids number k.0 k.1, k.2 ∙ ap (λ n. path ++ n ∷ []) e))

      pub leads_closed : LeadsDown after
      leads_closed = record {
        top = moved_old 0 [] l.top;
        below = λ i number place slot there c. elim (get-set_cases (slots ++ kids) at i shut slot there) [
          | inl here ↦ subst (λ (s : Slot J). StandsAt after place (s.path ++ number ∷ [])) (sym here.1)
              (kid number place (subst (λ (s : Slot J). IsChildPlace s.stage number place) here.1 c))
          | inr other ↦ elim (get-append_cases slots kids i slot other.1) [
            | inl before ↦ moved_old place (slot.path ++ number ∷ []) (l.below i number place slot before c)
            | inr new ↦ absurd (no_place slot.stage number place (kid_left new.0 slot new.2) c)
          ]
        ];
      }

-- ---- the slots of a tree

module _ {J E : Type 0} (node : J → List ℕ → Option E × List J) (root : J) (workers : ℕ) (slots : List (Slot J)) (found : List (List ℕ × E)) (h : List Event)
    (f : Follows node root workers slots found h) (l : LeadsDown slots) where
  -- a branch that was given back with so many children has a slot that says so
  given_stage : (path : List ℕ) (stage : Stage J) → Agrees node root h path stage → (children : ℕ) → IsGivenWith path children h
      → (first : ℕ) × (stage ≡ Closed first children)
  given_stage path (Open piece kept noted) a children g = absurd (a.4.1 (given_is_claimed node root workers h f.legal path (children, g)))
  given_stage path (Out worker kept) a children g = absurd (a.1.1 (children, g))
  given_stage path (Closed first many) a children g =
      let x = given_node node root workers h f.legal a.0 path many a.1 a.2 in
      let y = given_node node root workers h f.legal g.0 path children g.1 g.2 in
      let same : x.0 ≡ y.0 = same_Some x.0 y.0 (sym x.1 ∙ y.1) in
      let equal : many ≡ children = x.2 ∙ (ap (λ b. length (node b path).1) same ∙ sym y.2) in
      (first, ap (λ n. Closed first n) equal)

  parent_of : (path : List ℕ) → IsOffered path h → (path ≡ [])
      ⊎ ((j : ℕ) × (number : ℕ) × (place : ℕ) × (parent : Slot J) × (slice_get slots j ≡ Some parent) × IsChildPlace parent.stage number place
      × (path ≡ parent.path ++ number ∷ []))
  parent_of path (inl top) = inl top
  parent_of path (inr c) =
      let given : IsGiven c.0 h = (c.2, c.5) in
      let s = f.covers c.0 (claimed_was_offered node root workers h f.legal c.0 (given_is_claimed node root workers h f.legal c.0 given)) in
      let shut = given_stage s.1.path s.1.stage (f.agree s.0 s.1 s.2) c.2 (subst (λ p. IsGivenWith p c.2 h) (sym s.3) c.5) in
      inr (s.0, c.1, shut.0 + c.1, s.1, s.2, (shut.0, c.2, shut.1, c.4, refl), c.3 ∙ ap (λ p. p ++ c.1 ∷ []) (sym s.3))

  pub is_tree : IsTree slots
  is_tree = record {
    leads = l;
    apart = λ i j path a b. f.apart i j a.0 b.0 a.1 b.1 (a.2 ∙ sym b.2);
    above = λ i slot at. parent_of slot.path (slot_offered node root workers slots found h f i slot at);
  }

-- ---- going down

module _ {J : Type 0} (slots : List (Slot J)) (t : IsTree slots) where
  -- a slot on the way to the path, at a depth, tells where the next one stands
  abbrev OnTheWay : List ℕ → ℕ → Type 0
  OnTheWay path k = (j : ℕ) × (place : ℕ) × (s : Slot J) × (slice_get slots j ≡ Some s) × (s.path ≡ take k path) × IsChildPlace s.stage (get_or path k 0) place

  above_at : (n i : ℕ) (slot : Slot J) → slice_get slots i ≡ Some slot → length slot.path < n → (k : ℕ) → k < length slot.path → OnTheWay slot.path k
  above_at zero i slot at few k below = absurd (omega (arith, few))
  above_at (suc n) i slot at few k below = by_parent (t.above i slot at) (λ j parent there less. above_at n j parent there less k)
    where
      by_parent : (slot.path ≡ [])
          ⊎ ((j : ℕ) × (number : ℕ) × (place : ℕ) × (parent : Slot J) × (slice_get slots j ≡ Some parent) × IsChildPlace parent.stage number place
          × (slot.path ≡ parent.path ++ number ∷ []))
          → ((j : ℕ) (parent : Slot J) → slice_get slots j ≡ Some parent → length parent.path < n → k < length parent.path → OnTheWay parent.path k)
          → OnTheWay slot.path k
      by_parent (inl top) higher = absurd (let none = ap length top in omega (arith, none, below))
      by_parent (inr p) higher =
          let long : length slot.path ≡ length p.3.path + 1 = ap length p.6 ∙ length_push p.3.path p.1 in
          elim (cases_lt k (length p.3.path)) [
            | inl lt ↦
                let r = higher p.0 p.3 p.4 (omega (arith, few, long)) lt in
                let front : take k slot.path ≡ take k p.3.path
                = ap (take k) p.6 ∙ take-append-le k p.3.path (p.1 ∷ []) (omega (arith, lt)) in
                let number : get_or slot.path k 0 ≡ get_or p.3.path k 0
                = ap (λ q. get_or q k 0) p.6 ∙ get_or_append_left p.3.path (p.1 ∷ []) 0 k lt in
                (r.0, r.1, r.2, r.3, r.4 ∙ sym front, subst (λ m. IsChildPlace r.2.stage m r.1) (sym number) r.5)
            | inr ge ↦
                let e : length p.3.path ≡ k = omega (arith, ge, below, long) in
                let e0 : length p.3.path + 0 ≡ k = omega (arith, e) in
                let front : take k slot.path ≡ p.3.path = ap (take k) p.6 ∙ take_at p.3.path (p.1 ∷ []) k e in
                let number : get_or slot.path k 0 ≡ p.1
                = ap (λ q. get_or q k 0) p.6
                ∙ (ap (λ m. get_or (p.3.path ++ p.1 ∷ []) m 0) (sym e0) ∙ get_or-append-add p.3.path (p.1 ∷ []) 0 0) in
                (p.0, p.2, p.3, p.4, sym front, subst (λ m. IsChildPlace p.3.stage m p.2) (sym number) p.5)
          ]

  module _ (path : List ℕ) (k at : ℕ) (d : Slot J) (s : StandsAt slots at (take k path)) where
    reads : get_or slots at d ≡ s.0
    reads = get_or_from_slice_get slots at s.0 d s.1

    -- one number further
    stands_below : (number place : ℕ) → IsChildPlace (get_or slots at d).stage number place → StandsAt slots place (s.0.path ++ number ∷ [])
    stands_below number place c = t.leads.below at number place s.0 s.1 (subst (λ (x : Slot J). IsChildPlace x.stage number place) reads c)

    pub place_below : (most number place : ℕ) → length slots < most → IsChildPlace (get_or slots at d).stage number place → place < most
    place_below most number place size c =
        let b = stands_below number place c in
        let w = slice_get_within slots place b.0 b.1 in
        omega (arith, w, size)

    pub goes_on : k < length path → (place : ℕ) → IsChildPlace (get_or slots at d).stage (get_or path k 0) place → StandsAt slots place (take (k + 1) path)
    goes_on within place c =
        let b = stands_below (get_or path k 0) place c in
        (b.0, b.1, b.2 ∙ (ap (λ p. p ++ get_or path k 0 ∷ []) s.2 ∙ sym (take_more path k 0 within)))

    -- where a slot on the way does not go on, no slot has the path
    pub ends : k < length path → ((place : ℕ) → IsChildPlace (get_or slots at d).stage (get_or path k 0) place → ⊥) → (i : ℕ) → StandsAt slots i path → ⊥
    ends within none i o =
        let n : k < length o.0.path = subst (λ p. k < length p) (sym o.2) within in
        let a = above_at (length o.0.path + 1) i o.0 o.1 (omega arith) k n in
        let e : a.0 ≡ at = t.apart a.0 at (take k path) (a.2, a.3, a.4 ∙ ap (take k) o.2) s in
        let is : a.2 ≡ get_or slots at d = same_Some a.2 s.0 (sym a.3 ∙ (ap (slice_get slots) e ∙ s.1)) ∙ sym reads in
        none a.1 (subst (λ p. IsChildPlace (get_or slots at d).stage (get_or p k 0) a.1) o.2
        (subst (λ (x : Slot J). IsChildPlace x.stage (get_or o.0.path k 0) a.1) is a.5))

  -- whether the slot of a path is that of a branch which a worker has
  module _ (path : List ℕ) (worker : ℕ) (branch : J) (at : ℕ) (d : Slot J) (s : StandsAt slots at path) where
    pub is_out_slot : (get_or slots at d).stage ≡ Out worker branch → slice_get slots at ≡ Some (out_slot path worker branch)
    is_out_slot is =
        let stage : s.0.stage ≡ Out worker branch = ap (λ (x : Slot J). x.stage) (sym (get_or_from_slice_get slots at s.0 d s.1)) ∙ is in
        let slot : s.0 ≡ out_slot path worker branch = (λ i. record { path = s.2 i; stage = stage i }) in
        s.1 ∙ ap Some slot

    pub no_out_slot : ((get_or slots at d).stage ≡ Out worker branch → ⊥) → (i : ℕ) → slice_get slots i ≡ Some (out_slot path worker branch) → ⊥
    no_out_slot none i there =
        let e : i ≡ at = t.apart i at path (out_slot path worker branch, there, refl) s in
        let is : slice_get slots at ≡ Some (out_slot path worker branch) = ap (slice_get slots) (sym e) ∙ there in
        none (ap (λ (x : Slot J). x.stage) (get_or_from_slice_get slots at (out_slot path worker branch) d is))
