-- How slots and entries go on to follow from the history, step by step.
use Rattle.std.proofs.Common.{◌≡◌, ℕ, zero, suc, ◌+◌, ◌<◌, List, [], ◌∷◌, ◌++◌, length, take, refl, ap, sym, ◌∙◌, subst, arith, inl, inr, append-nil}
use Rattle.std.specs.Prelude.{Option, Some, None, slice_get, slice_set, Contains, flat_map}
use Rattle.std.proofs.lemmas.Option.{none-some, same_Some, slice_get_within}
use Rattle.std.proofs.lemmas.Bool.{cases_eq}
use Rattle.std.proofs.lemmas.List.{append_cancel_left, length_push, take_at}
use Rattle.std.proofs.lemmas.List.Concat.{flat_map-append}
use Rattle.std.proofs.lemmas.List.Elements.{Contains-append_left, Contains-push, Contains-push_cases}
use Rattle.cgs_board.specs.declared.event.Event.{Event}
use Rattle.cgs_board.specs.declared.event.Event.TheVariants.{Claim, Give, Quit}
use Rattle.cgs_board.specs.declared.slot.Slot.{Slot}
use Rattle.cgs_board.specs.declared.slot.Stage.{Stage}
use Rattle.cgs_board.specs.declared.slot.Stage.TheVariants.{Open, Out, Closed}
use Rattle.cgs_board.specs.Tree.{branch_at, child_at, entry_of}
use Rattle.cgs_board.specs.History.{IsGiven, HasQuit, IsOffered, IsOpen, IsOut, entries_in}
use Rattle.cgs_board.specs.Slots.{open_slot, out_slot, closed_slot, open_slots, Agrees, Follows, brought}
use Rattle.cgs_board.proofs.TreeLemmas.{branch_at_child}
use Rattle.cgs_board.proofs.SlotLists.{get-set_cases, get-set_same, get-set_other, get-append, get-append_right, get-append_cases, get-open_slots}
use Rattle.cgs_board.proofs.SlotLists.{open_slots-get}
use Rattle.cgs_board.proofs.HistoryLemmas.{none_in_nil, path_of, children_of, claim_no_give, quit_no_give, quit_no_claim, give_no_claim, within_push}
use Rattle.cgs_board.proofs.HistoryLemmas.{offered_within, legal_start, legal_push, claimed_was_offered, given_is_claimed}

module _ {J : Type 0} where
  -- a write that keeps the path keeps the paths of all places
  pub path_before : (xs : List (Slot J)) (i : ℕ) (old new : Slot J) → slice_get xs i ≡ Some old → new.path ≡ old.path
      → (j : ℕ) (s : Slot J) → slice_get (slice_set xs i new) j ≡ Some s → (t : Slot J) × (slice_get xs j ≡ Some t) × (t.path ≡ s.path)
  path_before xs i old new was same j s at =
      elim (get-set_cases xs i j new s at) [
        | inl here ↦ (old, ap (slice_get xs) here.0 ∙ was, sym same ∙ ap (λ (x : Slot J). x.path) (sym here.1))
        | inr other ↦ (s, other.1, refl)
      ]

  pub path_after : (xs : List (Slot J)) (i : ℕ) (old new : Slot J) → slice_get xs i ≡ Some old → new.path ≡ old.path
      → (j : ℕ) (t : Slot J) → slice_get xs j ≡ Some t → (s : Slot J) × (slice_get (slice_set xs i new) j ≡ Some s) × (s.path ≡ t.path)
  path_after xs i old new was same j t at =
      elim (cases_eq j i) [
        | inl here ↦ (
          new,
          ap (slice_get (slice_set xs i new)) here ∙ get-set_same xs i old new was,
          same ∙ ap (λ (x : Slot J). x.path) (same_Some old t (sym was ∙ (ap (slice_get xs) (sym here) ∙ at))),
        )
        | inr other ↦ (t, get-set_other xs i j t new other at, refl)
      ]

-- two paths that are equal have the same last number, and the same path above it
pub front_same : (p q : List ℕ) (a b : ℕ) → p ++ a ∷ [] ≡ q ++ b ∷ [] → q ≡ p
front_same p q a b e =
    let n : length p ≡ length q = (let m = ap length e in omega (arith, m, length_push p a, length_push q b)) in
    sym (take_at q (b ∷ []) (length p) (sym n)) ∙ (ap (take (length p)) (sym e) ∙ take_at p (a ∷ []) (length p) refl)

pub last_same : (p : List ℕ) (a b : ℕ) → p ++ a ∷ [] ≡ p ++ b ∷ [] → a ≡ b
last_same p a b e = ap first (append_cancel_left p (a ∷ []) (b ∷ []) e)
  where
    first : List ℕ → ℕ
    first [] = 0
    first (x ∷ xs) = x

module _ {J E : Type 0} (node : J → List ℕ → Option E × List J) (root : J) (workers : ℕ) where
  -- an event of another branch changes nothing for a slot
  agrees_after : (h : List Event) (e : Event) (path : List ℕ) (stage : Stage J)
      → ((w : ℕ) → e ≡ Claim w path → ⊥) → ((w c n : ℕ) → e ≡ Give w path c n → ⊥) → Agrees node root h path stage → Agrees node root (h ++ e ∷ []) path stage
  agrees_after h e path (Open piece kept noted) no_claim no_give a = (
    a.0,
    a.1,
    a.2,
    a.3,
    (
      offered_within h (h ++ e ∷ []) path (within_push h e) a.4.0,
      λ c. elim (Contains-push_cases h e (Claim c.0 path) c.1) [ inl was ↦ a.4.1 (c.0, was) | inr is ↦ no_claim c.0 is ],
    ),
  )
  agrees_after h e path (Out worker kept) no_claim no_give a = (
    a.0,
    (
      Contains-append_left h (e ∷ []) (Claim worker path) a.1.0,
      λ g. elim (Contains-push_cases h e (Give g.1.0 path g.0 g.1.1) g.1.2)
          [ inl was ↦ a.1.1 (g.0, (g.1.0, g.1.1, was)) | inr is ↦ no_give g.1.0 g.0 g.1.1 is ],
    ),
  )
  agrees_after h e path (Closed first children) no_claim no_give a = (a.0, a.1, within_push h e (Give a.0 path children a.1) a.2)

  -- the board at its start
  pub follows_start : Follows node root workers (open_slot [] root ∷ []) [] []
  follows_start = record {
    legal = legal_start node root workers;
    agree = agree;
    apart = apart;
    covers = covers;
    entries = refl;
  }
    where
      agree : (i : ℕ) (slot : Slot J) → slice_get (open_slot [] root ∷ []) i ≡ Some slot → Agrees node root [] slot.path slot.stage
      agree zero slot at = subst (λ (s : Slot J). Agrees node root [] s.path s.stage) (same_Some (open_slot [] root) slot at)
          (refl, refl, refl, refl, (inl refl, λ c. none_in_nil (Claim c.0 []) c.1))
      agree (suc i) slot at = absurd (none-some slot at)

      apart : (i j : ℕ) (s t : Slot J) → slice_get (open_slot [] root ∷ []) i ≡ Some s → slice_get (open_slot [] root ∷ []) j ≡ Some t → s.path ≡ t.path → i ≡ j
      apart zero zero s t at there same = refl
      apart zero (suc j) s t at there same = absurd (none-some t there)
      apart (suc i) j s t at there same = absurd (none-some s at)

      covers : (path : List ℕ) → IsOffered path [] → (i : ℕ) × (slot : Slot J) × (slice_get (open_slot [] root ∷ []) i ≡ Some slot) × (slot.path ≡ path)
      covers path (inl top) = (0, open_slot [] root, refl, sym top)
      covers path (inr c) = absurd (none_in_nil (Give c.5.0 c.0 c.2 c.5.1) c.5.2)

  module _ (slots : List (Slot J)) (found : List (List ℕ × E)) (h : List Event) (f : Follows node root workers slots found h) where
    -- a worker gives up
    pub follows_quit : (worker : ℕ) → worker < workers → (Contains h (Quit worker) → ⊥) → Follows node root workers slots found (h ++ Quit worker ∷ [])
    follows_quit worker below first = record {
      legal = legal_push node root workers h (Quit worker) f.legal (below, first);
      agree = λ i slot at. agrees_after h (Quit worker) slot.path slot.stage (λ w e. quit_no_claim worker w slot.path e)
          (λ w c n e. quit_no_give worker w slot.path c n e) (f.agree i slot at);
      apart = f.apart;
      covers = covers;
      entries = f.entries ∙ sym (flat_map-append (brought node (entry_of node) root) h (Quit worker ∷ []) ∙ append-nil _);
    }
      where
        covers : (path : List ℕ) → IsOffered path (h ++ Quit worker ∷ []) → (i : ℕ) × (slot : Slot J) × (slice_get slots i ≡ Some slot) × (slot.path ≡ path)
        covers path (inl top) = f.covers path (inl top)
        covers path (inr c) =
            elim (Contains-push_cases h (Quit worker) (Give c.5.0 c.0 c.2 c.5.1) c.5.2) [
              | inl was ↦ f.covers path (inr (c.0, c.1, c.2, c.3, c.4, (c.5.0, c.5.1, was)))
              | inr is ↦ absurd (quit_no_give worker c.5.0 c.0 c.2 c.5.1 is)
            ]

    module _ (i : ℕ) (slot : Slot J) (at : slice_get slots i ≡ Some slot) where
      -- a worker claims the branch of an open slot
      pub follows_claim : (worker : ℕ) (branch : J) → worker < workers → (HasQuit h → ⊥) → branch_at node root slot.path ≡ Some branch → IsOpen slot.path h
          → Follows node root workers (slice_set slots i (out_slot slot.path worker branch)) found (h ++ Claim worker slot.path ∷ [])
      follows_claim worker branch below stays is free = record {
        legal = legal_push node root workers h (Claim worker slot.path) f.legal (below, free, stays);
        agree = agree;
        apart = λ j k s t there here same.
            let b = path_before slots i slot (out_slot slot.path worker branch) at refl j s there in
            let c = path_before slots i slot (out_slot slot.path worker branch) at refl k t here in
            f.apart j k b.0 c.0 b.1 c.1 (b.2 ∙ (same ∙ sym c.2));
        covers = covers;
        entries = f.entries ∙ sym (flat_map-append (brought node (entry_of node) root) h (Claim worker slot.path ∷ []) ∙ append-nil _);
      }
        where
          none_given : IsGiven slot.path (h ++ Claim worker slot.path ∷ []) → ⊥
          none_given g = elim (Contains-push_cases h (Claim worker slot.path) (Give g.1.0 slot.path g.0 g.1.1) g.1.2) [
            | inl was ↦ free.1 (given_is_claimed node root workers h f.legal slot.path (g.0, (g.1.0, g.1.1, was)))
            | inr is ↦ claim_no_give worker g.1.0 slot.path slot.path g.0 g.1.1 is
          ]

          agree : (j : ℕ) (s : Slot J) → slice_get (slice_set slots i (out_slot slot.path worker branch)) j ≡ Some s
              → Agrees node root (h ++ Claim worker slot.path ∷ []) s.path s.stage
          agree j s there = elim (get-set_cases slots i j (out_slot slot.path worker branch) s there) [
            | inl here ↦ subst (λ (x : Slot J). Agrees node root (h ++ Claim worker slot.path ∷ []) x.path x.stage) (sym here.1)
                (is, (Contains-push h (Claim worker slot.path), none_given))
            | inr other ↦ agrees_after h (Claim worker slot.path) s.path s.stage
                (λ w e. other.0 (f.apart j i s slot other.1 at (sym (ap path_of e))))
                (λ w c n e. claim_no_give worker w slot.path s.path c n e)
                (f.agree j s other.1)
          ]

          moved : (path : List ℕ) → IsOffered path h
              → (j : ℕ) × (s : Slot J) × (slice_get (slice_set slots i (out_slot slot.path worker branch)) j ≡ Some s) × (s.path ≡ path)
          moved path o =
              let c = f.covers path o in
              let a = path_after slots i slot (out_slot slot.path worker branch) at refl c.0 c.1 c.2 in
              (c.0, a.0, a.1, a.2 ∙ c.3)

          covers : (path : List ℕ) → IsOffered path (h ++ Claim worker slot.path ∷ [])
              → (j : ℕ) × (s : Slot J) × (slice_get (slice_set slots i (out_slot slot.path worker branch)) j ≡ Some s) × (s.path ≡ path)
          covers path (inl top) = moved path (inl top)
          covers path (inr c) =
              elim (Contains-push_cases h (Claim worker slot.path) (Give c.5.0 c.0 c.2 c.5.1) c.5.2) [
                | inl was ↦ moved path (inr (c.0, c.1, c.2, c.3, c.4, (c.5.0, c.5.1, was)))
                | inr is ↦ absurd (claim_no_give worker c.5.0 slot.path c.0 c.2 c.5.1 is)
              ]

    -- each slot is that of a branch that was offered
    pub slot_offered : (i : ℕ) (slot : Slot J) → slice_get slots i ≡ Some slot → IsOffered slot.path h
    slot_offered i slot at = of slot.path slot.stage (f.agree i slot at)
      where
        of : (path : List ℕ) (stage : Stage J) → Agrees node root h path stage → IsOffered path h
        of path (Open piece kept noted) a = a.4.0
        of path (Out worker kept) a = claimed_was_offered node root workers h f.legal path (worker, a.1.0)
        of path (Closed first children) a =
            claimed_was_offered node root workers h f.legal path (given_is_claimed node root workers h f.legal path (children, a))

    -- a child of a branch that was not given back was not offered
    child_is_new : (path : List ℕ) (k : ℕ) → (IsGiven path h → ⊥) → IsOffered (path ++ k ∷ []) h → ⊥
    child_is_new path k none (inl top) = let long = length_push path k in let n = ap length top in omega (arith, long, n)
    child_is_new path k none (inr c) = none (c.2, (c.5.0, c.5.1, subst (λ q. Contains h (Give c.5.0 q c.2 c.5.1)) (front_same path c.0 k c.1 c.3) c.5.2))

    module _ (worker i : ℕ) (path : List ℕ) (branch : J) (at : slice_get slots i ≡ Some (out_slot path worker branch)) where
      -- the event and the slots of a give
      abbrev event : Event
      event = Give worker path (length (node branch path).1) (entries_in (node branch path).0)

      abbrev kids : List (Slot J)
      kids = open_slots path 0 (node branch path).1

      abbrev shut : Slot J
      shut = closed_slot path (length slots) (length (node branch path).1)

      abbrev after : List (Slot J)
      after = slice_set (slots ++ kids) i shut

      is_branch : branch_at node root path ≡ Some branch
      is_branch = (f.agree i (out_slot path worker branch) at).0

      is_out : IsOut worker path h
      is_out = (f.agree i (out_slot path worker branch) at).1

      at_all : slice_get (slots ++ kids) i ≡ Some (out_slot path worker branch)
      at_all = get-append slots kids i (out_slot path worker branch) at

      child_agrees : (k : ℕ) (c : J) → child_at node branch path k ≡ Some c
          → Agrees node root (h ++ event ∷ []) (path ++ k ∷ []) (open_slot (path ++ k ∷ []) c).stage
      child_agrees k c is = (
        refl,
        refl,
        refl,
        branch_at_child node root path branch k c is_branch is,
        (
          inr (
            path,
            k,
            length (node branch path).1,
            refl,
            slice_get_within (node branch path).1 k c is,
            (worker, entries_in (node branch path).0, Contains-push h event),
          ),
          λ d. elim (Contains-push_cases h event (Claim d.0 (path ++ k ∷ [])) d.1) [
            | inl was ↦ child_is_new path k is_out.1 (claimed_was_offered node root workers h f.legal (path ++ k ∷ []) (d.0, was))
            | inr is ↦ give_no_claim worker d.0 path (path ++ k ∷ []) (length (node branch path).1) (entries_in (node branch path).0) is
          ],
        ),
      )

      old_agrees : (j : ℕ) (s : Slot J) → (j ≡ i → ⊥) → slice_get slots j ≡ Some s → Agrees node root (h ++ event ∷ []) s.path s.stage
      old_agrees j s other there =
          agrees_after h event s.path s.stage
          (λ w e. give_no_claim worker w path s.path (length (node branch path).1) (entries_in (node branch path).0) e)
          (λ w c n e. other (f.apart j i s (out_slot path worker branch) there at (sym (ap path_of e))))
          (f.agree j s there)

      kid_agrees : (k : ℕ) (s : Slot J) → slice_get kids k ≡ Some s → Agrees node root (h ++ event ∷ []) s.path s.stage
      kid_agrees k s there =
          let c = get-open_slots path 0 (node branch path).1 k s there in
          let e : 0 + k ≡ k = omega arith in
          let is : s ≡ open_slot (path ++ k ∷ []) c.0 = c.2 ∙ ap (λ n. open_slot (path ++ n ∷ []) c.0) e in
          subst (λ (x : Slot J). Agrees node root (h ++ event ∷ []) x.path x.stage) (sym is) (child_agrees k c.0 c.1)

      agree_after : (j : ℕ) (s : Slot J) → slice_get after j ≡ Some s → Agrees node root (h ++ event ∷ []) s.path s.stage
      agree_after j s there = elim (get-set_cases (slots ++ kids) i j shut s there) [
        | inl here ↦ subst (λ (x : Slot J). Agrees node root (h ++ event ∷ []) x.path x.stage) (sym here.1)
            (worker, entries_in (node branch path).0, Contains-push h event)
        | inr other ↦ elim (get-append_cases slots kids j s other.1) [
          | inl before ↦ old_agrees j s other.0 before
          | inr new ↦ kid_agrees new.0 s new.2
        ]
      ]

      kid_path : (k : ℕ) (s : Slot J) → slice_get kids k ≡ Some s → s.path ≡ path ++ k ∷ []
      kid_path k s there =
          let c = get-open_slots path 0 (node branch path).1 k s there in
          let e : 0 + k ≡ k = omega arith in
          ap (λ (x : Slot J). x.path) c.2 ∙ ap (λ n. path ++ n ∷ []) e

      old_no_kid : (j k : ℕ) (s t : Slot J) → slice_get slots j ≡ Some s → slice_get kids k ≡ Some t → s.path ≡ t.path → ⊥
      old_no_kid j k s t there new same = child_is_new path k is_out.1 (subst (λ p. IsOffered p h) (same ∙ kid_path k t new) (slot_offered j s there))

      apart_all : (j k : ℕ) (s t : Slot J) → slice_get (slots ++ kids) j ≡ Some s → slice_get (slots ++ kids) k ≡ Some t → s.path ≡ t.path → j ≡ k
      apart_all j k s t there here same = elim (get-append_cases slots kids j s there) [
        | inl a ↦ elim (get-append_cases slots kids k t here) [ inl b ↦ f.apart j k s t a b same | inr b ↦ absurd (old_no_kid j b.0 s t a b.2 same) ]
        | inr a ↦ elim (get-append_cases slots kids k t here) [
          | inl b ↦ absurd (old_no_kid k a.0 t s b a.2 (sym same))
          | inr b ↦ a.1 ∙ (ap (λ n. length slots + n) (last_same path a.0 b.0 (sym (kid_path a.0 s a.2) ∙ (same ∙ kid_path b.0 t b.2))) ∙ sym b.1)
        ]
      ]

      moved_all : (p : List ℕ) (j : ℕ) (s : Slot J) → slice_get (slots ++ kids) j ≡ Some s → s.path ≡ p
          → (k : ℕ) × (t : Slot J) × (slice_get after k ≡ Some t) × (t.path ≡ p)
      moved_all p j s there is =
          let a = path_after (slots ++ kids) i (out_slot path worker branch) shut at_all refl j s there in
          (j, a.0, a.1, a.2 ∙ is)

      moved_old : (p : List ℕ) → IsOffered p h → (k : ℕ) × (t : Slot J) × (slice_get after k ≡ Some t) × (t.path ≡ p)
      moved_old p o = let c = f.covers p o in moved_all p c.0 c.1 (get-append slots kids c.0 c.1 c.2) c.3

      covers_after : (p : List ℕ) → IsOffered p (h ++ event ∷ []) → (k : ℕ) × (t : Slot J) × (slice_get after k ≡ Some t) × (t.path ≡ p)
      covers_after p (inl top) = moved_old p (inl top)
      covers_after p (inr c) = elim (Contains-push_cases h event (Give c.5.0 c.0 c.2 c.5.1) c.5.2) [
        | inl was ↦ moved_old p (inr (c.0, c.1, c.2, c.3, c.4, (c.5.0, c.5.1, was)))
        | inr is ↦
            let parent : path ≡ c.0 = ap path_of is in
            let count : length (node branch path).1 ≡ c.2 = ap children_of is in
            let lt : c.1 < c.2 = c.4 in
            let within : c.1 < length (node branch path).1 = omega (arith, count, lt) in
            let k = open_slots-get path 0 (node branch path).1 c.1 within in
            let e : 0 + c.1 ≡ c.1 = omega arith in
            moved_all p (length slots + c.1) k.0 (get-append_right slots kids c.1 k.0 k.1)
            (k.2 ∙ (ap (λ n. path ++ n ∷ []) e ∙ (ap (λ q. q ++ c.1 ∷ []) parent ∙ sym c.3)))
      ]

      brought_here : brought node (entry_of node) root event ≡ entry_of node branch path
      brought_here = ap (λ (o : Option J). elim o [ None ↦ [] | Some b ↦ entry_of node b path ]) is_branch

      -- a worker gives the branch back that it has
      pub follows_give : worker < workers → Follows node root workers after (found ++ entry_of node branch path) (h ++ event ∷ [])
      follows_give below = record {
        legal = legal_push node root workers h event f.legal (below, is_out, (branch, is_branch, refl, refl));
        agree = agree_after;
        apart = λ j k s t there here same.
            let b = path_before (slots ++ kids) i (out_slot path worker branch) shut at_all refl j s there in
            let c = path_before (slots ++ kids) i (out_slot path worker branch) shut at_all refl k t here in
            apart_all j k b.0 c.0 b.1 c.1 (b.2 ∙ (same ∙ sym c.2));
        covers = covers_after;
        entries = ap (λ es. es ++ entry_of node branch path) f.entries
            ∙ (ap (λ es. flat_map (brought node (entry_of node) root) h ++ es) (sym (append-nil _ ∙ brought_here))
            ∙ sym (flat_map-append (brought node (entry_of node) root) h (event ∷ [])));
      }
