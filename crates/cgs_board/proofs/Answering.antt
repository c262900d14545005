-- What the slots tell of the history that they follow from.
use Rattle.std.proofs.Common.{◌≡◌, ℕ, ◌<◌, true, false, List, [], ◌∷◌, ◌++◌, length, refl, ap, sym, ◌∙◌, subst, arith, inl, inr}
use Rattle.std.specs.Prelude.{Option, Some, slice_get}
use Rattle.std.proofs.lemmas.Option.{same_Some}
use Rattle.std.proofs.lemmas.Bool.{cases_lt, false≢true, true≢false}
use Rattle.cgs_board.specs.declared.event.Event.{Event}
use Rattle.cgs_board.specs.declared.event.Event.TheVariants.{Claim, Give}
use Rattle.cgs_board.specs.declared.piece.Piece.{Piece}
use Rattle.cgs_board.specs.declared.slot.Slot.{Slot}
use Rattle.cgs_board.specs.declared.slot.Stage.{Stage}
use Rattle.cgs_board.specs.declared.slot.Stage.TheVariants.{Open, Out, Closed}
use Rattle.cgs_board.specs.Tree.{branch_at, entry_at}
use Rattle.cgs_board.specs.History.{HasQuit, IsOffered, IsOpen, IsOut, IsGiven, IsFinished, entries_in}
use Rattle.cgs_board.specs.Slots.{out_slot, open_slots, is_open, is_closed, count_stages, count_if, Agrees, Follows}
use Rattle.cgs_board.specs.Waiting.{open_at}
use Rattle.cgs_board.specs.Steps.{HandsOut, Closes}
use Rattle.cgs_board.proofs.SlotLists.{closes_to, count_all, count_some, count-le}
use Rattle.cgs_board.proofs.OpenSlots.{open_at-read, none_there}
use Rattle.cgs_board.proofs.HistoryLemmas.{claimed_was_offered, given_is_claimed, claimed_once}
use Rattle.cgs_board.proofs.Following.{follows_claim, follows_give}

module _ {J E : Type 0} (node : J → List ℕ → Option E × List J) (root : J) (workers : ℕ) (slots : List (Slot J)) (found : List (List ℕ × E)) (h : List Event)
    (f : Follows node root workers slots found h) where
  -- the stage of a branch that is open
  stage_of_open : (path : List ℕ) (stage : Stage J) → Agrees node root h path stage → IsOpen path h → is_open stage ≡ true
  stage_of_open path (Open piece kept noted) a free = refl
  stage_of_open path (Out worker kept) a free = absurd (free.1 (worker, a.1.0))
  stage_of_open path (Closed first children) a free = absurd (free.1 (given_is_claimed node root workers h f.legal path (children, a)))

  -- no slot is open: nothing is
  pub none_open : ((i : ℕ) → open_at slots i ≡ 0) → (path : List ℕ) → IsOpen path h → ⊥
  none_open none path free =
      let c = f.covers path free.0 in
      let is = stage_of_open c.1.path c.1.stage (f.agree c.0 c.1 c.2) (subst (λ p. IsOpen p h) (sym c.3) free) in
      let one : open_at slots c.0 ≡ 1 = open_at-read slots c.0 c.1 c.2 ∙ ap count_if is in
      omega (arith, one, none c.0)

  out_stage : (path : List ℕ) (stage : Stage J) → Agrees node root h path stage → is_open stage ≡ false → is_closed stage ≡ false
      → (worker : ℕ) × IsOut worker path h
  out_stage path (Open piece kept noted) a shut left = absurd (false≢true (sym shut))
  out_stage path (Out worker kept) a shut left = (worker, a.1)
  out_stage path (Closed first children) a shut left = absurd (false≢true (sym left))

  -- no slot is open, and not all are closed: something is out
  pub some_is_out : ((i : ℕ) → open_at slots i ≡ 0) → count_stages is_closed slots < length slots → (worker : ℕ) × (path : List ℕ) × IsOut worker path h
  some_is_out none below =
      let r = count_some is_closed slots below in
      let o = out_stage r.1.path r.1.stage (f.agree r.0 r.1 r.2) (none_there slots none r.0 r.1 r.2) r.3 in
      (o.0, r.1.path, o.1)

  closed_given : (path : List ℕ) (stage : Stage J) → Agrees node root h path stage → is_closed stage ≡ true → IsGiven path h
  closed_given path (Open piece kept noted) a is = absurd (false≢true is)
  closed_given path (Out worker kept) a is = absurd (false≢true is)
  closed_given path (Closed first children) a is = (children, a)

  -- all slots are closed: nothing is open and nothing is out
  pub finished_where : count_stages is_closed slots ≡ length slots → IsFinished h
  finished_where all = record {
    none_open = λ path free. free.1 (given_is_claimed node root workers h f.legal path (given path free.0));
    none_out = λ worker path out. out.1 (given path (claimed_was_offered node root workers h f.legal path (worker, out.0)));
  }
    where
      given : (path : List ℕ) → IsOffered path h → IsGiven path h
      given path offered =
          let c = f.covers path offered in
          subst (λ p. IsGiven p h) c.3 (closed_given c.1.path c.1.stage (f.agree c.0 c.1 c.2) (count_all is_closed slots all c.0 c.1 c.2))

  not_closed : (path : List ℕ) (stage : Stage J) → Agrees node root h path stage → is_closed stage ≡ false → IsFinished h → ⊥
  not_closed path (Open piece kept noted) a is done = done.none_open path a.4
  not_closed path (Out worker kept) a is done = done.none_out worker path a.1
  not_closed path (Closed first children) a is done = true≢false is

  pub closed_where : IsFinished h → count_stages is_closed slots ≡ length slots
  closed_where done = elim (cases_lt (count_stages is_closed slots) (length slots)) [
    | inl below ↦ absurd (let r = count_some is_closed slots below in not_closed r.1.path r.1.stage (f.agree r.0 r.1 r.2) r.3 done)
    | inr ge ↦ let le = count-le is_closed slots in omega (arith, ge, le)
  ]

  -- the branch of a slot that is out is the tree's, and the worker has it
  pub held : (i worker : ℕ) (path : List ℕ) (branch : J) → slice_get slots i ≡ Some (out_slot path worker branch)
      → IsOut worker path h × (branch_at node root path ≡ Some branch)
  held i worker path branch at = let a = f.agree i (out_slot path worker branch) at in (a.1, a.0)

  out_is : (worker : ℕ) (path : List ℕ) (branch : J) (stage : Stage J) → Agrees node root h path stage → IsOut worker path h
      → branch_at node root path ≡ Some branch → stage ≡ Out worker branch
  out_is worker path branch (Open piece kept noted) a out is = absurd (a.4.1 (worker, out.0))
  out_is worker path branch (Out by kept) a out is =
      let same : by ≡ worker = claimed_once node root workers h f.legal by worker path a.1.0 out.0 in
      let equal : kept ≡ branch = same_Some kept branch (sym a.0 ∙ is) in
      rw (same, equal) refl
  out_is worker path branch (Closed first children) a out is = absurd (out.1 (children, a))

  -- no slot is that of this branch and this worker: the worker does not have it
  pub not_held : (worker : ℕ) (path : List ℕ) (branch : J) → ((i : ℕ) → slice_get slots i ≡ Some (out_slot path worker branch) → ⊥)
      → IsOut worker path h × (branch_at node root path ≡ Some branch) → ⊥
  not_held worker path branch none has =
      let c = f.covers path (claimed_was_offered node root workers h f.legal path (worker, has.0.0)) in
      let stage : c.1.stage ≡ Out worker branch
      = out_is worker path branch c.1.stage (subst (λ p. Agrees node root h p c.1.stage) c.3 (f.agree c.0 c.1 c.2)) has.0 has.1 in
      let slot : c.1 ≡ out_slot path worker branch = (λ i. record { path = c.3 i; stage = stage i }) in
      none c.0 (c.2 ∙ ap Some slot)

  -- what is handed out is an open branch of the tree
  module _ (at worker : ℕ) (piece : Piece J) (noted : List ℕ) (new : List (Slot J)) (hands : HandsOut slots at worker piece noted new) where
    agreed : Agrees node root h hands.0 (Open piece hands.1 noted)
    agreed = f.agree at (record { path = hands.0; stage = Open piece hands.1 noted }) hands.2

    pub handed_open : IsOpen piece.path h
    handed_open = subst (λ p. IsOpen p h) (sym agreed.0) agreed.4

    pub handed_branch : branch_at node root piece.path ≡ Some piece.branch
    handed_branch = ap (branch_at node root) agreed.0 ∙ (agreed.3 ∙ ap Some agreed.2)

    pub handed_path : noted ≡ piece.path
    handed_path = agreed.1 ∙ sym agreed.0

    pub follows_handed : worker < workers → (HasQuit h → ⊥) → Follows node root workers new found (h ++ Claim worker noted ∷ [])
    follows_handed below stays =
        rw (hands.3, agreed.1)
        (follows_claim node root workers slots found h f at (record { path = hands.0; stage = Open piece hands.1 noted }) hands.2 worker hands.1 below stays
        agreed.3 agreed.4)

  -- a branch comes back from the worker that has it, with its node
  pub follows_closed : (at worker : ℕ) (path : List ℕ) (branch : J) (outcome : Option E × List J) (new : List (Slot J)) (more : List (List ℕ × E))
      (later : List Event)
      → slice_get slots at ≡ Some (out_slot path worker branch) → worker < workers → outcome ≡ node branch path
      → Closes slots at (open_slots path 0 outcome.1) new
      → more ≡ found ++ entry_at path outcome.0 → later ≡ h ++ Give worker path (length outcome.1) (entries_in outcome.0) ∷ []
      → Follows node root workers new more later
  follows_closed at worker path branch outcome new more later out below is closes keeps adds =
      let slots_are = closes_to slots new at worker path branch outcome.1 out closes in
      rw (slots_are, keeps, adds, is) (follows_give node root workers slots found h f worker at path branch out below)
