-- The workers that did not give up: room that a board keeps for their events.
use Rattle.std.proofs.Common.{◌≡◌, ℕ, zero, suc, ◌+◌, ◌<◌, ◌≤◌, Bool, true, false, List, [], ◌∷◌, ◌++◌, refl, ap, sym, ◌∙◌, arith, inl, inr}
use Rattle.std.specs.Prelude.{◌⊎◌, ◌||◌, Some, Contains}
use Rattle.std.specs.List.{list_any}
use Rattle.std.proofs.lemmas.Bool.{cases_Bool, cases_eq, eqb-true, eq-eqb, ne_eqb, false≢true}
use Rattle.std.proofs.lemmas.List.Folds.{list_any-append}
use Rattle.cgs_board.specs.declared.event.Event.{Event}
use Rattle.cgs_board.specs.declared.event.Event.TheVariants.{Claim, Give, Quit}
use Rattle.cgs_board.specs.History.{is_quit_of}
use Rattle.cgs_board.specs.Slots.{staying}
use Rattle.cgs_board.proofs.SlotLists.{some_passes}
use Rattle.cgs_board.proofs.HistoryLemmas.{Contains_at}

or_false : (b : Bool) → (b || false) ≡ b
or_false true = refl
or_false false = refl

quit_of : (worker : ℕ) (e : Event) → is_quit_of worker e ≡ true → e ≡ Quit worker
quit_of worker (Claim by path) is = absurd (false≢true is)
quit_of worker (Give by path children entries) is = absurd (false≢true is)
quit_of worker (Quit by) is = ap Quit (eqb-true by worker is)

-- who did not give up has no quit in the history
none_quit_of : (worker : ℕ) (h : List Event) → (Contains h (Quit worker) → ⊥) → list_any (is_quit_of worker) h ≡ false
none_quit_of worker h none = by_test (cases_Bool (list_any (is_quit_of worker) h))
  where
    by_test : (list_any (is_quit_of worker) h ≡ true) ⊎ (list_any (is_quit_of worker) h ≡ false) → list_any (is_quit_of worker) h ≡ false
    by_test (inl some) = let r = some_passes (is_quit_of worker) h some in
        absurd (none (Contains_at h r.0 (Quit worker) (r.2 ∙ ap Some (quit_of worker r.1 r.3))))
    by_test (inr no_one) = no_one

any_push : (worker : ℕ) (h : List Event) (e : Event) → list_any (is_quit_of worker) (h ++ e ∷ []) ≡ (list_any (is_quit_of worker) h || is_quit_of worker e)
any_push worker h e = list_any-append (is_quit_of worker) h (e ∷ []) ∙ ap (λ b. list_any (is_quit_of worker) h || b) (or_false (is_quit_of worker e))

-- an event that is no quit changes nothing
pub staying_other : (n : ℕ) (h : List Event) (e : Event) → ((worker : ℕ) → is_quit_of worker e ≡ false) → staying n (h ++ e ∷ []) ≡ staying n h
staying_other zero h e other = refl
staying_other (suc n) h e other =
    let same : list_any (is_quit_of n) (h ++ e ∷ []) ≡ list_any (is_quit_of n) h = any_push n h e
    ∙ (ap (λ b. list_any (is_quit_of n) h || b) (other n) ∙ or_false _) in
    rw (same, staying_other n h e other) refl

-- a quit of a worker that stayed makes one fewer
staying_above : (n worker : ℕ) (h : List Event) → n ≤ worker → staying n (h ++ Quit worker ∷ []) ≡ staying n h
staying_above zero worker h le = refl
staying_above (suc n) worker h le =
    let other : is_quit_of n (Quit worker) ≡ false = ne_eqb worker n (λ e. omega (arith, e)) in
    let same : list_any (is_quit_of n) (h ++ Quit worker ∷ []) ≡ list_any (is_quit_of n) h = any_push n h (Quit worker)
    ∙ (ap (λ b. list_any (is_quit_of n) h || b) other ∙ or_false _) in
    rw (same, staying_above n worker h (omega arith)) refl

staying_quit : (n worker : ℕ) (h : List Event) → worker < n → list_any (is_quit_of worker) h ≡ false → staying n (h ++ Quit worker ∷ []) + 1 ≡ staying n h
staying_quit zero worker h below none = absurd (omega arith)
staying_quit (suc n) worker h below none = by_place (cases_eq worker n) (λ lt. staying_quit n worker h lt none)
  where
    by_place : (worker ≡ n) ⊎ (worker ≡ n → ⊥) → (worker < n → staying n (h ++ Quit worker ∷ []) + 1 ≡ staying n h)
        → staying (suc n) (h ++ Quit worker ∷ []) + 1 ≡ staying (suc n) h
    by_place (inl e) rest =
        let before : list_any (is_quit_of n) h ≡ false = ap (λ k. list_any (is_quit_of k) h) (sym e) ∙ none in
        let after : list_any (is_quit_of n) (h ++ Quit worker ∷ []) ≡ true = any_push n h (Quit worker)
        ∙ (ap (λ b. b || is_quit_of n (Quit worker)) before ∙ eq-eqb worker n e) in
        let others = staying_above n worker h (omega (arith, e)) in
        rw (before, after, others) (omega arith)
    by_place (inr ne) rest =
        let other : is_quit_of n (Quit worker) ≡ false = ne_eqb worker n ne in
        let same : list_any (is_quit_of n) (h ++ Quit worker ∷ []) ≡ list_any (is_quit_of n) h = any_push n h (Quit worker)
        ∙ (ap (λ b. list_any (is_quit_of n) h || b) other ∙ or_false _) in
        let fewer = rest (omega (arith, ne)) in
        rw same (omega (arith, fewer))

pub staying-le : (n : ℕ) (h : List Event) → staying n h ≤ n
staying-le zero h = omega arith
staying-le (suc n) h = omega (arith, staying-le n h)

-- the first quit of a worker makes one fewer
pub staying_first : (n worker : ℕ) (h : List Event) → worker < n → (Contains h (Quit worker) → ⊥) → staying n (h ++ Quit worker ∷ []) + 1 ≡ staying n h
staying_first n worker h below first = staying_quit n worker h below (none_quit_of worker h first)
