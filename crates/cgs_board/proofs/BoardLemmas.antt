-- What the answers of a board do to its history, for the crates above.
use Rattle.std.proofs.Common.{◌≡◌, ℕ, ◌+◌, ◌≤◌, List, [], ◌∷◌, ◌++◌, refl, ap, sym, ◌∙◌, arith, inl, inr}
use Rattle.std.specs.Prelude.{Option}
use Rattle.std.proofs.lemmas.List.Elements.{Contains-push_cases}
use Rattle.std.proofs.lemmas.List.Sums.{sum_by_push}
use Rattle.std.specs.Prelude.{cond}
use Rattle.cgs_board.specs.declared.event.Event.{Event}
use Rattle.cgs_board.specs.declared.event.Event.TheVariants.{Claim, Give, Quit}
use Rattle.cgs_board.specs.declared.piece.Piece.{Piece}
use Rattle.cgs_board.specs.declared.board.Claimed.{Claimed}
use Rattle.cgs_board.specs.declared.board.Claimed.TheVariants.{Stopped, Branch, NotYet, Finished}
use Rattle.cgs_board.specs.BoardState.{BoardState}
use Rattle.cgs_board.specs.Boards.{AnswersClaim, IsExactClaim}
use Rattle.cgs_board.specs.History.{IsComplete, HasQuit, is_give, gives_of}
use Rattle.cgs_board.proofs.HistoryLemmas.{legal_more, quit_no_claim, quit_no_give}

-- ---- how many branches came back

pub gives_push : (h : List Event) (e : Event) → gives_of (h ++ e ∷ []) ≡ gives_of h + cond (is_give e) 1 0
gives_push h e = sum_by_push (λ x. cond (is_give x) 1 0) h e

-- ---- nobody quits by a claim or a give

pub none_quit_claim : (h : List Event) (worker : ℕ) (path : List ℕ) → (HasQuit h → ⊥) → HasQuit (h ++ Claim worker path ∷ []) → ⊥
none_quit_claim h worker path none q =
    elim (Contains-push_cases h (Claim worker path) (Quit q.0) q.1) [ inl was ↦ none (q.0, was) | inr is ↦ quit_no_claim q.0 worker path (sym is) ]

pub quit_before_give : (h : List Event) (worker : ℕ) (path : List ℕ) (children entries : ℕ) → HasQuit (h ++ Give worker path children entries ∷ []) → HasQuit h
quit_before_give h worker path children entries q =
    elim (Contains-push_cases h (Give worker path children entries) (Quit q.0) q.1)
    [ inl was ↦ (q.0, was) | inr is ↦ absurd (quit_no_give q.0 worker path children entries (sym is)) ]

pub none_quit_give : (h : List Event) (worker : ℕ) (path : List ℕ) (children entries : ℕ) → (HasQuit h → ⊥)
    → HasQuit (h ++ Give worker path children entries ∷ []) → ⊥
none_quit_give h worker path children entries none q = none (quit_before_give h worker path children entries q)

-- ---- a history that is complete for some workers is complete for more

pub complete_more : {J E : Type 0} (node : J → List ℕ → Option E × List J) (root : J) (workers more : ℕ) (h : List Event) → workers ≤ more
    → IsComplete node root workers h → IsComplete node root more h
complete_more node root workers more h le c = record {
  legal = legal_more node root workers h more le c.legal;
  none_quit = c.none_quit;
  claimed = c.claimed;
  given = c.given;
}

-- ---- only a branch that is handed out changes the board

module _ {J E : Type 0} (node : J → List ℕ → Option E × List J) (worker : ℕ) (old new : BoardState J) where
  pub unchanged_claim : (answer : Claimed J) → AnswersClaim node worker old new answer → ((piece : Piece J) → answer ≡ Branch piece → ⊥) → new ≡ old
  unchanged_claim Stopped a other = a.1
  unchanged_claim (Branch piece) a other = absurd (other piece refl)
  unchanged_claim NotYet a other = a.3
  unchanged_claim Finished a other = a.2

  -- each answer comes exactly in its case

  abbrev kind_of : Claimed J → ℕ
  kind_of Stopped = 0
  kind_of (Branch piece) = 1
  kind_of NotYet = 2
  kind_of Finished = 3

  apart : (a b : Claimed J) (n m : ℕ) → kind_of a ≡ n → kind_of b ≡ m → (n ≡ m → ⊥) → a ≡ b → ⊥
  apart a b n m is other differ same = differ (sym is ∙ (ap kind_of same ∙ other))

  pub exact_claim : (answer : Claimed J) → AnswersClaim node worker old new answer → IsExactClaim old.history answer
  exact_claim Stopped a = record {
    stopped = (λ e. a.0, λ q. refl);
    branch = (λ w. absurd (apart Stopped (Branch w.0) 0 1 refl refl (λ e. omega (arith, e)) w.1), λ w. absurd (w.0 a.0));
    not_yet = (λ e. absurd (apart Stopped NotYet 0 2 refl refl (λ e. omega (arith, e)) e), λ w. absurd (w.0 a.0));
    finished = (λ e. absurd (apart Stopped Finished 0 3 refl refl (λ e. omega (arith, e)) e), λ w. absurd (w.0 a.0));
  }
  exact_claim (Branch piece) a = record {
    stopped = (λ e. absurd (apart (Branch piece) Stopped 1 0 refl refl (λ e. omega (arith, e)) e), λ q. absurd (a.0 q));
    branch = (λ w. (a.0, (piece.path, a.1)), λ w. (piece, refl));
    not_yet = (λ e. absurd (apart (Branch piece) NotYet 1 2 refl refl (λ e. omega (arith, e)) e), λ w. absurd (w.1 piece.path a.1));
    finished = (λ e. absurd (apart (Branch piece) Finished 1 3 refl refl (λ e. omega (arith, e)) e), λ w. absurd (w.1.none_open piece.path a.1));
  }
  exact_claim NotYet a = record {
    stopped = (λ e. absurd (apart NotYet Stopped 2 0 refl refl (λ e. omega (arith, e)) e), λ q. absurd (a.0 q));
    branch = (λ w. absurd (apart NotYet (Branch w.0) 2 1 refl refl (λ e. omega (arith, e)) w.1), λ w. absurd (a.1 w.1.0 w.1.1));
    not_yet = (λ e. (a.0, a.1, a.2), λ w. refl);
    finished = (λ e. absurd (apart NotYet Finished 2 3 refl refl (λ e. omega (arith, e)) e), λ w. absurd (w.1.none_out a.2.0 a.2.1 a.2.2));
  }
  exact_claim Finished a = record {
    stopped = (λ e. absurd (apart Finished Stopped 3 0 refl refl (λ e. omega (arith, e)) e), λ q. absurd (a.0 q));
    branch = (λ w. absurd (apart Finished (Branch w.0) 3 1 refl refl (λ e. omega (arith, e)) w.1), λ w. absurd (a.1.none_open w.1.0 w.1.1));
    not_yet = (λ e. absurd (apart Finished NotYet 3 2 refl refl (λ e. omega (arith, e)) e), λ w. absurd (a.1.none_out w.2.0 w.2.1 w.2.2));
    finished = (λ e. (a.0, a.1), λ w. refl);
  }
