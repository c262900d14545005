-- What a legal history tells, and how it grows by one event.
use Rattle.std.proofs.Common.{◌≡◌, ℕ, zero, suc, ◌+◌, ◌<◌, ◌≤◌, List, [], ◌∷◌, ◌++◌, length, take, drop, refl, ap, sym, ◌∙◌, subst, arith, inl, inr, Bool}
use Rattle.std.proofs.Common.{true, false}
use Rattle.std.specs.Prelude.{nat_eq, ◌⊎◌, Option, Some, slice_get, Contains}
use Rattle.std.proofs.lemmas.Option.{none-some, same_Some, slice_get_within, slice_get-get_or, get_or_from_slice_get}
use Rattle.std.proofs.lemmas.Bool.{cases_Bool, cases_lt, cases_eq, false≢true}
use Rattle.std.proofs.lemmas.List.{take-append-drop, take-append-le, take_at, get_or-take, length-take-le}
use Rattle.std.proofs.lemmas.List.Elements.{Contains-append_left}
use Rattle.std.specs.List.{list_any}
use Rattle.std.specs.Cmp.Lexicographic.{pointwise, bytes_decides}
use Rattle.cgs_board.specs.declared.event.Event.{Event}
use Rattle.cgs_board.specs.declared.event.Event.TheVariants.{Claim, Give, Quit}
use Rattle.cgs_board.specs.History.{IsClaimed, IsGiven, IsOffered, IsNodeAt, MayFollow, IsLegal, IsFinished}
use Rattle.cgs_board.proofs.SlotLists.{get-append_cases, none_passes, some_passes}

-- ---- events of a list and of its front

pub Contains_at : {X : Type 0} (xs : List X) (k : ℕ) (x : X) → slice_get xs k ≡ Some x → Contains xs x
Contains_at xs k x at = (k, slice_get_within xs k x at, get_or_from_slice_get xs k x x at)

pub at_Contains : {X : Type 0} (xs : List X) (x : X) (c : Contains xs x) → slice_get xs c.0 ≡ Some x
at_Contains xs x c = slice_get-get_or xs c.0 x c.1 ∙ ap Some c.2

pub Contains_take : {X : Type 0} (xs : List X) (k : ℕ) (x : X) → Contains (take k xs) x → Contains xs x
Contains_take xs k x c = subst (λ l. Contains l x) (take-append-drop k xs) (Contains-append_left (take k xs) (drop k xs) x c)

Contains_front : {X : Type 0} (xs : List X) (n : ℕ) (x : X) (c : Contains xs x) → n ≤ length xs → c.0 < n → Contains (take n xs) x
Contains_front xs n x c within below =
    let long = length-take-le n xs within in
    (c.0, omega (arith, long, below), get_or-take n xs c.0 x below ∙ c.2)

pub none_in_nil : {X : Type 0} (x : X) → Contains [] x → ⊥
none_in_nil x c = let lt = c.1 in omega (arith, lt)

-- ---- the parts of an event

abbrev pub path_of : Event → List ℕ
path_of (Claim worker path) = path
path_of (Give worker path children entries) = path
path_of (Quit worker) = []

abbrev pub children_of : Event → ℕ
children_of (Claim worker path) = 0
children_of (Give worker path children entries) = children
children_of (Quit worker) = 0

abbrev worker_of : Event → ℕ
worker_of (Claim worker path) = worker
worker_of (Give worker path children entries) = worker
worker_of (Quit worker) = worker

abbrev kind_of : Event → ℕ
kind_of (Claim worker path) = 0
kind_of (Give worker path children entries) = 1
kind_of (Quit worker) = 2

pub claim_no_give : (w v : ℕ) (p q : List ℕ) (c n : ℕ) → Claim w p ≡ Give v q c n → ⊥
claim_no_give w v p q c n e = let k : 0 ≡ 1 = ap kind_of e in omega (arith, k)

pub quit_no_give : (w v : ℕ) (q : List ℕ) (c n : ℕ) → Quit w ≡ Give v q c n → ⊥
quit_no_give w v q c n e = let k : 2 ≡ 1 = ap kind_of e in omega (arith, k)

pub quit_no_claim : (w v : ℕ) (q : List ℕ) → Quit w ≡ Claim v q → ⊥
quit_no_claim w v q e = let k : 2 ≡ 0 = ap kind_of e in omega (arith, k)

pub give_no_claim : (w v : ℕ) (p q : List ℕ) (c n : ℕ) → Give w p c n ≡ Claim v q → ⊥
give_no_claim w v p q c n e = let k : 1 ≡ 0 = ap kind_of e in omega (arith, k)

-- ---- what more events keep

abbrev pub Within : List Event → List Event → Type 0
Within h k = (e : Event) → Contains h e → Contains k e

pub within_push : (h : List Event) (e : Event) → Within h (h ++ e ∷ [])
within_push h e x c = Contains-append_left h (e ∷ []) x c

pub within_take : (h : List Event) (k : ℕ) → Within (take k h) h
within_take h k x c = Contains_take h k x c

pub offered_within : (h k : List Event) (path : List ℕ) → Within h k → IsOffered path h → IsOffered path k
offered_within h k path within (inl root) = inl root
offered_within h k path within (inr c) = inr (c.0, c.1, c.2, c.3, c.4, (c.5.0, c.5.1, within _ c.5.2))

pub given_within : (h k : List Event) (path : List ℕ) → Within h k → IsGiven path h → IsGiven path k
given_within h k path within g = (g.0, (g.1.0, g.1.1, within _ g.1.2))

-- ---- whether a branch was claimed, and whether it was given back

abbrev claims_it : List ℕ → Event → Bool
claims_it path (Claim worker q) = pointwise nat_eq q path
claims_it path (Give worker q children entries) = false
claims_it path (Quit worker) = false

abbrev gives_it : List ℕ → Event → Bool
gives_it path (Claim worker q) = false
gives_it path (Give worker q children entries) = pointwise nat_eq q path
gives_it path (Quit worker) = false

claims_is : (path : List ℕ) (e : Event) → claims_it path e ≡ true → (worker : ℕ) × (e ≡ Claim worker path)
claims_is path (Claim worker q) is = (worker, ap (Claim worker) ((bytes_decides q path).0 is))
claims_is path (Give worker q children entries) is = absurd (false≢true is)
claims_is path (Quit worker) is = absurd (false≢true is)

gives_is : (path : List ℕ) (e : Event) → gives_it path e ≡ true → (worker : ℕ) × (children : ℕ) × (entries : ℕ) × (e ≡ Give worker path children entries)
gives_is path (Claim worker q) is = absurd (false≢true is)
gives_is path (Give worker q children entries) is = (worker, children, entries, ap (λ p. Give worker p children entries) ((bytes_decides q path).0 is))
gives_is path (Quit worker) is = absurd (false≢true is)

decide_claimed : (path : List ℕ) (h : List Event) → IsClaimed path h ⊎ (IsClaimed path h → ⊥)
decide_claimed path h = by_test (cases_Bool (list_any (claims_it path) h))
  where
    by_test : (list_any (claims_it path) h ≡ true) ⊎ (list_any (claims_it path) h ≡ false) → IsClaimed path h ⊎ (IsClaimed path h → ⊥)
    by_test (inl some) =
        let r = some_passes (claims_it path) h some in
        let c = claims_is path r.1 r.3 in
        inl (c.0, Contains_at h r.0 (Claim c.0 path) (r.2 ∙ ap Some c.1))
    by_test (inr none) = inr (λ c. false≢true (sym (none_passes (claims_it path) h none c.1.0 (Claim c.0 path) (at_Contains h _ c.1))
        ∙ (bytes_decides path path).1 refl))

decide_given : (path : List ℕ) (h : List Event) → IsGiven path h ⊎ (IsGiven path h → ⊥)
decide_given path h = by_test (cases_Bool (list_any (gives_it path) h))
  where
    by_test : (list_any (gives_it path) h ≡ true) ⊎ (list_any (gives_it path) h ≡ false) → IsGiven path h ⊎ (IsGiven path h → ⊥)
    by_test (inl some) =
        let r = some_passes (gives_it path) h some in
        let g = gives_is path r.1 r.3 in
        inl (g.1, (g.0, g.2, Contains_at h r.0 (Give g.0 path g.1 g.2) (r.2 ∙ ap Some g.3)))
    by_test (inr none) = inr (λ g. false≢true (sym (none_passes (gives_it path) h none g.1.2.0 (Give g.1.0 path g.0 g.1.1) (at_Contains h _ g.1.2))
        ∙ (bytes_decides path path).1 refl))

-- where nothing is open and nothing is out, all that was offered came back
pub finished_came_back : (h : List Event) → IsFinished h → (path : List ℕ) → IsOffered path h → IsGiven path h
finished_came_back h done path offered = by_claim (decide_claimed path h) (decide_given path h)
  where
    by_claim : IsClaimed path h ⊎ (IsClaimed path h → ⊥) → IsGiven path h ⊎ (IsGiven path h → ⊥) → IsGiven path h
    by_claim (inr free) given = absurd (done.none_open path (offered, free))
    by_claim (inl c) (inl given) = given
    by_claim (inl c) (inr kept) = absurd (done.none_out c.0 path (c.1, kept))

-- ---- legal histories

module _ {J E : Type 0} (node : J → List ℕ → Option E × List J) (root : J) (workers : ℕ) where
  pub legal_start : IsLegal node root workers []
  legal_start k event at = absurd (none-some event at)

  pub legal_push : (h : List Event) (e : Event) → IsLegal node root workers h → MayFollow node root workers h e → IsLegal node root workers (h ++ e ∷ [])
  legal_push h e legal may k event at = by_place (get-append_cases h (e ∷ []) k event at)
    where
      last : (j : ℕ) → k ≡ length h + j → slice_get (e ∷ []) j ≡ Some event → MayFollow node root workers (take k (h ++ e ∷ [])) event
      last zero is there =
          let long : length h ≡ k = omega (arith, is) in
          rw (take_at h (e ∷ []) k long, ← same_Some e event there) may
      last (suc j) is there = absurd (none-some event there)

      by_place : (slice_get h k ≡ Some event) ⊎ ((j : ℕ) × (k ≡ length h + j) × (slice_get (e ∷ []) j ≡ Some event))
          → MayFollow node root workers (take k (h ++ e ∷ [])) event
      by_place (inl before) =
          let lt = slice_get_within h k event before in
          rw (take-append-le k h (e ∷ []) (omega (arith, lt))) (legal k event before)
      by_place (inr after) = last after.0 after.1 after.2

  -- a history that is legal for some workers is legal for more
  pub legal_more : (h : List Event) (more : ℕ) → workers ≤ more → IsLegal node root workers h → IsLegal node root more h
  legal_more h more le legal k event at = weaker event (legal k event at)
    where
      weaker : (e : Event) → MayFollow node root workers (take k h) e → MayFollow node root more (take k h) e
      weaker (Claim worker path) may = let lt = may.0 in (omega (arith, lt, le), may.1, may.2)
      weaker (Give worker path children entries) may = let lt = may.0 in (omega (arith, lt, le), may.1, may.2)
      weaker (Quit worker) may = let lt = may.0 in (omega (arith, lt, le), may.1)

  module _ (h : List Event) (legal : IsLegal node root workers h) where
    pub claimed_was_offered : (path : List ℕ) → IsClaimed path h → IsOffered path h
    claimed_was_offered path c = offered_within (take c.1.0 h) h path (within_take h c.1.0) (legal c.1.0 (Claim c.0 path) (at_Contains h _ c.1)).1.0

    pub given_was_claimed : (worker : ℕ) (path : List ℕ) (children entries : ℕ) → Contains h (Give worker path children entries)
        → Contains h (Claim worker path)
    given_was_claimed worker path children entries c = Contains_take h c.0 _ (legal c.0 _ (at_Contains h _ c)).1.0

    pub given_is_claimed : (path : List ℕ) → IsGiven path h → IsClaimed path h
    given_is_claimed path g = (g.1.0, given_was_claimed g.1.0 path g.0 g.1.1 g.1.2)

    pub given_node : (worker : ℕ) (path : List ℕ) (children entries : ℕ) → Contains h (Give worker path children entries)
        → IsNodeAt node root path children entries
    given_node worker path children entries c = (legal c.0 _ (at_Contains h _ c)).2

    -- a path is claimed once
    pub claimed_once : (w v : ℕ) (path : List ℕ) → Contains h (Claim w path) → Contains h (Claim v path) → w ≡ v
    claimed_once w v path c d = by_order (cases_eq c.0 d.0)
      where
        earlier : (a b : ℕ) (x : Contains h (Claim a path)) (y : Contains h (Claim b path)) → x.0 < y.0 → ⊥
        earlier a b x y lt = let within = y.1 in (legal y.0 _ (at_Contains h _ y)).1.1 (a, Contains_front h y.0 (Claim a path) x (omega (arith, within)) lt)

        by_order : (c.0 ≡ d.0) ⊎ (c.0 ≡ d.0 → ⊥) → w ≡ v
        by_order (inl e) = ap worker_of (same_Some (Claim w path) (Claim v path) (sym (at_Contains h _ c) ∙ (ap (slice_get h) e ∙ at_Contains h _ d)))
        by_order (inr n) = elim (cases_lt c.0 d.0) [ inl lt ↦ absurd (earlier w v c d lt) | inr ge ↦ absurd (earlier v w d c (omega (arith, ge, n))) ]
