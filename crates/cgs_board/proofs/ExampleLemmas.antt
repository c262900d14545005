-- The history of two workers on the tree of 1, event by event.
use Rattle.std.proofs.Common.{◌≡◌, ℕ, ◌<◌, List, [], ◌∷◌, ◌++◌, length, refl, ap, sym, arith, inl, inr}
use Rattle.std.specs.Prelude.{◌⊎◌, Contains}
use Rattle.cgs_board.specs.declared.event.Event.{Event}
use Rattle.cgs_board.specs.declared.event.Event.TheVariants.{Claim, Give, Quit}
use Rattle.cgs_board.specs.Tree.{entries_of, branches_of, preorder}
use Rattle.cgs_board.specs.History.{IsClaimed, IsGiven, HasQuit, IsOffered, IsLegal, IsComplete}
use Rattle.cgs_board.specs.Examples.{countdown, level, two_workers}
use Rattle.cgs_board.proofs.HistoryLemmas.{legal_start, legal_push, claim_no_give, give_no_claim, quit_no_claim, quit_no_give, path_of, children_of}
use Rattle.cgs_board.proofs.HistoryLemmas.{given_is_claimed}
use Rattle.cgs_board.proofs.Members.{in_Contains}
use Rattle.cgs_board.proofs.Gathering.{all_given}

abbrev first : List Event
first = Claim 0 [] ∷ []

abbrev second : List Event
second = Claim 0 [] ∷ Give 0 [] 1 0 ∷ []

abbrev third : List Event
third = Claim 0 [] ∷ Give 0 [] 1 0 ∷ Claim 1 (0 ∷ []) ∷ []

no_child_of_root : (x : ℕ) → [] ≡ x ∷ [] → ⊥
no_child_of_root x e = let n : 0 ≡ 1 = ap length e in omega (arith, n)

first_none_given : IsGiven [] first → ⊥
first_none_given g = elim (in_Contains (Give g.1.0 [] g.0 g.1.1) first g.1.2) [ inl e ↦ claim_no_give 0 g.1.0 [] [] g.0 g.1.1 e | inr none ↦ absurd none ]

second_not_claimed : IsClaimed (0 ∷ []) second → ⊥
second_not_claimed c = elim (in_Contains (Claim c.0 (0 ∷ [])) second c.1) [
  | inl e ↦ no_child_of_root 0 (ap path_of e)
  | inr later ↦ elim later [ inl e ↦ give_no_claim 0 c.0 [] (0 ∷ []) 1 0 e | inr none ↦ absurd none ]
]

second_none_quit : HasQuit second → ⊥
second_none_quit q = elim (in_Contains (Quit q.0) second q.1) [
  | inl e ↦ quit_no_claim q.0 0 [] (sym e)
  | inr later ↦ elim later [ inl e ↦ quit_no_give q.0 0 [] 1 0 (sym e) | inr none ↦ absurd none ]
]

third_not_given : IsGiven (0 ∷ []) third → ⊥
third_not_given g = elim (in_Contains (Give g.1.0 (0 ∷ []) g.0 g.1.1) third g.1.2) [
  | inl e ↦ claim_no_give 0 g.1.0 [] (0 ∷ []) g.0 g.1.1 e
  | inr a ↦ elim a [
    | inl e ↦ no_child_of_root 0 (ap path_of e)
    | inr b ↦ elim b [ inl e ↦ claim_no_give 1 g.1.0 (0 ∷ []) (0 ∷ []) g.0 g.1.1 e | inr none ↦ absurd none ]
  ]
]

nothing_in : {X : Type 0} (x : X) → Contains [] x → ⊥
nothing_in x c = in_Contains x [] c

is_legal : IsLegal countdown 1 2 two_workers
is_legal =
    legal_push countdown 1 2 third (Give 1 (0 ∷ []) 0 1)
    (legal_push countdown 1 2 second (Claim 1 (0 ∷ []))
    (legal_push countdown 1 2 first (Give 0 [] 1 0)
    (legal_push countdown 1 2 [] (Claim 0 []) (legal_start countdown 1 2)
    (omega arith, (inl refl, λ c. nothing_in (Claim c.0 []) c.1), λ q. nothing_in (Quit q.0) q.1))
    (omega arith, ((0, omega arith, refl), first_none_given), (1, refl, refl, refl)))
    (omega arith, (inr ([], 0, 1, refl, omega arith, (0, 0, (1, omega arith, refl))), second_not_claimed), second_none_quit))
    (omega arith, ((2, omega arith, refl), third_not_given), (0, refl, refl, refl))

none_quit : HasQuit two_workers → ⊥
none_quit q = elim (in_Contains (Quit q.0) two_workers q.1) [
  | inl e ↦ quit_no_claim q.0 0 [] (sym e)
  | inr a ↦ elim a [
    | inl e ↦ quit_no_give q.0 0 [] 1 0 (sym e)
    | inr b ↦ elim b [
      | inl e ↦ quit_no_claim q.0 1 (0 ∷ []) (sym e)
      | inr c ↦ elim c [ inl e ↦ quit_no_give q.0 1 (0 ∷ []) 0 1 (sym e) | inr none ↦ absurd none ]
    ]
  ]
]

root_given : IsGiven [] two_workers
root_given = (1, (0, 0, (1, omega arith, refl)))

child_given : IsGiven (0 ∷ []) two_workers
child_given = (0, (1, 1, (3, omega arith, refl)))

-- a child of a branch that was given back is the child 0 of the root
child_is : (parent : List ℕ) (i children : ℕ) → i < children → (children ≡ 1) × (parent ≡ []) ⊎ (children ≡ 0) → IsGiven (parent ++ i ∷ []) two_workers
child_is parent i children lt (inl root) =
    let count = root.0 in
    let zero_is : i ≡ 0 = omega (arith, count, lt) in
    rw (root.1, zero_is) child_given
child_is parent i children lt (inr none) = absurd (omega (arith, none, lt))

came_back : (path : List ℕ) → IsOffered path two_workers → IsGiven path two_workers
came_back path (inl root) = rw root root_given
came_back path (inr c) =
    rw c.3
    (child_is c.0 c.1 c.2 c.4
    (elim (in_Contains (Give c.5.0 c.0 c.2 c.5.1) two_workers c.5.2) [
      | inl e ↦ absurd (claim_no_give 0 c.5.0 [] c.0 c.2 c.5.1 e)
      | inr a ↦ elim a [
        | inl e ↦ inl (sym (ap children_of e), sym (ap path_of e))
        | inr b ↦ elim b [
          | inl e ↦ absurd (claim_no_give 1 c.5.0 (0 ∷ []) c.0 c.2 c.5.1 e)
          | inr d ↦ elim d [ inl e ↦ inr (sym (ap children_of e)) | inr none ↦ absurd none ]
        ]
      ]
    ]))

pub two_workers_complete : IsComplete countdown 1 2 two_workers
two_workers_complete = record {
  legal = is_legal;
  none_quit = none_quit;
  claimed = λ path branch is. given_is_claimed countdown 1 2 two_workers is_legal path (all_given countdown 1 2 two_workers is_legal came_back path branch is);
  given = all_given countdown 1 2 two_workers is_legal came_back;
}

pub tree_of_1 : (branches_of countdown level 1 [] ≡ ([], 1) ∷ (0 ∷ [], 0) ∷ []) × (entries_of countdown level 1 [] ≡ (0 ∷ [], 0) ∷ [])
unfolding preorder
tree_of_1 = (refl, refl)
