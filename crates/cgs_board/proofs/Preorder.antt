-- What a tree in preorder has: the branches that paths lead to, by rising paths.
use Rattle.std.proofs.Common.{◌≡◌, ℕ, zero, suc, ◌+◌, List, [], ◌∷◌, ◌++◌, refl, sym, ◌∙◌, subst, arith, inl, inr, append_assoc, append-nil}
use Rattle.std.specs.Prelude.{Option, Some, slice_get}
use Rattle.std.proofs.lemmas.Option.{none-some, same_Some}
use Rattle.cgs_path.proofs.PathLemmas.{before_below, before_later}
use Rattle.cgs_board.specs.Tree.{branch_below, each_from, preorder_to, preorder, Falls}
use Rattle.cgs_board.proofs.TreeLemmas.{branch_below_first, branch_below_next, preorder_step}
use Rattle.cgs_board.proofs.Members.{In, in_append_left, in_append_right, in_append_cases}
use Rattle.cgs_board.proofs.Rising.{Rises, rises-append}

-- what a function gives at numbered branches
pub each_from_in : {J X : Type 0} (f : ℕ → J → List X) (x : X) (k : ℕ) (cs : List J) → In x (each_from f k cs)
    → (i : ℕ) × (c : J) × (slice_get cs i ≡ Some c) × In x (f (k + i) c)
each_from_in f x k [] m = absurd m
each_from_in f x k (c ∷ cs) m = elim (in_append_cases x (f k c) (each_from f (k + 1) cs) m) [
  | inl here ↦ (0, c, refl, (let e : k + 0 ≡ k = omega arith in rw e here))
  | inr later ↦
      let r = each_from_in f x (k + 1) cs later in
      let e : k + suc r.0 ≡ k + 1 + r.0 = omega arith in
      (suc r.0, r.1, r.2, rw e r.3)
]

in_each_from : {J X : Type 0} (f : ℕ → J → List X) (x : X) (k : ℕ) (cs : List J) (i : ℕ) (c : J) → slice_get cs i ≡ Some c → In x (f (k + i) c)
    → In x (each_from f k cs)
in_each_from f x k [] i c at m = absurd (none-some c at)
in_each_from f x k (d ∷ cs) zero c at m =
    let e : k + 0 ≡ k = omega arith in
    let here : In x (f k d) = subst (λ (b : _). In x (f k b)) (sym (same_Some d c at)) (rw e at m) in
    in_append_left x (f k d) (each_from f (k + 1) cs) here
in_each_from f x k (d ∷ cs) (suc i) c at m =
    let e : k + suc i ≡ k + 1 + i = omega arith in
    in_append_right x (f k d) (each_from f (k + 1) cs) (in_each_from f x (k + 1) cs i c at (rw e at m))

module _ {J E Y : Type 0} (node : J → List ℕ → Option E × List J) (f : J → List ℕ → List (List ℕ × Y)) where
  -- the number of levels is that of a loop; what is found does not depend on it
  abbrev pub FoundBelow : J → List ℕ → List ℕ × Y → Type 0
  FoundBelow branch path x = (rest : List ℕ) × (c : J) × (branch_below node branch path rest ≡ Some c) × In x (f c (path ++ rest))

  pub preorder_to_in : (n : ℕ) (branch : J) (path : List ℕ) (x : List ℕ × Y) → In x (preorder_to node f n branch path) → FoundBelow branch path x
  preorder_to_in zero branch path x m = absurd m
  preorder_to_in (suc n) branch path x m =
      elim (in_append_cases x (f branch path) (each_from (λ i child. preorder_to node f n child (path ++ i ∷ [])) 0 (node branch path).1) m) [
        | inl here ↦ ([], branch, refl, subst (λ p. In x (f branch p)) (sym (append-nil path)) here)
        | inr later ↦
            let r = each_from_in (λ i child. preorder_to node f n child (path ++ i ∷ [])) x 0 (node branch path).1 later in
            let e : 0 + r.0 ≡ r.0 = omega arith in
            let below = preorder_to_in n r.1 (path ++ r.0 ∷ []) x (subst (λ k. In x (preorder_to node f n r.1 (path ++ k ∷ []))) e r.3) in (
              r.0 ∷ below.0,
              below.1,
              branch_below_next node branch path r.0 below.0 r.1 below.1 r.2 below.2,
              subst (λ p. In x (f below.1 p)) (append_assoc path (r.0 ∷ []) below.0) below.3,
            )
      ]

  module _ (keyed : (b : J) (p : List ℕ) (x : List ℕ × Y) → In x (f b p) → x.0 ≡ p) where
    -- all that is found below a child has a path that begins with the child's
    path_below : (n : ℕ) (child : J) (path : List ℕ) (i : ℕ) (x : List ℕ × Y) → In x (preorder_to node f n child (path ++ i ∷ []))
        → (rest : List ℕ) × (x.0 ≡ path ++ i ∷ rest)
    path_below n child path i x m =
        let r = preorder_to_in n child (path ++ i ∷ []) x m in
        (r.0, keyed r.1 ((path ++ i ∷ []) ++ r.0) x r.3 ∙ append_assoc path (i ∷ []) r.0)

    path_in_each : (n : ℕ) (path : List ℕ) (k : ℕ) (cs : List J) (x : List ℕ × Y)
        → In x (each_from (λ i child. preorder_to node f n child (path ++ i ∷ [])) k cs)
        → (i : ℕ) × (rest : List ℕ) × (x.0 ≡ path ++ (k + i) ∷ rest)
    path_in_each n path k cs x m =
        let r = each_from_in (λ i child. preorder_to node f n child (path ++ i ∷ [])) x k cs m in
        let b = path_below n r.1 path (k + r.0) x r.3 in
        (r.0, b.0, b.1)

    rises_each : (n : ℕ) (path : List ℕ) (k : ℕ) (cs : List J) → ((b : J) (p : List ℕ) → Rises (preorder_to node f n b p))
        → Rises (each_from (λ i child. preorder_to node f n child (path ++ i ∷ [])) k cs)
    rises_each n path k [] up = tt
    rises_each n path k (c ∷ cs) up =
        rises-append (preorder_to node f n c (path ++ k ∷ [])) (each_from (λ i child. preorder_to node f n child (path ++ i ∷ [])) (k + 1) cs)
        (up c (path ++ k ∷ [])) (rises_each n path (k + 1) cs up)
        (λ x y a b.
        let first = path_below n c path k x a in
        let later = path_in_each n path (k + 1) cs y b in
        rw (first.1, later.2) (before_later path k (k + 1 + later.0) first.0 later.1 (omega arith)))

    pub rises_preorder_to : ((b : J) (p : List ℕ) → Rises (f b p)) → (n : ℕ) (branch : J) (path : List ℕ) → Rises (preorder_to node f n branch path)
    rises_preorder_to up zero branch path = tt
    rises_preorder_to up (suc n) branch path =
        rises-append (f branch path) (each_from (λ i child. preorder_to node f n child (path ++ i ∷ [])) 0 (node branch path).1) (up branch path)
        (rises_each n path 0 (node branch path).1 (rises_preorder_to up n))
        (λ x y a b.
        let later = path_in_each n path 0 (node branch path).1 y b in
        rw (keyed branch path x a, later.2) (before_below path (0 + later.0) later.1))

  module _ (height : J → List ℕ → ℕ) where
    -- what is found in a tree is found at a branch that numbers lead to
    pub preorder_in : (branch : J) (path : List ℕ) (x : List ℕ × Y) → In x (preorder node height f branch path) → FoundBelow branch path x
    unfolding preorder
    preorder_in branch path x m = preorder_to_in (suc (height branch path)) branch path x m

    pub rises_preorder : ((b : J) (p : List ℕ) (x : List ℕ × Y) → In x (f b p) → x.0 ≡ p) → ((b : J) (p : List ℕ) → Rises (f b p))
        → (branch : J) (path : List ℕ) → Rises (preorder node height f branch path)
    unfolding preorder
    rises_preorder keyed up branch path = rises_preorder_to keyed up (suc (height branch path)) branch path

    -- the other way round
    pub in_preorder : Falls node height → (rest : List ℕ) (branch : J) (path : List ℕ) (c : J) (x : List ℕ × Y) → branch_below node branch path rest ≡ Some c
        → In x (f c (path ++ rest))
        → In x (preorder node height f branch path)
    in_preorder falls [] branch path c x is m =
        let here : In x (f branch path) =
        subst (λ p. In x (f branch p)) (append-nil path) (subst (λ b. In x (f b (path ++ []))) (sym (same_Some branch c is)) m) in
        rw (preorder_step node height falls f branch path)
        (in_append_left x (f branch path) (each_from (λ i child. preorder node height f child (path ++ i ∷ [])) 0 (node branch path).1) here)
    in_preorder falls (i ∷ rest) branch path c x is m =
        let first = branch_below_first node branch path i rest c is in
        let below = in_preorder falls rest first.0 (path ++ i ∷ []) c x first.2 (subst (λ p. In x (f c p)) (sym (append_assoc path (i ∷ []) rest)) m) in
        let e : 0 + i ≡ i = omega arith in
        rw (preorder_step node height falls f branch path)
        (in_append_right x (f branch path) (each_from (λ i child. preorder node height f child (path ++ i ∷ [])) 0 (node branch path).1)
        (in_each_from (λ i child. preorder node height f child (path ++ i ∷ [])) x 0 (node branch path).1 i first.0 first.1
        (subst (λ k. In x (preorder node height f first.0 (path ++ k ∷ []))) (sym e) below)))
