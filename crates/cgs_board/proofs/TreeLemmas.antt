-- A tree in preorder, unfolded by one level, and loops over the children of a branch.
use Rattle.std.proofs.Common.{◌≡◌, ℕ, zero, suc, ◌+◌, ◌<◌, ◌≤◌, List, [], ◌∷◌, ◌++◌, length, get_or, take, refl, ap, sym, ◌∙◌, arith, append_assoc}
use Rattle.std.proofs.Common.{append-nil, take_all}
use Rattle.std.proofs.lemmas.List.{take_more, length-take}
use Rattle.std.specs.Prelude.{Option, Some, None, slice_get}
use Rattle.std.proofs.lemmas.Option.{none-some, same_Some}
use Rattle.cgs_board.specs.Tree.{branch_below, branch_at, each_from, child_at, preorder_to, preorder, Falls}

-- two functions that agree at each numbered branch give the same list
each_from_same : {J X : Type 0} (f h : ℕ → J → List X) (k : ℕ) (cs : List J)
    → ((i : ℕ) (c : J) → slice_get cs i ≡ Some c → f (k + i) c ≡ h (k + i) c) → each_from f k cs ≡ each_from h k cs
each_from_same f h k [] same = refl
each_from_same f h k (c ∷ cs) same =
    let here : f k c ≡ h k c = (let e : k + 0 ≡ k = omega arith in rw e at (same 0 c refl)) in
    let rest : each_from f (k + 1) cs ≡ each_from h (k + 1) cs =
    each_from_same f h (k + 1) cs (λ i d at. let e : k + suc i ≡ k + 1 + i = omega arith in rw e at (same (suc i) d at)) in
    rw (here, rest) refl

module _ {J E X : Type 0} (node : J → List ℕ → Option E × List J) (height : J → List ℕ → ℕ) (falls : Falls node height) (f : J → List ℕ → List X) where
  -- more levels than the height change nothing
  preorder_to_enough : (n m : ℕ) (branch : J) (path : List ℕ) → height branch path < n → height branch path < m
      → preorder_to node f n branch path ≡ preorder_to node f m branch path
  preorder_to_enough zero m branch path below_n below_m = absurd (omega arith)
  preorder_to_enough (suc n) zero branch path below_n below_m = absurd (omega arith)
  preorder_to_enough (suc n) (suc m) branch path below_n below_m =
      ap (λ rest. f branch path ++ rest)
      (each_from_same
      (λ i child. preorder_to node f n child (path ++ i ∷ []))
      (λ i child. preorder_to node f m child (path ++ i ∷ []))
      0
      (node branch path).1
      (λ i child at.
      let lower = falls branch path i child at in
      let e : 0 + i ≡ i = omega arith in
      rw e (preorder_to_enough n m child (path ++ i ∷ []) (omega arith) (omega arith))))

  -- a tree in preorder is its root, and then the tree of each child in order
  pub preorder_step : (branch : J) (path : List ℕ)
      → preorder node height f branch path ≡ f branch path ++ each_from (λ i child. preorder node height f child (path ++ i ∷ [])) 0 (node branch path).1
  unfolding preorder
  preorder_step branch path =
      ap (λ rest. f branch path ++ rest)
      (each_from_same
      (λ i child. preorder_to node f (height branch path) child (path ++ i ∷ []))
      (λ i child. preorder_to node f (suc (height child (path ++ i ∷ []))) child (path ++ i ∷ []))
      0
      (node branch path).1
      (λ i child at.
      let lower = falls branch path i child at in
      let e : 0 + i ≡ i = omega arith in
      rw e (preorder_to_enough (height branch path) (suc (height child (path ++ i ∷ []))) child (path ++ i ∷ []) (omega arith) (omega arith))))

-- ---- the branch at a path

module _ {J E : Type 0} (node : J → List ℕ → Option E × List J) where
  found_child : (o : Option J) (go : J → Option J) (b : J) → (elim o [ None ↦ None | Some child ↦ go child ]) ≡ Some b
      → (child : J) × (o ≡ Some child) × (go child ≡ Some b)
  found_child None go b is = absurd (none-some b is)
  found_child (Some child) go b is = (child, refl, is)

  -- the first step to a branch below
  pub branch_below_first : (branch : J) (path : List ℕ) (i : ℕ) (rest : List ℕ) (b : J) → branch_below node branch path (i ∷ rest) ≡ Some b
      → (child : J) × (child_at node branch path i ≡ Some child) × (branch_below node child (path ++ i ∷ []) rest ≡ Some b)
  branch_below_first branch path i rest b is = found_child (child_at node branch path i) (λ child. branch_below node child (path ++ i ∷ []) rest) b is

  pub branch_below_next : (branch : J) (path : List ℕ) (i : ℕ) (rest : List ℕ) (child : J) (b : J) → child_at node branch path i ≡ Some child
      → branch_below node child (path ++ i ∷ []) rest ≡ Some b
      → branch_below node branch path (i ∷ rest) ≡ Some b
  branch_below_next branch path i rest child b at is = ap (λ (o : Option J). elim o [ None ↦ None | Some c ↦ branch_below node c (path ++ i ∷ []) rest ]) at
      ∙ is

  branch_below_child : (rest : List ℕ) (branch : J) (path : List ℕ) (b : J) (k : ℕ) (c : J) → branch_below node branch path rest ≡ Some b
      → child_at node b (path ++ rest) k ≡ Some c
      → branch_below node branch path (rest ++ k ∷ []) ≡ Some c
  branch_below_child [] branch path b k c is at =
      let here : child_at node branch path k ≡ Some c = ap (λ x. child_at node x path k) (same_Some branch b is)
      ∙ (ap (λ p. child_at node b p k) (sym (append-nil path)) ∙ at) in
      branch_below_next branch path k [] c c here refl
  branch_below_child (i ∷ rest) branch path b k c is at =
      let first = branch_below_first branch path i rest b is in
      branch_below_next branch path i (rest ++ k ∷ []) first.0 c first.1
      (branch_below_child rest first.0 (path ++ i ∷ []) b k c first.2 (ap (λ p. child_at node b p k) (append_assoc path (i ∷ []) rest) ∙ at))

  -- the child of the branch at a path is the branch at the child's path
  pub branch_at_child : (root : J) (path : List ℕ) (b : J) (k : ℕ) (c : J) → branch_at node root path ≡ Some b → child_at node b path k ≡ Some c
      → branch_at node root (path ++ k ∷ []) ≡ Some c
  branch_at_child root path b k c is at = branch_below_child path root [] b k c is at

-- ---- loops over children

-- one branch more at the end
each_from-snoc : {J X : Type 0} (f : ℕ → J → List X) (k : ℕ) (cs : List J) (c : J)
    → each_from f k (cs ++ c ∷ []) ≡ each_from f k cs ++ f (k + length cs) c
each_from-snoc f k [] c = let e : k + 0 ≡ k = omega arith in rw e (append-nil (f k c))
each_from-snoc f k (d ∷ cs) c =
    let e : k + 1 + length cs ≡ k + suc (length cs) = omega arith in
    rw (each_from-snoc f (k + 1) cs c, e) (sym (append_assoc (f k d) (each_from f (k + 1) cs) (f (k + suc (length cs)) c)))

-- a loop over the branches, one branch on
pub each_from_more : {J X : Type 0} (f : ℕ → J → List X) (cs : List J) (i : ℕ) (c : J)
    → i < length cs → c ≡ get_or cs i c → each_from f 0 (take (i + 1) cs) ≡ each_from f 0 (take i cs) ++ f i c
each_from_more f cs i c within is =
    let n : 0 + length (take i cs) ≡ i = rw (length-take i cs) (omega arith) in
    let last : take (i + 1) cs ≡ take i cs ++ c ∷ [] = (take_more cs i c within ∙ ap (λ x. take i cs ++ x ∷ []) (sym is)) in
    rw last (each_from-snoc f 0 (take i cs) c ∙ ap (λ k. each_from f 0 (take i cs) ++ f k c) n)

-- the list so far, one branch on
pub each_from_step : {J X : Type 0} (f : ℕ → J → List X) (cs : List J) (i : ℕ) (c : J) (before so_far now : List X)
    → i < length cs → c ≡ get_or cs i c → so_far ≡ before ++ each_from f 0 (take i cs) → now ≡ so_far ++ f i c
    → now ≡ before ++ each_from f 0 (take (i + 1) cs)
each_from_step f cs i c before so_far now within is was adds =
    rw (each_from_more f cs i c within is)
    (adds ∙ (ap (λ x. x ++ f i c) was ∙ append_assoc before (each_from f 0 (take i cs)) (f i c)))

-- the list once the loop over the branches is done
pub each_from_done : {J X : Type 0} (f : ℕ → J → List X) (cs : List J) (i : ℕ) (before first so_far whole : List X)
    → length cs ≤ i → so_far ≡ (before ++ first) ++ each_from f 0 (take i cs) → whole ≡ first ++ each_from f 0 cs → so_far ≡ before ++ whole
each_from_done f cs i before first so_far whole past was is =
    was ∙ (ap (λ xs. (before ++ first) ++ each_from f 0 xs) (take_all i cs past)
    ∙ (append_assoc before first (each_from f 0 cs) ∙ ap (λ xs. before ++ xs) (sym is)))
