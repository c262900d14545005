-- What a legal history brought: each branch once, and when all that was offered came back, the whole tree.
use Rattle.std.proofs.Common.{◌≡◌, ℕ, zero, suc, ◌+◌, ◌≤◌, List, [], ◌∷◌, ◌++◌, length, get_or, take, refl, ap, sym, ◌∙◌, subst, arith, inl, inr}
use Rattle.std.proofs.Common.{append_assoc, append-nil, length-append, take_all}
use Rattle.std.specs.Prelude.{Option, Some, None, slice_get, Contains, flat_map, cond, IsPermutation, IsSortedByKey}
use Rattle.std.proofs.lemmas.Option.{same_Some, slice_get_within, slice_get-get_or}
use Rattle.std.proofs.lemmas.List.{take_more}
use Rattle.std.proofs.lemmas.List.Concat.{flat_map-append}
use Rattle.std.proofs.lemmas.List.Elements.{Contains-push}
use Rattle.std.proofs.lemmas.List.Sums.{sum_by-cons}
use Rattle.cgs_path.specs.PathOrder.{compared}
use Rattle.cgs_board.specs.declared.event.Event.{Event}
use Rattle.cgs_board.specs.declared.event.Event.TheVariants.{Claim, Give, Quit}
use Rattle.cgs_board.specs.Tree.{branch_at, branch_below, entry_at, entry_of, entries_of, branches_of, Falls}
use Rattle.cgs_board.specs.History.{IsGiven, IsOffered, MayFollow, IsLegal, is_give, gives_of}
use Rattle.cgs_board.specs.Laws.{FinishedIsComplete, CompleteGivesAll}
use Rattle.cgs_board.specs.Slots.{brought}
use Rattle.cgs_board.proofs.HistoryLemmas.{given_within, within_push, given_node, given_is_claimed, finished_came_back}
use Rattle.cgs_board.proofs.TreeLemmas.{branch_below_first, branch_at_child}
use Rattle.cgs_board.proofs.Members.{In, Contains_in, in_Contains, in_permuted, permuted_in, in_flat_map, flat_map_in, count_at, count_at-append, counted_is}
use Rattle.cgs_board.proofs.Members.{RepeatsNone, no_longer}
use Rattle.cgs_board.proofs.Rising.{Rises, rises_repeats_none, rising_same, sorted_rises}
use Rattle.cgs_board.proofs.Preorder.{preorder_in, in_preorder, rises_preorder}

-- ---- what the events of a legal history brought

module _ {J E Y : Type 0} (node : J → List ℕ → Option E × List J) (root : J) (f : J → List ℕ → List (List ℕ × Y))
    (keyed : (b : J) (p : List ℕ) (x : List ℕ × Y) → In x (f b p) → x.0 ≡ p) where
  -- a thing was brought by a give of the branch at its path
  abbrev pub BroughtBy : Event → List ℕ × Y → Type 0
  BroughtBy e x = (worker : ℕ) × (children : ℕ) × (entries : ℕ) × (branch : J) × (e ≡ Give worker x.0 children entries)
      × (branch_at node root x.0 ≡ Some branch) × In x (f branch x.0)

  found_in : (o : Option J) (p : List ℕ) (x : List ℕ × Y) → In x (elim o [ None ↦ [] | Some b ↦ f b p ]) → (b : J) × (o ≡ Some b) × In x (f b p)
  found_in None p x m = absurd m
  found_in (Some b) p x m = (b, refl, m)

  brought_by : (e : Event) (x : List ℕ × Y) → In x (brought node f root e) → BroughtBy e x
  brought_by (Claim worker path) x m = absurd m
  brought_by (Give worker path children entries) x m =
      let r = found_in (branch_at node root path) path x m in
      let at : path ≡ x.0 = sym (keyed r.0 path x r.2) in
      (worker, children, entries, r.0, ap (λ p. Give worker p children entries) at, ap (branch_at node root) (sym at) ∙ r.1, subst (λ p. In x (f r.0 p)) at r.2)
  brought_by (Quit worker) x m = absurd m

  brings : (worker : ℕ) (path : List ℕ) (children entries : ℕ) (b : J) (x : List ℕ × Y) → branch_at node root path ≡ Some b → In x (f b path)
      → In x (brought node f root (Give worker path children entries))
  brings worker path children entries b x is m = subst (λ (o : Option J). In x (elim o [ None ↦ [] | Some c ↦ f c path ])) (sym is) m

  pub all_brought_in : (h : List Event) (x : List ℕ × Y) → In x (flat_map (brought node f root) h)
      → IsGiven x.0 h × ((b : J) × (branch_at node root x.0 ≡ Some b) × In x (f b x.0))
  all_brought_in h x m =
      let r = flat_map_in (brought node f root) x h m in
      let b = brought_by r.0 x r.2 in
      ((b.1, (b.0, b.2, subst (Contains h) b.4 (Contains_in r.0 h r.1))), (b.3, b.5, b.6))

  pub in_all_brought : (h : List Event) (b : J) (x : List ℕ × Y) → IsGiven x.0 h → branch_at node root x.0 ≡ Some b → In x (f b x.0)
      → In x (flat_map (brought node f root) h)
  in_all_brought h b x g is m =
      in_flat_map (brought node f root) x (Give g.1.0 x.0 g.0 g.1.1) h (in_Contains (Give g.1.0 x.0 g.0 g.1.1) h g.1.2) (brings g.1.0 x.0 g.0 g.1.1 b x is m)

  module _ (workers : ℕ) (single : (b : J) (p : List ℕ) → RepeatsNone (f b p)) where
    brought_single : (e : Event) → RepeatsNone (brought node f root e)
    brought_single (Claim worker path) p = omega arith
    brought_single (Give worker path children entries) p = by_branch (branch_at node root path)
      where
        by_branch : (o : Option J) → count_at p (elim o [ None ↦ [] | Some b ↦ f b path ]) ≤ 1
        by_branch None = omega arith
        by_branch (Some b) = single b path p
    brought_single (Quit worker) p = omega arith

    -- at most one thing was brought at a path, and none where the branch was not given back
    abbrev Once : List ℕ → List Event → Type 0
    Once p h = (count_at p (flat_map (brought node f root) h) ≤ 1) × ((IsGiven p h → ⊥) → count_at p (flat_map (brought node f root) h) ≡ 0)

    once_push : (p : List ℕ) (h : List Event) (e : Event) → MayFollow node root workers h e → Once p h → Once p (h ++ e ∷ [])
    once_push p h e may before = by_count (count_at p (brought node f root e)) refl
      where
        more : count_at p (flat_map (brought node f root) (h ++ e ∷ [])) ≡ count_at p (flat_map (brought node f root) h) + count_at p (brought node f root e)
        more = ap (count_at p) (flat_map-append (brought node f root) h (e ∷ [])
            ∙ ap (λ es. flat_map (brought node f root) h ++ es) (append-nil (brought node f root e)))
            ∙ count_at-append p (flat_map (brought node f root) h) (brought node f root e)

        still : (IsGiven p (h ++ e ∷ []) → ⊥) → IsGiven p h → ⊥
        still none g = none (given_within h (h ++ e ∷ []) p (within_push h e) g)

        fresh : (w c n : ℕ) (q : List ℕ) → e ≡ Give w q c n → p ≡ q → IsGiven p h → ⊥
        fresh w c n q is same g = (subst (MayFollow node root workers h) is may).1.1 (subst (λ r. IsGiven r h) same g)

        by_count : (k : ℕ) → count_at p (brought node f root e) ≡ k → Once p (h ++ e ∷ [])
        by_count zero is = (let few = before.0 in omega (arith, more, is, few), λ none. let old = before.1 (still none) in omega (arith, more, is, old))
        by_count (suc k) is =
            let r = counted_is p (brought node f root e) (omega (arith, is)) in
            let b = brought_by e r.0 r.1 in
            let old = before.1 (fresh b.0 b.1 b.2 r.0.0 b.4 r.2) in
            let here : Contains (h ++ e ∷ []) (Give b.0 p b.1 b.2) =
            subst (Contains (h ++ e ∷ [])) {y = Give b.0 p b.1 b.2} (b.4 ∙ ap (λ q. Give b.0 q b.1 b.2) (sym r.2)) (Contains-push h e) in
            (omega (arith, more, old, brought_single e p), λ none. absurd (none (b.1, (b.0, b.2, here))))

    once_upto : (p : List ℕ) (h : List Event) → IsLegal node root workers h → (k : ℕ) → k ≤ length h → Once p (take k h)
    once_upto p h legal zero le = (omega arith, λ none. refl)
    once_upto p h legal (suc k) le =
        let e = get_or h k (Quit 0) in
        let next : suc k ≡ k + 1 = omega arith in
        let grows : take (suc k) h ≡ take k h ++ e ∷ [] = ap (λ n. take n h) next ∙ take_more h k (Quit 0) (omega (arith, le)) in
        subst (Once p) (sym grows) (once_push p (take k h) e (legal k e (slice_get-get_or h k (Quit 0) (omega (arith, le))))
        (once_upto p h legal k (omega (arith, le))))

    pub all_brought_once : (h : List Event) → IsLegal node root workers h → RepeatsNone (flat_map (brought node f root) h)
    all_brought_once h legal p = (subst (Once p) (take_all (length h) h (omega arith)) (once_upto p h legal (length h) (omega arith))).0

-- ---- when all that was offered came back

module _ {J E : Type 0} (node : J → List ℕ → Option E × List J) (root : J) (workers : ℕ) (h : List Event) (legal : IsLegal node root workers h) where
  child_offered : (path : List ℕ) (branch : J) (i : ℕ) (child : J) → branch_at node root path ≡ Some branch → slice_get (node branch path).1 i ≡ Some child
      → IsGiven path h → IsOffered (path ++ i ∷ []) h
  child_offered path branch i child is at g =
      let n = given_node node root workers h legal g.1.0 path g.0 g.1.1 g.1.2 in
      let same : n.0 ≡ branch = same_Some n.0 branch (sym n.1 ∙ is) in
      let count : g.0 ≡ length (node branch path).1 = n.2 ∙ ap (λ b. length (node b path).1) same in
      let within = slice_get_within (node branch path).1 i child at in
      inr (path, i, g.0, refl, omega (arith, count, within), g.1)

  module _ (back : (path : List ℕ) → IsOffered path h → IsGiven path h) where
    given_below : (rest : List ℕ) (path : List ℕ) (branch c : J) → branch_at node root path ≡ Some branch → IsGiven path h
        → branch_below node branch path rest ≡ Some c → IsGiven (path ++ rest) h
    given_below [] path branch c is g below = subst (λ p. IsGiven p h) (sym (append-nil path)) g
    given_below (i ∷ rest) path branch c is g below =
        let first = branch_below_first node branch path i rest c below in
        subst (λ p. IsGiven p h) (append_assoc path (i ∷ []) rest)
        (given_below rest (path ++ i ∷ []) first.0 c
        (branch_at_child node root path branch i first.0 is first.1)
        (back (path ++ i ∷ []) (child_offered path branch i first.0 is first.1 g))
        first.2)

    -- every branch of the tree came back
    pub all_given : (path : List ℕ) (branch : J) → branch_at node root path ≡ Some branch → IsGiven path h
    all_given path branch is = given_below path [] root branch refl (back [] (inl refl)) is

-- ---- complete histories

pub finished_is_complete : {J E : Type 0} (node : J → List ℕ → Option E × List J) → FinishedIsComplete node
finished_is_complete node root workers h legal done none = record {
  legal = legal;
  none_quit = none;
  claimed = λ path branch is. given_is_claimed node root workers h legal path (all_given node root workers h legal (finished_came_back h done) path branch is);
  given = all_given node root workers h legal (finished_came_back h done);
}

-- ---- the entries and the branches

module _ {J E : Type 0} (node : J → List ℕ → Option E × List J) where
  entry_keyed : (p : List ℕ) (o : Option E) (x : List ℕ × E) → In x (entry_at p o) → x.0 ≡ p
  entry_keyed p None x m = absurd m
  entry_keyed p (Some entry) x (inl is) = ap (λ z. z.0) (sym is)
  entry_keyed p (Some entry) x (inr none) = absurd none

  entry_rises : (p : List ℕ) (o : Option E) → Rises (entry_at p o)
  entry_rises p None = tt
  entry_rises p (Some entry) = (tt, tt)

  entry_of_keyed : (b : J) (p : List ℕ) (x : List ℕ × E) → In x (entry_of node b p) → x.0 ≡ p
  entry_of_keyed b p x m = entry_keyed p (node b p).0 x m

  pub entries_rise : (height : J → List ℕ → ℕ) (root : J) → Rises (entries_of node height root [])
  entries_rise height root = rises_preorder node (entry_of node) height entry_of_keyed (λ b p. entry_rises p (node b p).0) root []

  abbrev itself : J → List ℕ → List (List ℕ × J)
  itself b p = (p, b) ∷ []

  itself_keyed : (b : J) (p : List ℕ) (x : List ℕ × J) → In x (itself b p) → x.0 ≡ p
  itself_keyed b p x (inl is) = ap (λ z. z.0) (sym is)
  itself_keyed b p x (inr none) = absurd none

  module _ (height : J → List ℕ → ℕ) (falls : Falls node height) (root : J) (workers : ℕ) (h : List Event) (legal : IsLegal node root workers h) where
    -- the entries that came back, sorted, are those of the tree
    pub sorted_entries : ((path : List ℕ) → IsOffered path h → IsGiven path h) → (es : List (List ℕ × E))
        → IsPermutation (flat_map (brought node (entry_of node) root) h) es
        → IsSortedByKey (λ (x : List ℕ × E). x.0) compared es → es ≡ entries_of node height root []
    sorted_entries back es moved up =
        rising_same es (entries_of node height root [])
        (sorted_rises _ es (all_brought_once node root (entry_of node) entry_of_keyed workers
        (λ b p. rises_repeats_none (entry_of node b p) (entry_rises p (node b p).0)) h legal) moved up)
        (entries_rise height root)
        (λ x m.
        let r = all_brought_in node root (entry_of node) entry_of_keyed h x (permuted_in x _ es moved m) in
        in_preorder node (entry_of node) height falls x.0 root [] r.1.0 x r.1.1 r.1.2)
        (λ x m.
        let r = preorder_in node (entry_of node) height root [] x m in
        let at : r.0 ≡ x.0 = sym (entry_of_keyed r.1 r.0 x r.3) in
        let is : branch_at node root x.0 ≡ Some r.1 = ap (branch_at node root) (sym at) ∙ r.2 in
        in_permuted x _ es moved
        (in_all_brought node root (entry_of node) entry_of_keyed h r.1 x (all_given node root workers h legal back x.0 r.1 is) is
        (subst (λ p. In x (entry_of node r.1 p)) at r.3)))

    abbrev came : List (List ℕ × J)
    came = flat_map (brought node itself root) h

    came_once : RepeatsNone came
    came_once = all_brought_once node root itself itself_keyed workers (λ b p. rises_repeats_none (itself b p) (tt, tt)) h legal

    came_in_tree : (x : List ℕ × J) → In x came → In x (branches_of node height root [])
    came_in_tree x m =
        let r = all_brought_in node root itself itself_keyed h x m in
        in_preorder node itself height falls x.0 root [] r.1.0 x r.1.1 r.1.2

    count_came : (k : List Event) → ((w : ℕ) (p : List ℕ) (c n : ℕ) → In (Give w p c n) k → (b : J) × (branch_at node root p ≡ Some b))
        → length (flat_map (brought node itself root) k) ≡ gives_of k
    count_came [] each = refl
    count_came (Claim w p ∷ k) each = omega (arith, count_came k (λ w p c n m. each w p c n (inr m)), sum_by-cons (λ e. cond (is_give e) 1 0) (Claim w p) k)
    count_came (Give w p c n ∷ k) each =
        let b = each w p c n (inl refl) in
        let one : length (brought node itself root (Give w p c n))
        ≡ 1 = ap (λ (o : Option J). length {A = List ℕ × J} (elim o [ None ↦ [] | Some b ↦ itself b p ])) b.1 in
        omega (
          arith,
          one,
          length-append (brought node itself root (Give w p c n)) (flat_map (brought node itself root) k),
          count_came k (λ w p c n m. each w p c n (inr m)),
          sum_by-cons (λ e. cond (is_give e) 1 0) (Give w p c n) k,
        )
    count_came (Quit w ∷ k) each = omega (arith, count_came k (λ w p c n m. each w p c n (inr m)), sum_by-cons (λ e. cond (is_give e) 1 0) (Quit w) k)

    gives_are : length came ≡ gives_of h
    gives_are = count_came h (λ w p c n m. let r = given_node node root workers h legal w p c n (Contains_in _ h m) in (r.0, r.1))

    -- no more branches came back than the tree has
    pub gives_most : gives_of h ≤ length (branches_of node height root [])
    gives_most = omega (arith, gives_are, no_longer came (branches_of node height root []) came_once came_in_tree)

    -- each branch of the tree came back
    pub gives_all : ((path : List ℕ) (branch : J) → branch_at node root path ≡ Some branch → IsGiven path h)
        → gives_of h ≡ length (branches_of node height root [])
    gives_all given =
        let up = rises_preorder node itself height itself_keyed (λ b p. (tt, tt)) root [] in
        let fewer = no_longer (branches_of node height root []) came (rises_repeats_none (branches_of node height root []) up)
        (λ x m.
        let r = preorder_in node itself height root [] x m in
        let at : r.0 ≡ x.0 = sym (itself_keyed r.1 r.0 x r.3) in
        let is : branch_at node root x.0 ≡ Some r.1 = ap (branch_at node root) (sym at) ∙ r.2 in
        in_all_brought node root itself itself_keyed h r.1 x (given x.0 r.1 is) is (subst (λ p. In x (itself r.1 p)) at r.3)) in
        omega (arith, gives_are, gives_most, fewer)

  pub complete_gives_all : (height : J → List ℕ → ℕ) → Falls node height → CompleteGivesAll node height
  complete_gives_all height falls root workers h c = gives_all height falls root workers h c.legal c.given
