-- The members whose leads no other lead properly divides: a minimal basis with ascending leads.
use Rattle.std.proofs.Common.{IsTrue}
use Rattle.std.proofs.Common.{ℕ, zero, suc, ◌≡◌, ◌<◌, ◌≤◌, ◌⊎◌, inl, inr, Bool, true, false, cond, not, ◌&&◌, ◌||◌, leb, List, [], ◌∷◌, length, get_or, refl}
use Rattle.std.proofs.Common.{sym, ap, ◌∙◌, subst, arith}
use Rattle.std.proofs.lemmas.Bool.{cases_order, and_parts, and_from, leb-true, leb-false, le-leb}
use Rattle.std.specs.declared.cmp.Ordering.{Ordering}
use Rattle.std.specs.declared.cmp.Ordering.TheVariants.{Less, Equal, Greater}
use Rattle.std.proofs.lemmas.List.Sums.{sum_by-cons}
use Rattle.cgs_exps.specs.Monomial.{degree, divides}
use Rattle.cgs_exps.proofs.MonomialLemmas.{divides_trans, divides_both, degree_divides}
use Rattle.cgs_order.specs.TermOrder.{compared}
use Rattle.cgs_order.proofs.OrderLemmas.{compared_equal, compared_back, compared_not_self}
use Rattle.cgs_poly.specs.Ring.{Ring}
use Rattle.cgs_poly.specs.Polynomial.{Term, places, order_of, IsCanonical}
use Rattle.cgs_poly.specs.Product.{leading_monomial, leading_coefficient}
use Rattle.cgs_algebra.specs.Combination.{IsMember}
use Rattle.cgs_algebra.specs.Groebner.{AreMonic, IsGroebnerBasis, IsMinimal, IsAscending, leading_monomial_at}
use Rattle.cgs_algebra.proofs.AscendingLemmas.{ascending_at}
use Rattle.cgs_algebra.proofs.RepresentationLemmas.{lead_at_length}
use Rattle.cgs_divide.specs.AutoreductionRun.{divides_properly, has_proper_divisor, placed, with_minimal, minimal_members}
use Rattle.std.specs.List.{AllByRecursion}
use Rattle.cgs_list.proofs.ListLemmas.{all_by_places, all_at_place}
use Rattle.cgs_algebra.proofs.PlaceLemmas.{lead_place, lead_at_place, of_two_places}

-- f is a member of G
abbrev IsIn : List Term → List (List Term) → Type 0
IsIn f [] = ⊥
IsIn f (g ∷ G) = (f ≡ g) ⊎ IsIn f G

pub in_at : (G : List (List Term)) (i : ℕ) → i < length G → IsIn (get_or G i []) G
in_at [] i l = absurd (omega arith)
in_at (g ∷ G) zero l = inl refl
in_at (g ∷ G) (suc i) l = inr (in_at G i (omega arith))

pub place_of : (f : List Term) (G : List (List Term)) → IsIn f G → (i : ℕ) × (i < length G) × (get_or G i [] ≡ f)
place_of f [] h = absurd h
place_of f (g ∷ G) (inl e) = (0, omega arith, sym e)
place_of f (g ∷ G) (inr h) = let i = place_of f G h in (suc i.0, omega (arith, i.1), i.2)

divides_self : (a : List ℕ) → divides a a ≡ true
divides_self [] = refl
divides_self (x ∷ a) = and_from _ _ (le-leb x x (omega arith)) (divides_self a)

-- tests

both_true : (a b : Bool) → (a && not b) ≡ true → (a ≡ true) × (b ≡ false)
both_true true false e = (refl, refl)
both_true true true e = absurd (cc)
both_true false b e = absurd (cc)

either_true : (a b : Bool) → (a || b) ≡ true → (a ≡ true) ⊎ (b ≡ true)
either_true true b e = inl refl
either_true false b e = inr e

neither : (a b : Bool) → (a || b) ≡ false → (a ≡ false) × (b ≡ false)
neither true b e = absurd (cc)
neither false b e = (refl, e)

proper_found : (G : List (List Term)) (m : List ℕ) → has_proper_divisor G m ≡ true
    → (g : List Term) × IsIn g G × (divides_properly (leading_monomial g) m ≡ true)
proper_found [] m e = absurd (cc)
proper_found (g ∷ G) m e = by_test (either_true (divides_properly (leading_monomial g) m) (has_proper_divisor G m) e) (λ k. proper_found G m k)
  where
    by_test : (divides_properly (leading_monomial g) m ≡ true) ⊎ (has_proper_divisor G m ≡ true)
        → (has_proper_divisor G m ≡ true → (h : List Term) × IsIn h G × (divides_properly (leading_monomial h) m ≡ true))
        → (h : List Term) × IsIn h (g ∷ G) × (divides_properly (leading_monomial h) m ≡ true)
    by_test (inl k) ih = (g, inl refl, k)
    by_test (inr k) ih = let h = ih k in (h.0, inr h.1, h.2)

proper_none : (G : List (List Term)) (m : List ℕ) → has_proper_divisor G m ≡ false → (g : List Term) → IsIn g G
    → divides_properly (leading_monomial g) m ≡ false
proper_none [] m e g h = absurd h
proper_none (k ∷ G) m e g (inl s) = rw s (neither (divides_properly (leading_monomial k) m) (has_proper_divisor G m) e).0
proper_none (k ∷ G) m e g (inr h) = proper_none G m (neither (divides_properly (leading_monomial k) m) (has_proper_divisor G m) e).1 g h

-- what is put into an ascending list

module _ (ring : Ring) where
  placed_in : (f g : List Term) (K : List (List Term)) → IsIn f (placed ring g K) → (f ≡ g) ⊎ IsIn f K
  placed_in f g [] h = h
  placed_in f g (k ∷ K) h = by_order (compared (order_of ring) (leading_monomial g) (leading_monomial k)) h (λ i. placed_in f g K i)
    where
      by_order : (o : Ordering) → IsIn f (elim o [ Less ↦ g ∷ k ∷ K | Equal ↦ k ∷ K | Greater ↦ k ∷ placed ring g K ])
          → (IsIn f (placed ring g K) → (f ≡ g) ⊎ IsIn f K) → (f ≡ g) ⊎ IsIn f (k ∷ K)
      by_order Less h ih = h
      by_order Equal h ih = inr h
      by_order Greater (inl e) ih = inr (inl e)
      by_order Greater (inr i) ih = elim (ih i) as (λ _. (f ≡ g) ⊎ IsIn f (k ∷ K)) [ inl e ↦ inl e | inr j ↦ inr (inr j) ]

  placed_keeps : (f g : List Term) (K : List (List Term)) → IsIn f K → IsIn f (placed ring g K)
  placed_keeps f g [] h = absurd h
  placed_keeps f g (k ∷ K) h = by_order (compared (order_of ring) (leading_monomial g) (leading_monomial k)) h (λ i. placed_keeps f g K i)
    where
      by_order : (o : Ordering) → IsIn f (k ∷ K) → (IsIn f K → IsIn f (placed ring g K))
          → IsIn f (elim o [ Less ↦ g ∷ k ∷ K | Equal ↦ k ∷ K | Greater ↦ k ∷ placed ring g K ])
      by_order Less h ih = inr h
      by_order Equal h ih = h
      by_order Greater (inl e) ih = inl e
      by_order Greater (inr i) ih = inr (ih i)

  -- a member with a lead of its own
  abbrev HasMember : List ℕ → List (List Term) → Type 0
  HasMember m K = (f : List Term) × IsIn f K × (leading_monomial f ≡ m)

  placed_lead : (g : List Term) (K : List (List Term)) → ((k : List Term) → IsIn k K → length (leading_monomial k) ≡ length (leading_monomial g))
      → HasMember (leading_monomial g) (placed ring g K)
  placed_lead g [] l = (g, inl refl, refl)
  placed_lead g (k ∷ K) l = by_order (compared (order_of ring) (leading_monomial g) (leading_monomial k)) refl (placed_lead g K (λ h i. l h (inr i)))
    where
      by_order : (o : Ordering) → compared (order_of ring) (leading_monomial g) (leading_monomial k) ≡ o → HasMember (leading_monomial g) (placed ring g K)
          → HasMember (leading_monomial g) (elim o [ Less ↦ g ∷ k ∷ K | Equal ↦ k ∷ K | Greater ↦ k ∷ placed ring g K ])
      by_order Less e ih = (g, inl refl, refl)
      by_order Equal e ih = (k, inl refl, sym (compared_equal (order_of ring) (leading_monomial g) (leading_monomial k) (sym (l k (inl refl))) e))
      by_order Greater e ih = (ih.0, inr ih.1, ih.2)

  placed_after : (h g : List Term) (K : List (List Term)) → compared (order_of ring) (leading_monomial h) (leading_monomial g) ≡ Less
      → IsAscending ring (h ∷ K) → IsAscending ring (h ∷ placed ring g K)
  placed_after h g [] s a = (s, tt)
  placed_after h g (k ∷ K) s a = by_order (compared (order_of ring) (leading_monomial g) (leading_monomial k)) refl (λ e. placed_after k g K e a.1)
    where
      by_order : (o : Ordering) → compared (order_of ring) (leading_monomial g) (leading_monomial k) ≡ o
          → (compared (order_of ring) (leading_monomial k) (leading_monomial g) ≡ Less → IsAscending ring (k ∷ placed ring g K))
          → IsAscending ring (h ∷ elim o [ Less ↦ g ∷ k ∷ K | Equal ↦ k ∷ K | Greater ↦ k ∷ placed ring g K ])
      by_order Less e ih = (s, (e, a.1))
      by_order Equal e ih = a
      by_order Greater e ih = (a.0, ih (compared_back (order_of ring) (leading_monomial g) (leading_monomial k) e))

  placed_ascending : (g : List Term) (K : List (List Term)) → IsAscending ring K → IsAscending ring (placed ring g K)
  placed_ascending g [] a = tt
  placed_ascending g (k ∷ K) a = by_order (compared (order_of ring) (leading_monomial g) (leading_monomial k)) refl
    where
      by_order : (o : Ordering) → compared (order_of ring) (leading_monomial g) (leading_monomial k) ≡ o
          → IsAscending ring (elim o [ Less ↦ g ∷ k ∷ K | Equal ↦ k ∷ K | Greater ↦ k ∷ placed ring g K ])
      by_order Less e = (e, a)
      by_order Equal e = a
      by_order Greater e = placed_after k g K (compared_back (order_of ring) (leading_monomial g) (leading_monomial k) e) a

  -- the members that are kept

  minimal_ascending : (G H K : List (List Term)) → IsAscending ring K → IsAscending ring (with_minimal ring G H K)
  minimal_ascending G [] K a = a
  minimal_ascending G (h ∷ H) K a = minimal_ascending G H (cond (has_proper_divisor G (leading_monomial h)) K (placed ring h K))
      (by_test (has_proper_divisor G (leading_monomial h)))
    where
      by_test : (b : Bool) → IsAscending ring (cond b K (placed ring h K))
      by_test true = a
      by_test false = placed_ascending h K a

  minimal_in : (f : List Term) (G H K : List (List Term)) → IsIn f (with_minimal ring G H K)
      → IsIn f K ⊎ (IsIn f H × (has_proper_divisor G (leading_monomial f) ≡ false))
  minimal_in f G [] K i = inl i
  minimal_in f G (h ∷ H) K i =
      elim (minimal_in f G H (cond (has_proper_divisor G (leading_monomial h)) K (placed ring h K)) i)
      [ inl j ↦ by_test (has_proper_divisor G (leading_monomial h)) refl j | inr j ↦ inr (inr j.0, j.1) ]
    where
      by_test : (b : Bool) → has_proper_divisor G (leading_monomial h) ≡ b → IsIn f (cond b K (placed ring h K))
          → IsIn f K ⊎ (IsIn f (h ∷ H) × (has_proper_divisor G (leading_monomial f) ≡ false))
      by_test true e j = inl j
      by_test false e j = elim (placed_in f h K j) [ inl s ↦ inr (inl s, ap (λ q. has_proper_divisor G (leading_monomial q)) s ∙ e) | inr k ↦ inl k ]

  minimal_keeps : (f : List Term) (G H K : List (List Term)) → IsIn f K → IsIn f (with_minimal ring G H K)
  minimal_keeps f G [] K i = i
  minimal_keeps f G (h ∷ H) K i = minimal_keeps f G H (cond (has_proper_divisor G (leading_monomial h)) K (placed ring h K))
      (by_test (has_proper_divisor G (leading_monomial h)))
    where
      by_test : (b : Bool) → IsIn f (cond b K (placed ring h K))
      by_test true = i
      by_test false = placed_keeps f h K i

  minimal_lead : (n : ℕ) (g : List Term) (G H K : List (List Term)) → ((k : List Term) → IsIn k K → length (leading_monomial k) ≡ n)
      → ((h : List Term) → IsIn h H → length (leading_monomial h) ≡ n) → IsIn g H
      → has_proper_divisor G (leading_monomial g) ≡ false → HasMember (leading_monomial g) (with_minimal ring G H K)
  minimal_lead n g G [] K lk lh i e = absurd i
  minimal_lead n g G (h ∷ H) K lk lh (inl s) e =
      let kept : cond (has_proper_divisor G (leading_monomial h)) K (placed ring h K) ≡ placed ring h K =
      rw (sym (ap (λ q. has_proper_divisor G (leading_monomial q)) s) ∙ e) refl in
      let m = placed_lead h K (λ k j. lk k j ∙ sym (lh h (inl refl))) in (
        m.0,
        minimal_keeps m.0 G H (cond (has_proper_divisor G (leading_monomial h)) K (placed ring h K)) (subst (λ L. IsIn m.0 L) (sym kept) m.1),
        m.2
            ∙ sym (ap leading_monomial s),
      )
  minimal_lead n g G (h ∷ H) K lk lh (inr i) e =
      minimal_lead n g G H (cond (has_proper_divisor G (leading_monomial h)) K (placed ring h K)) (λ k j.
      by_test (has_proper_divisor G (leading_monomial h)) k j) (λ k j. lh k (inr j)) i e
    where
      by_test : (b : Bool) (k : List Term) → IsIn k (cond b K (placed ring h K)) → length (leading_monomial k) ≡ n
      by_test true k j = lk k j
      by_test false k j = elim (placed_in k h K j) [ inl s ↦ ap (λ q. length (leading_monomial q)) s ∙ lh h (inl refl) | inr i ↦ lk k i ]

-- a proper divisor has a smaller degree
proper_degree : (a b : List ℕ) → length a ≡ length b → divides a b ≡ true → divides b a ≡ false → degree a < degree b
proper_degree [] [] l d n = absurd (cc)
proper_degree [] (y ∷ b) l d n = absurd (omega arith)
proper_degree (x ∷ a) [] l d n = absurd (omega arith)
proper_degree (x ∷ a) (y ∷ b) l d n = by_test (leb y x) refl n (λ e. proper_degree a b (omega arith) (and_parts _ _ d).1 e)
  where
    first : x ≤ y
    first = leb-true x y (and_parts _ _ d).0

    by_test : (t : Bool) → leb y x ≡ t → (t && divides b a) ≡ false → (divides b a ≡ false → degree a < degree b) → degree (x ∷ a) < degree (y ∷ b)
    by_test true e k ih = omega (arith, ih k, first, sum_by-cons (λ n. n) x a, sum_by-cons (λ n. n) y b)
    by_test false e k ih =
        let s : x < y = leb-false y x e in
        omega (arith, s, degree_divides a b (omega arith) (and_parts _ _ d).1, sum_by-cons (λ n. n) x a, sum_by-cons (λ n. n) y b)

module _ (ring : Ring) (G : List (List Term)) (pos : 0 < ring.modulus) (ok : AreMonic ring G) where
  abbrev K : List (List Term)
  K = minimal_members ring G

  lead_long : (g : List Term) → IsIn g G → length (leading_monomial g) ≡ places ring
  lead_long g i = let j = place_of g G i in subst (λ q. length (leading_monomial q) ≡ places ring) j.2 (lead_at_length ring G pos ok j.0 j.1)

  pub minimal_from : (f : List Term) → IsIn f K → IsIn f G × (has_proper_divisor G (leading_monomial f) ≡ false)
  minimal_from f i = elim (minimal_in ring f G G [] i) [ inl j ↦ absurd j | inr j ↦ j ]

  -- each lead is divided by one that is kept
  covered_below : (n : ℕ) (g : List Term) → IsIn g G → degree (leading_monomial g) < n
      → (k : List Term) × IsIn k K × (divides (leading_monomial k) (leading_monomial g) ≡ true)
  covered_below zero g i l = absurd (omega arith)
  covered_below (suc n) g i l = by_test (has_proper_divisor G (leading_monomial g)) refl (λ h j k. covered_below n h j k)
    where
      by_test : (b : Bool) → has_proper_divisor G (leading_monomial g) ≡ b
          → ((h : List Term) → IsIn h G → degree (leading_monomial h) < n
          → (k : List Term) × IsIn k K × (divides (leading_monomial k) (leading_monomial h) ≡ true))
          → (k : List Term) × IsIn k K × (divides (leading_monomial k) (leading_monomial g) ≡ true)
      by_test false e ih =
          let k = minimal_lead ring (places ring) g G G [] (λ h j. absurd j) lead_long i e in
          (k.0, k.1, subst (λ m. divides m (leading_monomial g) ≡ true) (sym k.2) (divides_self (leading_monomial g)))
      by_test true e ih =
          let h = proper_found G (leading_monomial g) e in
          let t = both_true (divides (leading_monomial h.0) (leading_monomial g)) (divides (leading_monomial g) (leading_monomial h.0)) h.2 in
          let same : length (leading_monomial h.0) ≡ length (leading_monomial g) = lead_long h.0 h.1 ∙ sym (lead_long g i) in
          let s : degree (leading_monomial h.0) < degree (leading_monomial g) = proper_degree (leading_monomial h.0) (leading_monomial g) same t.0 t.1 in
          let k = ih h.0 h.1 (omega arith) in
          let ks : length (leading_monomial k.0) ≡ length (leading_monomial h.0) = lead_long k.0 (minimal_from k.0 k.1).0 ∙ sym (lead_long h.0 h.1) in
          (k.0, k.1, divides_trans (leading_monomial k.0) (leading_monomial h.0) (leading_monomial g) ks k.2 t.0)

  covered : (g : List Term) → IsIn g G → (k : List Term) × IsIn k K × (divides (leading_monomial k) (leading_monomial g) ≡ true)
  covered g i = covered_below (suc (degree (leading_monomial g))) g i (omega arith)

  pub members_ascending : IsAscending ring K
  members_ascending = minimal_ascending ring G G [] tt

  -- the member at a place
  member_at : (i : ℕ) → i < length K → IsIn (get_or K i []) G × (has_proper_divisor G (leading_monomial_at K i) ≡ false)
  member_at i l = minimal_from (get_or K i []) (in_at K i l)

  -- what holds of all members holds of those that are kept
  pub each_kept : (P : List Term → Type 0) → AllByRecursion P G → AllByRecursion P K
  each_kept P all = all_by_places P [] K (λ i l. let j = place_of (get_or K i []) G (member_at i l).0 in subst P j.2 (all_at_place P [] G all j.0 j.1))

  pub members_monic : AreMonic ring K
  members_monic = record { canonical = each_kept (IsCanonical ring) ok.canonical; monic = each_kept (λ g. leading_coefficient g ≡ 1) ok.monic }

  -- no lead divides the lead at another place
  pub members_apart : (i j : ℕ) → i < length K → j < length K → (i ≡ j → ⊥) → divides (leading_monomial_at K i) (leading_monomial_at K j) ≡ true → ⊥
  members_apart i j hi hj n d =
      let a = member_at i hi in
      let b = member_at j hj in
      let e = proper_none G (leading_monomial_at K j) b.1 (get_or K i []) a.0 in
      let back : divides (leading_monomial_at K j) (leading_monomial_at K i) ≡ true =
      not_proper (divides (leading_monomial_at K i) (leading_monomial_at K j)) (divides (leading_monomial_at K j) (leading_monomial_at K i)) d e in
      let same : length (leading_monomial_at K i) ≡ length (leading_monomial_at K j) = lead_long (get_or K i []) a.0 ∙ sym (lead_long (get_or K j []) b.0) in
      let s : leading_monomial_at K i ≡ leading_monomial_at K j = divides_both (leading_monomial_at K i) (leading_monomial_at K j) same d back in
      by_places s (cases_order i j)
    where
      not_proper : (a b : Bool) → a ≡ true → (a && not b) ≡ false → b ≡ true
      not_proper true true d e = refl
      not_proper true false d e = absurd (cc)
      not_proper false b d e = absurd (cc)

      by_places : leading_monomial_at K i ≡ leading_monomial_at K j → (i ≡ j) ⊎ ((i < j) ⊎ (j < i)) → ⊥
      by_places s (inl e) = n e
      by_places s (inr (inl l)) =
          compared_not_self (order_of ring) (leading_monomial_at K j)
          (subst (λ m. compared (order_of ring) m (leading_monomial_at K j) ≡ Less) s (ascending_at ring K members_ascending i j l hj))
      by_places s (inr (inr l)) =
          compared_not_self (order_of ring) (leading_monomial_at K j)
          (subst (λ m. compared (order_of ring) (leading_monomial_at K j) m ≡ Less) s (ascending_at ring K members_ascending j i l hi))

  -- of a Gröbner basis they are a minimal one
  pub members_minimal : (F : List (List Term)) → IsGroebnerBasis ring G F → IsMinimal ring K F
  members_minimal F h = record {
    groebner = record {
      canonical = members_monic.canonical;
      members = each_kept (IsMember ring F) h.members;
      not_zero = each_kept (λ g. ¬ (g ≡ [])) h.not_zero;
      leads = λ f k member some.
          let i = lead_place G (leading_monomial f) (h.leads f k member some) in
          let c = covered (get_or G i.0 []) (in_at G i.0 i.1) in
          let j = place_of c.0 K c.1 in
          let same : length (leading_monomial c.0) ≡ length (leading_monomial_at G i.0) =
          lead_long c.0 (minimal_from c.0 c.1).0 ∙ sym (lead_at_length ring G pos ok i.0 i.1) in
          let d : divides (leading_monomial c.0) (leading_monomial f) ≡ true =
          divides_trans (leading_monomial c.0) (leading_monomial_at G i.0) (leading_monomial f) same c.2 i.2 in
          lead_at_place K (leading_monomial f) j.0 j.1 (subst (λ q. divides (leading_monomial q) (leading_monomial f) ≡ true) (sym j.2) d);
    };
    apart = of_two_places (λ f g. ¬ IsTrue (divides (leading_monomial f) (leading_monomial g))) K members_apart;
  }
