-- Lists of polynomials with strictly ascending leads.
use Rattle.std.proofs.Common.{ℕ, zero, suc, ◌≡◌, ◌<◌, List, [], ◌∷◌, length, get_or, refl, sym, ◌∙◌, subst, arith}
use Rattle.std.specs.declared.cmp.Ordering.TheVariants.{Less}
use Rattle.cgs_order.specs.TermOrder.{compared}
use Rattle.cgs_order.proofs.OrderLemmas.{compared_trans, compared_not_self}
use Rattle.cgs_poly.specs.Ring.{Ring}
use Rattle.cgs_poly.specs.Polynomial.{Term, order_of}
use Rattle.cgs_poly.specs.Product.{leading_monomial}
use Rattle.cgs_algebra.specs.Groebner.{leading_monomial_at, IsAscending}

-- the first lead is below all others
above_first : (ring : Ring) (f : List Term) (G : List (List Term)) → IsAscending ring (f ∷ G)
    → (i : ℕ) → i < length G → compared (order_of ring) (leading_monomial f) (leading_monomial_at G i) ≡ Less
above_first ring f [] a i l = absurd (omega arith)
above_first ring f (g ∷ G) a zero l = a.0
above_first ring f (g ∷ G) a (suc i) l =
    compared_trans (order_of ring) (leading_monomial f) (leading_monomial g) (leading_monomial_at G i) a.0 (above_first ring g G a.1 i (omega arith))

pub ascending_rest : (ring : Ring) (f : List Term) (G : List (List Term)) → IsAscending ring (f ∷ G) → IsAscending ring G
ascending_rest ring f [] a = tt
ascending_rest ring f (g ∷ G) a = a.1

-- of two places the later has the higher lead
pub ascending_at : (ring : Ring) (G : List (List Term)) → IsAscending ring G → (i j : ℕ) → i < j
    → j < length G → compared (order_of ring) (leading_monomial_at G i) (leading_monomial_at G j) ≡ Less
ascending_at ring [] a i j h l = absurd (omega arith)
ascending_at ring (f ∷ G) a i zero h l = absurd (omega arith)
ascending_at ring (f ∷ G) a zero (suc j) h l = above_first ring f G a j (omega arith)
ascending_at ring (f ∷ G) a (suc i) (suc j) h l = ascending_at ring G (ascending_rest ring f G a) i j (omega arith) (omega arith)

-- a list with the same leads ascends too
pub ascending_by_leads : (ring : Ring) (G H : List (List Term)) → length H ≡ length G
    → ((i : ℕ) → i < length G → leading_monomial_at H i ≡ leading_monomial_at G i) → IsAscending ring G
    → IsAscending ring H
ascending_by_leads ring G [] l e a = tt
ascending_by_leads ring G (f ∷ []) l e a = tt
ascending_by_leads ring [] (f ∷ g ∷ H) l e a = absurd (omega arith)
ascending_by_leads ring (p ∷ []) (f ∷ g ∷ H) l e a = absurd (omega arith)
ascending_by_leads ring (p ∷ q ∷ G) (f ∷ g ∷ H) l e a =
    let first : leading_monomial f ≡ leading_monomial p = e 0 (omega arith) in
    let second : leading_monomial g ≡ leading_monomial q = e 1 (omega arith) in
    (rw (first, second) a.0, ascending_by_leads ring (q ∷ G) (g ∷ H) (omega arith) (λ i k. e (suc i) (omega arith)) a.1)

-- ascending lists with the same members are equal
pub same_ascending : (ring : Ring) (G H : List (List Term)) → IsAscending ring G → IsAscending ring H
    → ((i : ℕ) → i < length G → (j : ℕ) × (j < length H) × (get_or H j [] ≡ get_or G i []))
    → ((j : ℕ) → j < length H → (i : ℕ) × (i < length G) × (get_or G i [] ≡ get_or H j [])) → G ≡ H
same_ascending ring [] [] a b gh hg = refl
same_ascending ring [] (h ∷ H) a b gh hg = absurd (omega (arith, (hg 0 (omega arith)).1))
same_ascending ring (g ∷ G) [] a b gh hg = absurd (omega (arith, (gh 0 (omega arith)).1))
same_ascending ring (g ∷ G) (h ∷ H) a b gh hg =
    let first : g ≡ h = firsts (gh 0 (omega arith)) (hg 0 (omega arith)) in
    let rest : G ≡ H = same_ascending ring G H (ascending_rest ring g G a) (ascending_rest ring h H b)
    (λ i l. later g h G H a first i l (gh (suc i) (omega arith)))
    (λ j l. later h g H G b (sym first) j l (hg (suc j) (omega arith))) in
    cc
  where
    firsts : ((j : ℕ) × (j < suc (length H)) × (get_or (h ∷ H) j [] ≡ g)) → ((i : ℕ) × (i < suc (length G)) × (get_or (g ∷ G) i [] ≡ h)) → g ≡ h
    firsts j i = by_places j.0 j.1 j.2 i.0 i.1 i.2
      where
        by_places : (j : ℕ) → j < suc (length H) → get_or (h ∷ H) j [] ≡ g → (i : ℕ) → i < suc (length G) → get_or (g ∷ G) i [] ≡ h → g ≡ h
        by_places zero l e i k f = sym e
        by_places (suc j) l e zero k f = f
        by_places (suc j) l e (suc i) k f =
            let x : compared (order_of ring) (leading_monomial h) (leading_monomial g) ≡ Less =
            subst (λ q. compared (order_of ring) (leading_monomial h) (leading_monomial q) ≡ Less) e (above_first ring h H b j (omega arith)) in
            let y : compared (order_of ring) (leading_monomial g) (leading_monomial h) ≡ Less =
            subst (λ q. compared (order_of ring) (leading_monomial g) (leading_monomial q) ≡ Less) f (above_first ring g G a i (omega arith)) in
            absurd (compared_not_self (order_of ring) (leading_monomial h)
            (compared_trans (order_of ring) (leading_monomial h) (leading_monomial g) (leading_monomial h) x y))

    later : (g h : List Term) (G H : List (List Term)) → IsAscending ring (g ∷ G) → g ≡ h → (i : ℕ) → i < length G
        → ((j : ℕ) × (j < suc (length H)) × (get_or (h ∷ H) j [] ≡ get_or G i []))
        → (j : ℕ) × (j < length H) × (get_or H j [] ≡ get_or G i [])
    later g h G H a first i l j = by_place j.0 j.1 j.2
      where
        by_place : (j : ℕ) → j < suc (length H) → get_or (h ∷ H) j [] ≡ get_or G i [] → (j : ℕ) × (j < length H) × (get_or H j [] ≡ get_or G i [])
        by_place zero k e =
            let x : compared (order_of ring) (leading_monomial g) (leading_monomial g) ≡ Less =
            subst (λ q. compared (order_of ring) (leading_monomial g) (leading_monomial q) ≡ Less) (sym e ∙ sym first) (above_first ring g G a i l) in
            absurd (compared_not_self (order_of ring) (leading_monomial g) x)
        by_place (suc j) k e = (j, omega arith, e)
