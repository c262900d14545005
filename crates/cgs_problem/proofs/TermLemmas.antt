-- A polynomial is a list of terms of the ring that fall.
use Rattle.std.proofs.Common.{◌≡◌, ℕ, ◌+◌, ◌-◌, ◌≤◌, ◌↔◌, true, false, IsTrue, List, [], ◌∷◌, length, drop, Some, subst, sym, ap, ◌∙◌, arith}
use Rattle.std.proofs.lemmas.List.{length-drop}
use Rattle.std.specs.List.{slice_get, AllByRecursion}
use Rattle.std.specs.declared.cmp.Ordering.{Ordering}
use Rattle.std.specs.declared.cmp.Ordering.TheVariants.{Less}
use Rattle.cgs_order.specs.declared.block.BlockOrder.{BlockOrder}
use Rattle.cgs_order.specs.TermOrder.{compared}
use Rattle.cgs_poly.specs.Ring.{Ring}
use Rattle.cgs_poly.specs.Polynomial.{Term, IsRing, IsPoly, IsCanonical, HasLowDegrees, places, order_of}
use Rattle.cgs_problem.specs.Terms.{IsTermOf, Falls}
use Rattle.cgs_list.proofs.ListLemmas.{is_false, is_true, drop_at, all_at}

terms_of : (ring : Ring) (f : List Term) → IsCanonical ring f → HasLowDegrees f → AllByRecursion (IsTermOf ring) f
terms_of ring [] c l = tt
terms_of ring (x ∷ f) c l = (record { positive = c.0; below = c.1; long = c.2; low = l.0 }, terms_of ring f c.4 l.1)

falling : (ring : Ring) (f : List Term) → IsCanonical ring f → Falls ring f
falling ring [] c = tt
falling ring (x ∷ f) c = (c.3, falling ring f c.4)

canonical_of : (ring : Ring) (f : List Term) → AllByRecursion (IsTermOf ring) f → Falls ring f → IsCanonical ring f
canonical_of ring [] terms falls = tt
canonical_of ring (x ∷ f) terms falls = (terms.0.positive, terms.0.below, terms.0.long, falls.0, canonical_of ring f terms.1 falls.1)

low_of : (ring : Ring) (f : List Term) → AllByRecursion (IsTermOf ring) f → HasLowDegrees f
low_of ring [] terms = tt
low_of ring (x ∷ f) terms = (terms.0.low, low_of ring f terms.1)

pub poly_terms : (ring : Ring) (f : List Term) → IsPoly ring f → AllByRecursion (IsTermOf ring) f
poly_terms ring f poly = terms_of ring f poly.canonical poly.low

pub poly_falls : (ring : Ring) (f : List Term) → IsPoly ring f → Falls ring f
poly_falls ring f poly = falling ring f poly.canonical

pub poly_of : (ring : Ring) (f : List Term) → AllByRecursion (IsTermOf ring) f → Falls ring f → IsPoly ring f
poly_of ring f terms falls = record { canonical = canonical_of ring f terms falls; low = low_of ring f terms }

pub ring_places : (ring : Ring) → IsRing ring → places ring ≤ 17
ring_places ring valid = omega (arith, valid.variables, valid.parameters)

pub term_length : (ring : Ring) (f : List Term) (i : ℕ) (x : Term) → AllByRecursion (IsTermOf ring) f → slice_get f i ≡ Some x
    → length x.exponents ≡ places ring
term_length ring f i x terms e = (all_at (IsTermOf ring) f i x terms e).long

pub poly_length : (ring : Ring) (f : List Term) (i : ℕ) (x : Term) → IsPoly ring f → slice_get f i ≡ Some x → length x.exponents ≡ places ring
poly_length ring f i x poly e = term_length ring f i x (poly_terms ring f poly) e

pub compared_in : (ring : Ring) (order : BlockOrder) (a b : List ℕ) (answer : Ordering) → answer ≡ compared order a b → order ≡ order_of ring
    → answer ≡ compared (order_of ring) a b
compared_in ring order a b answer e same = e ∙ ap (λ (o : BlockOrder). compared o a b) same

-- the two terms that a step compares, before the rest
two_at : (ring : Ring) (all : Type 0) (f : List Term) (i : ℕ) (x y : Term) → 1 ≤ i → slice_get f (i - 1) ≡ Some x → slice_get f i ≡ Some y
    → (Falls ring (drop (i - 1) f) ↔ all)
    → ((compared (order_of ring) y.exponents x.exponents ≡ Less) × Falls ring (drop i f)) ↔ all
two_at ring all f i x y one ex ey so_far =
    let next : i - 1 + 1 ≡ i = omega arith in
    let rest : drop (i - 1) f ≡ x ∷ drop i f = drop_at f (i - 1) x ex ∙ ap (λ k. x ∷ drop k f) next in
    let second : drop i f ≡ y ∷ drop (i + 1) f = drop_at f i y ey in
    let here = subst (λ g. Falls ring g ↔ all) (rest ∙ ap (λ g. x ∷ g) second) so_far in
    subst (λ g. ((compared (order_of ring) y.exponents x.exponents ≡ Less) × Falls ring g) ↔ all) (sym second) here

-- a step at which the monomials fall, one at which they do not, and the end
pub falls_on : (ring : Ring) (all : Type 0) (f : List Term) (i : ℕ) (x y : Term) → 1 ≤ i → slice_get f (i - 1) ≡ Some x → slice_get f i ≡ Some y
    → compared (order_of ring) y.exponents x.exponents ≡ Less
    → (Falls ring (drop (i - 1) f) ↔ all) → Falls ring (drop (i + 1 - 1) f) ↔ all
falls_on ring all f i x y one ex ey less so_far =
    let here = two_at ring all f i x y one ex ey so_far in
    let same : i ≡ i + 1 - 1 = omega arith in
    subst (λ k. Falls ring (drop k f) ↔ all) same ((λ rest. here.0 (less, rest)), (λ whole. (here.1 whole).1))

pub falls_not : (ring : Ring) (all : Type 0) (f : List Term) (i : ℕ) (x y : Term) → 1 ≤ i → slice_get f (i - 1) ≡ Some x → slice_get f i ≡ Some y
    → ¬ (compared (order_of ring) y.exponents x.exponents ≡ Less)
    → (Falls ring (drop (i - 1) f) ↔ all) → IsTrue false ↔ all
falls_not ring all f i x y one ex ey never so_far =
    let here = two_at ring all f i x y one ex ey so_far in
    is_false (λ whole. never (here.1 whole).0)

one_falls : (ring : Ring) (g : List Term) → length g ≤ 1 → Falls ring g
one_falls ring [] le = tt
one_falls ring (x ∷ []) le = (tt, tt)
one_falls ring (x ∷ y ∷ g) le = absurd (omega arith)

pub falls_to_end : (ring : Ring) (all : Type 0) (f : List Term) (i : ℕ) → length f ≤ i → (Falls ring (drop (i - 1) f) ↔ all) → IsTrue true ↔ all
falls_to_end ring all f i le so_far =
    let short : length (drop (i - 1) f) ≤ 1 = omega (arith, length-drop (i - 1) f) in
    is_true (so_far.0 (one_falls ring (drop (i - 1) f) short))
