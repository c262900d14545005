-- The sum of terms in any order: its parts are terms too, and it is the sum of the sums of its halves.
use Rattle.std.proofs.Common.{ℕ, zero, suc, ◌≡◌, ◌+◌, ◌-◌, ◌<◌, ◌≤◌, ◌↔◌, Bool, IsTrue, Some, List, [], ◌∷◌, ◌++◌, length, take, drop}
use Rattle.std.proofs.Common.{refl, sym, ap, ◌∙◌, subst, arith, add-one}
use Rattle.std.specs.List.{slice_get, AllByRecursion}
use Rattle.std.specs.declared.cmp.Ordering.TheVariants.{Less, Equal, Greater}
use Rattle.std.specs.declared.cmp.Ordering.{Ordering}
use Rattle.std.specs.Ordering.{is_lt}
use Rattle.std.proofs.lemmas.List.{take_all}
use Rattle.cgs_list.proofs.ListLemmas.{all_take, all_drop}
use Rattle.cgs_poly.specs.Ring.{Ring}
use Rattle.cgs_poly.specs.Polynomial.{Term, IsTerm, IsOfRing, IsCanonical, IsPoly, HasLowDegrees, places, order_of, canonical, coefficient}
use Rattle.cgs_poly.specs.Draft.{HaveLength}
use Rattle.cgs_poly.specs.Sum.{FallsAfter}
use Rattle.cgs_order.specs.TermOrder.{compared}
use Rattle.cgs_poly.proofs.CanonicalLemmas.{canonical_append, canonical_itself, coefficient_canonical}
use Rattle.cgs_poly.proofs.ProductLemmas.{halves}

-- so many terms from a place on
abbrev pub part_of : ℕ → ℕ → List Term → List Term
part_of from to f = take (to - from) (drop from f)

pub part_terms : (ring : Ring) (from to : ℕ) (f : List Term) → AllByRecursion (IsTerm ring) f → AllByRecursion (IsTerm ring) (part_of from to f)
part_terms ring from to f all = all_take (IsTerm ring) (to - from) (drop from f) (all_drop (IsTerm ring) from f all)

pub terms_of_ring : (ring : Ring) (f : List Term) → AllByRecursion (IsTerm ring) f → IsOfRing ring f
terms_of_ring ring [] all = tt
terms_of_ring ring (x ∷ f) all = (all.0.places, terms_of_ring ring f all.1)

-- terms of the ring, as a term is put after them
pub terms_have_length : (ring : Ring) (f : List Term) → AllByRecursion (IsTerm ring) f → HaveLength (places ring) f
terms_have_length ring [] all = tt
terms_have_length ring (x ∷ f) all = (all.0.places, terms_have_length ring f all.1)

pub terms_low : (ring : Ring) (f : List Term) → AllByRecursion (IsTerm ring) f → HasLowDegrees f
terms_low ring [] all = tt
terms_low ring (x ∷ f) all = (all.0.low, terms_low ring f all.1)

-- canonical terms are their own sum
pub canonical_sum : (ring : Ring) (f g h : List Term) → 0 < ring.modulus → IsCanonical ring g → h ≡ g → g ≡ f → h ≡ canonical ring f
canonical_sum ring f g h positive c p q = p ∙ (sym (canonical_itself ring g positive c) ∙ ap (canonical ring) q)

pub canonical_terms : (ring : Ring) (f g : List Term) → IsCanonical ring f → AllByRecursion (IsTerm ring) f → g ≡ f → IsPoly ring g
canonical_terms ring f g c all e = subst (IsPoly ring) (sym e) (record { canonical = c; low = terms_low ring f all })

-- one term more at the front

pub falls_last : (ring : Ring) (i : ℕ) (f : List Term) → length f - i ≡ 1 → FallsAfter ring i f
falls_last ring i [] e = tt
falls_last ring zero (x ∷ []) e = tt
falls_last ring zero (x ∷ y ∷ f) e = absurd (omega arith)
falls_last ring (suc i) (x ∷ f) e = falls_last ring i f (omega arith)

falls_by : (ring : Ring) (i : ℕ) (f : List Term) (x y : Term) → slice_get f i ≡ Some x → slice_get f (i + 1) ≡ Some y
    → (compared (order_of ring) y.exponents x.exponents ≡ Less) ↔ FallsAfter ring i f
falls_by ring i [] x y p q = cc
falls_by ring zero (z ∷ []) x y p q = cc
falls_by ring zero (z ∷ u ∷ f) x y p q =
    let a : z ≡ x = cc in
    let b : u ≡ y = cc in
    subst (λ (v : Term). (compared (order_of ring) y.exponents v.exponents ≡ Less) ↔ (compared (order_of ring) u.exponents z.exponents ≡ Less)) a
    (subst (λ (v : Term). (compared (order_of ring) v.exponents z.exponents ≡ Less) ↔ (compared (order_of ring) u.exponents z.exponents ≡ Less)) b
    ((λ h. h), (λ h. h)))
falls_by ring (suc i) (z ∷ f) x y p q = falls_by ring i f x y p (rw add-one (rw add-one at q))

less : (o : Ordering) → IsTrue (is_lt o) ↔ (o ≡ Less)
less Less = ((λ e. refl), (λ e. refl))
less Equal = ((λ e. cc), (λ e. cc))
less Greater = ((λ e. cc), (λ e. cc))

pub falls_exactly : (ring : Ring) (i : ℕ) (f : List Term) (x y : Term) (o : Ordering) (b : Bool) → slice_get f i ≡ Some x → slice_get f (i + 1) ≡ Some y
    → o ≡ compared (order_of ring) y.exponents x.exponents → b ≡ is_lt o → IsTrue b ↔ FallsAfter ring i f
falls_exactly ring i f x y o b p q e d =
    let s = falls_by ring i f x y p q in
    let t = less o in
    ((λ h. s.0 (sym e ∙ t.0 (sym d ∙ h))), (λ h. d ∙ t.1 (e ∙ s.1 h)))

pub canonical_before : (ring : Ring) (k i : ℕ) (f : List Term) (x : Term) → suc k ≡ i → slice_get f k ≡ Some x → AllByRecursion (IsTerm ring) f
    → 0 < x.coefficient → FallsAfter ring k f → IsCanonical ring (drop i f) → IsCanonical ring (drop k f)
canonical_before ring k zero f x n e all s b c = absurd (omega arith)
canonical_before ring k (suc i) [] x n e all s b c = absurd (cc)
canonical_before ring zero (suc i) (y ∷ f) x n e all s b c =
    let same : y ≡ x = cc in
    let z : i ≡ 0 = omega arith in
    (subst (λ (v : Term). 0 < v.coefficient) (sym same) s, all.0.below, all.0.places, b, subst (λ j. IsCanonical ring (drop j f)) z c)
canonical_before ring (suc k) (suc i) (y ∷ f) x n e all s b c = canonical_before ring k i f x (omega arith) e all.1 s b c

-- a term of a canonical list
pub canonical_falls : (ring : Ring) (k : ℕ) (f : List Term) → IsCanonical ring f → FallsAfter ring k f
canonical_falls ring k [] c = tt
canonical_falls ring zero (x ∷ f) c = c.3
canonical_falls ring (suc k) (x ∷ f) c = canonical_falls ring k f c.4

pub sum_of_halves : (ring : Ring) (from half to : ℕ) (f first second : List Term) → 0 < ring.modulus → AllByRecursion (IsTerm ring) f
    → from ≤ half → half ≤ to → first ≡ canonical ring (part_of from half f) → second ≡ canonical ring (part_of half to f)
    → canonical ring (first ++ second) ≡ canonical ring (part_of from to f)
sum_of_halves ring from half to f first second positive all low high first_is second_is =
    let before = terms_of_ring ring (part_of from half f) (part_terms ring from half f all) in
    let after = terms_of_ring ring (part_of half to f) (part_terms ring half to f all) in
    ap (λ x. canonical ring (x ++ second)) first_is
    ∙ (ap (λ x. canonical ring (canonical ring (part_of from half f) ++ x)) second_is
    ∙ (sym (canonical_append ring (part_of from half f) (part_of half to f) positive before after)
    ∙ ap (canonical ring) (halves from half to f low high)))

-- all terms, as a part of themselves
pub whole : (f : List Term) (n : ℕ) → n ≡ length f → part_of 0 n f ≡ f
whole f n e = take_all (n - 0) f (omega (arith, e))

-- the sum of all terms, and its coefficients
pub sum_of_all : (ring : Ring) (f h : List Term) (n : ℕ) → n ≡ length f → h ≡ canonical ring (part_of 0 n f) → h ≡ canonical ring f
sum_of_all ring f h n e h_is = h_is ∙ ap (canonical ring) (whole f n e)

pub sum_coefficients : (ring : Ring) (f h : List Term) → 0 < ring.modulus → AllByRecursion (IsTerm ring) f
    → h ≡ canonical ring f → (m : List ℕ) → coefficient ring.modulus h m ≡ coefficient ring.modulus f m
sum_coefficients ring f h positive all h_is m =
    ap (λ x. coefficient ring.modulus x m) h_is ∙ coefficient_canonical ring f m positive (terms_of_ring ring f all)
