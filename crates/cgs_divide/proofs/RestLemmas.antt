-- What is left of a polynomial, and what is left of it when its leading term is taken away.
use Rattle.std.proofs.Common.{ℕ, zero, suc, ◌≡◌, ◌+◌, ◌%◌, ◌<◌, ◌∷◌, ◌++◌, false, eqb, Some, None, List, [], length, drop, refl, sym, ap, ◌∙◌, subst, arith}
use Rattle.std.proofs.lemmas.Bool.{ne_eqb}
use Rattle.std.proofs.lemmas.List.{drop-drop}
use Rattle.std.specs.Prelude.{Option, slice_get, IfSome}
use Rattle.std.specs.declared.cmp.Ordering.TheVariants.{Less, Equal, Greater}
use Rattle.cgs_order.specs.TermOrder.{compared}
use Rattle.cgs_order.proofs.OrderLemmas.{compared_back, compared_equal}
use Rattle.cgs_poly.specs.Ring.{Ring}
use Rattle.cgs_poly.specs.Polynomial.{Term, term, order_of, StartsBelow, IsCanonical, IsPoly, kept, canonical}
use Rattle.cgs_terms.proofs.MergeLemmas.{merge_left, merge_right, merge_both}
use Rattle.cgs_poly.proofs.CanonicalLemmas.{canonical_itself, poly_sum}
use Rattle.cgs_poly.proofs.PlaceLemmas.{canonical_drop}
use Rattle.cgs_poly.proofs.ProductLemmas.{low_drop}
use Rattle.cgs_divide.specs.declared.rest.Rest.{Rest}
use Rattle.cgs_divide.specs.Rest.{left, against, IsRest}

pub poly_drop : (ring : Ring) (f : List Term) → IsPoly ring f → IsPoly ring (drop 1 f)
poly_drop ring [] h = h
poly_drop ring (x ∷ f) h = record { canonical = h.canonical.4; low = h.low.1 }

first_of : (f : List Term) (x : Term) → slice_get f 0 ≡ Some x → f ≡ x ∷ drop 1 f
first_of [] x e = absurd (cc)
first_of (y ∷ f) x e = let s : y ≡ x = cc in ap (λ z. z ∷ f) s

drop_one : (f : List Term) (i : ℕ) → drop (i + 1) f ≡ drop 1 (drop i f)
drop_one f i = let s : i + 1 ≡ 1 + i = omega arith in sym (drop-drop 1 i f)

pub read_own : (f : List Term) (i : ℕ) → slice_get (drop i f) 0 ≡ slice_get f i
read_own f zero = refl
read_own [] (suc i) = refl
read_own (x ∷ f) (suc i) = read_own f i

pub against_at : (ring : Ring) (m : List ℕ) (f : List Term) (i : ℕ) (x : Term) → slice_get f i ≡ Some x
    → against ring m (drop i f) ≡ compared (order_of ring) m x.exponents
against_at ring m [] i x e = absurd (cc)
against_at ring m (y ∷ f) zero x e = let s : y ≡ x = cc in ap (λ (z : Term). compared (order_of ring) m z.exponents) s
against_at ring m (y ∷ f) (suc i) x e = against_at ring m f i x e

pub read_within : (f : List Term) (i : ℕ) (x : Term) → slice_get f i ≡ Some x → i < length f
read_within [] i x e = absurd (cc)
read_within (y ∷ f) zero x e = omega arith
read_within (y ∷ f) (suc i) x e = omega (arith, read_within f i x e)

-- what follows of an answer
pub if_some_so : {P Q : ℕ → Type 0} (o : Option ℕ) → ((c : ℕ) → P c → Q c) → IfSome o P → IfSome o Q
if_some_so None k h = tt
if_some_so (Some c) k h = k c h

-- what is left is a polynomial
pub left_poly : (ring : Ring) (f : List Term) (r : Rest) → 0 < ring.modulus → IsPoly ring f → IsRest ring f r → IsPoly ring (left ring r f)
left_poly ring f r pos h rest =
    poly_sum ring r.sum.terms (drop r.from f) pos rest.sum
    (record { canonical = canonical_drop ring r.from f h.canonical; low = low_drop r.from f h.low })

-- one list of terms is empty
pub nothing_summed : (ring : Ring) (s g : List Term) → 0 < ring.modulus → IsCanonical ring g → s ≡ [] → canonical ring (s ++ g) ≡ g
nothing_summed ring s g pos h e = ap (λ k. canonical ring (k ++ g)) e ∙ canonical_itself ring g pos h

-- a term at the front of one of two lists that is above the other list
module _ (ring : Ring) (pos : 0 < ring.modulus) (s g : List Term) (x : Term)
    (hs : IsCanonical ring s) (hg : IsCanonical ring g) (first : slice_get s 0 ≡ Some x) where
  front : IsCanonical ring (x ∷ drop 1 s)
  front = subst (IsCanonical ring) (first_of s x first) hs

  starts_below : (g : List Term) → against ring x.exponents g ≡ Greater → StartsBelow ring x.exponents g
  starts_below [] e = tt
  starts_below (y ∷ g) e = compared_back (order_of ring) x.exponents y.exponents e

  pub summed_first : against ring x.exponents g ≡ Greater → canonical ring (s ++ g) ≡ x ∷ canonical ring (drop 1 s ++ g)
  summed_first above =
      ap (λ k. canonical ring (k ++ g)) (first_of s x first) ∙ merge_left ring pos x (drop 1 s) g front hg (starts_below g above)

  pub own_first : (y : Term) (h : List Term) → against ring x.exponents g ≡ Less → g ≡ y ∷ h → canonical ring (s ++ g) ≡ y ∷ canonical ring (s ++ h)
  own_first y h e k =
      let less : against ring x.exponents (y ∷ h) ≡ Less = subst (λ l. against ring x.exponents l ≡ Less) k e in
      let below : StartsBelow ring y.exponents s = subst (StartsBelow ring y.exponents) (sym (first_of s x first)) less in
      ap (λ l. canonical ring (s ++ l)) k ∙ merge_right ring pos y s h hs (subst (IsCanonical ring) k hg) below

  pub both_first : (y : Term) → slice_get g 0 ≡ Some y → against ring x.exponents g ≡ Equal
      → canonical ring (s ++ g) ≡ kept ring (x.coefficient + y.coefficient) x.exponents (canonical ring (drop 1 s ++ drop 1 g))
  both_first y own e =
      let k : g ≡ y ∷ drop 1 g = first_of g y own in
      let hy : IsCanonical ring (y ∷ drop 1 g) = subst (IsCanonical ring) k hg in
      let c : compared (order_of ring) x.exponents y.exponents ≡ Equal = subst (λ l. against ring x.exponents l ≡ Equal) k e in
      let q : x.exponents ≡ y.exponents = compared_equal (order_of ring) x.exponents y.exponents (front.2 ∙ sym hy.2) c in
      ap (λ l. canonical ring (l ++ g)) (first_of s x first)
      ∙ (ap (λ l. canonical ring ((x ∷ drop 1 s) ++ l)) k
      ∙ merge_both ring pos x y (drop 1 s) (drop 1 g) front hy q)

-- the terms of one monomial together

pub gone : (ring : Ring) (c n : ℕ) (m : List ℕ) (f : List Term) → n ≡ c % ring.modulus → n ≡ 0 → kept ring c m f ≡ f
gone ring c n m f e z = let q : c % ring.modulus ≡ 0 = sym e ∙ z in rw q refl

pub stays : (ring : Ring) (c n : ℕ) (m : List ℕ) (f : List Term) → n ≡ c % ring.modulus → 0 < n → kept ring c m f ≡ term n m ∷ f
stays ring c n m f e p =
    let t : eqb n 0 ≡ false = ne_eqb n 0 (λ z. omega (arith, z, p)) in
    rw (← e, t) refl

-- what is left behind a term that was taken from the sum, or from both
module _ (ring : Ring) (r w : Rest) (f terms : List Term) (same : w ≡ r) (dropped : terms ≡ drop 1 w.sum.terms) where
  pub behind_summed : canonical ring (terms ++ drop w.from f) ≡ canonical ring (drop 1 r.sum.terms ++ drop r.from f)
  behind_summed =
      ap (λ k. canonical ring (k ++ drop w.from f)) dropped ∙ ap (λ (v : Rest). canonical ring (drop 1 v.sum.terms ++ drop v.from f)) same

  pub behind_both : canonical ring (terms ++ drop (w.from + 1) f) ≡ canonical ring (drop 1 r.sum.terms ++ drop 1 (drop r.from f))
  behind_both =
      ap (λ k. canonical ring (k ++ drop (w.from + 1) f)) dropped
      ∙ (ap (λ k. canonical ring (drop 1 w.sum.terms ++ k)) (drop_one f w.from)
      ∙ ap (λ (v : Rest). canonical ring (drop 1 v.sum.terms ++ drop 1 (drop v.from f))) same)
