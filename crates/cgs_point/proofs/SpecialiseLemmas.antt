-- What a part of a polynomial becomes at a point.
use Rattle.std.proofs.Common.{ℕ, ◌≡◌, ◌-◌, ◌*◌, ◌%◌, ◌<◌, ◌≤◌, false, Some, List, [], ◌∷◌, ◌++◌, take, drop, refl, sym, ap, ◌∙◌, arith, eqb, add-zero}
use Rattle.std.proofs.lemmas.Bool.{eq-eqb, ne_eqb}
use Rattle.std.proofs.lemmas.List.Sums.{sum_by-take-le}
use Rattle.std.specs.Prelude.{slice_get}
use Rattle.cgs_poly.specs.Ring.{Ring}
use Rattle.cgs_poly.specs.Polynomial.{Term, term, IsRing, IsOfRing, IsPoly, HasLowDegrees, canonical}
use Rattle.cgs_poly.specs.Parameters.{power_at, value_at, variables_ring, specialised_terms, specialised}
use Rattle.cgs_poly.proofs.CanonicalLemmas.{canonical_append, canonical_poly, canonical_of_ring}
use Rattle.cgs_poly.proofs.PlaceLemmas.{take_one}
use Rattle.cgs_poly.proofs.ProductLemmas.{low_take, low_drop, of_ring_take, of_ring_drop, halves}
use Rattle.cgs_poly.proofs.RingLemmas.{ring_positive}
use Rattle.cgs_poly.proofs.SpecialisedLemmas.{specialised_of_ring, terms_append}

-- degrees

specialised_low : (ring : Ring) (a : List ℕ) (f : List Term) → HasLowDegrees f → HasLowDegrees (specialised_terms ring a f)
specialised_low ring a [] h = tt
specialised_low ring a (x ∷ f) h = (omega (arith, sum_by-take-le (λ n. n) x.exponents ring.variables, h.0), specialised_low ring a f h.1)

specialised_poly_of : (ring : Ring) (a : List ℕ) (f : List Term) → 0 < ring.modulus → IsOfRing ring f
    → HasLowDegrees f → IsPoly (variables_ring ring) (specialised ring a f)
specialised_poly_of ring a f pos h l =
    canonical_poly (variables_ring ring) (specialised_terms ring a f) pos (specialised_of_ring ring a f h) (specialised_low ring a f l)

pub part_poly : (ring : Ring) (a : List ℕ) (f : List Term) (from n : ℕ) → IsRing ring → IsPoly ring f
    → IsPoly (variables_ring ring) (specialised ring a (take n (drop from f)))
part_poly ring a f from n r h =
    specialised_poly_of ring a (take n (drop from f)) (ring_positive ring r)
    (of_ring_take ring n (drop from f) (of_ring_drop ring from f (canonical_of_ring ring f h.canonical))) (low_take n (drop from f) (low_drop from f h.low))

-- both halves together
pub specialised_halves : (ring : Ring) (a : List ℕ) (f : List Term) (from half to : ℕ) (first second : List Term)
    → IsRing ring → IsPoly ring f → from ≤ half → half ≤ to
    → first ≡ specialised ring a (take (half - from) (drop from f)) → second ≡ specialised ring a (take (to - half) (drop half f))
    → canonical (variables_ring ring) (first ++ second) ≡ specialised ring a (take (to - from) (drop from f))
specialised_halves ring a f from half to first second r h l k p q =
    let pos = ring_positive ring r in
    let of_ring = canonical_of_ring ring f h.canonical in
    let x : List Term = take (half - from) (drop from f) in
    let y : List Term = take (to - half) (drop half f) in
    let hx = specialised_of_ring ring a x (of_ring_take ring (half - from) (drop from f) (of_ring_drop ring from f of_ring)) in
    let hy = specialised_of_ring ring a y (of_ring_take ring (to - half) (drop half f) (of_ring_drop ring half f of_ring)) in
    cc (p, q) ∙ (sym (canonical_append (variables_ring ring) (specialised_terms ring a x) (specialised_terms ring a y) pos hx hy)
    ∙ ap (canonical (variables_ring ring)) (sym (terms_append ring a pos x y) ∙ ap (specialised_terms ring a) (halves from half to f l k)))

-- one term

pub specialised_none : (ring : Ring) (a : List ℕ) (f : List Term) (i value : ℕ)
    → value ≡ value_at ring a (take 1 (drop i f)) → value ≡ 0 → specialised ring a (take 1 (drop i f)) ≡ []
specialised_none ring a f i value v z = by_list (drop i f) (sym v ∙ z)
  where
    by_list : (g : List Term) → value_at ring a (take 1 g) ≡ 0 → specialised ring a (take 1 g) ≡ []
    by_list [] e = refl
    by_list (y ∷ g) e =
        let c : ℕ = y.coefficient * power_at (drop ring.variables y.exponents) a in
        let s : c % ring.modulus ≡ 0 = ap (λ n. n % ring.modulus) (sym (add-zero c)) ∙ e in
        rw (eq-eqb (c % ring.modulus) 0 s) refl

pub specialised_some : (ring : Ring) (a : List ℕ) (f : List Term) (i value c : ℕ) (m x : List ℕ) → value ≡ value_at ring a (take 1 (drop i f)) → ¬ (value ≡ 0)
    → slice_get f i ≡ Some (term c m) → x ≡ take ring.variables m → term value x ∷ [] ≡ specialised ring a (take 1 (drop i f))
specialised_some ring a f i value c m x v n get cut =
    let t : take 1 (drop i f) ≡ term c m ∷ [] = take_one f i 1 (term c m) get refl in
    let d : ℕ = c * power_at (drop ring.variables m) a in
    let s : value ≡ d % ring.modulus = v ∙ (ap (value_at ring a) t ∙ ap (λ n. n % ring.modulus) (add-zero d)) in
    let b : eqb (d % ring.modulus) 0 ≡ false = ne_eqb (d % ring.modulus) 0 (λ e. n (s ∙ e)) in
    let one : specialised ring a (term c m ∷ []) ≡ term (d % ring.modulus) (take ring.variables m) ∷ [] = rw b refl in
    cc (s, cut) ∙ (sym one ∙ ap (specialised ring a) (sym t))
