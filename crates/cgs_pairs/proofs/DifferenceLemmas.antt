-- The S-polynomial as two subtractions make it.
use Rattle.std.proofs.Common.{ℕ, ◌≡◌, ◌+◌, ◌-◌, ◌%◌, ◌<◌, Bool, true, false, Ok, Err, List, [], ◌∷◌, ◌++◌, length, refl, sym, ap, ◌∙◌, subst, arith}
use Rattle.std.proofs.Math.Nat.{mod-eq_of_lt}
use Rattle.std.specs.Prelude.{Result, IsErrAnd, IsErrOf}
use Rattle.cgs_field.proofs.PrimeLemmas.{modulus_field}
use Rattle.cgs_exps.specs.Monomial.{degree, quotient, lcm}
use Rattle.cgs_exps.proofs.MonomialLemmas.{quotient_length, lcm_length}
use Rattle.cgs_poly.specs.Ring.{Ring}
use Rattle.cgs_poly.specs.Polynomial.{Term, places, IsRing, IsOfRing, IsCanonical, HasLowDegrees, canonical, greatest_degree}
use Rattle.cgs_poly.specs.declared.fault.PolyFault.{PolyFault}
use Rattle.cgs_poly.specs.Product.{multiple, leading_monomial, top_degree}
use Rattle.cgs_poly.specs.Draft.{HaveLength}
use Rattle.cgs_poly.proofs.RingLemmas.{ring_positive}
use Rattle.cgs_poly.proofs.SumLemmas.{alike_same, alike_append}
use Rattle.cgs_poly.proofs.CanonicalLemmas.{canonical_of_ring, canonical_alike, canonical_same, is_canonical, append_of_ring, append_low, low_front}
use Rattle.cgs_poly.proofs.ProductLemmas.{multiple_of_ring, low_any, multiple_low, low_if_any, fits_unless}
use Rattle.cgs_poly.proofs.PlaceLemmas.{canonical_length}
use Rattle.cgs_algebra.specs.SPolynomial.{s_terms}

low_back : (f g : List Term) → HasLowDegrees (f ++ g) → HasLowDegrees g
low_back [] g h = h
low_back (x ∷ f) g h = low_back f g h.1

pub same_fault : {T : Type 0} (r : Result T PolyFault) (s e : PolyFault) → IsErrAnd r (λ k. k ≡ s) → IsErrOf r e → s ≡ e
same_fault (Ok x) s e h k = absurd (cc)
same_fault (Err y) s e h k = cc

pub passed_fault : {T : Type 0} (r : Result T PolyFault) (s e : PolyFault) → IsErrAnd r (λ k. k ≡ s) → s ≡ e → IsErrOf r e
passed_fault (Ok x) s e h k = absurd h
passed_fault (Err y) s e h k = ap Err (h ∙ k)

-- the numbers that the subtractions take: 1 and -1
pub one_is : (ring : Ring) → IsRing ring → 1 % ring.modulus ≡ 1
one_is ring r = mod-eq_of_lt (modulus_field ring.modulus r.modulus).two

pub opposite_is : (ring : Ring) (one opposite : ℕ) → IsRing ring → one ≡ 1 % ring.modulus
    → opposite ≡ (ring.modulus - one) % ring.modulus → opposite ≡ ring.modulus - 1
opposite_is ring one opposite r e f =
    let two : 1 < ring.modulus = (modulus_field ring.modulus r.modulus).two in
    let o : one ≡ 1 = e ∙ one_is ring r in
    let l : ring.modulus - 1 < ring.modulus = omega arith in
    f ∙ (ap (λ n. (ring.modulus - n) % ring.modulus) o ∙ mod-eq_of_lt l)

module _ (ring : Ring) (r : IsRing ring) (f g : List Term) (cf : IsCanonical ring f) (cg : IsCanonical ring g) (a b : List ℕ)
    (la : leading_monomial f ≡ a) (lb : leading_monomial g ≡ b) (pa : length a ≡ places ring) (pb : length b ≡ places ring) where
  pos : 0 < ring.modulus
  pos = ring_positive ring r

  two : 1 < ring.modulus
  two = (modulus_field ring.modulus r.modulus).two

  abbrev t : List ℕ
  t = quotient (lcm a b) a

  abbrev s : List ℕ
  s = quotient (lcm a b) b

  terms_are : s_terms ring f g ≡ multiple 1 t f ++ multiple (ring.modulus - 1) s g
  terms_are = rw (la, lb) refl

  long : length (lcm a b) ≡ places ring
  long = lcm_length a b (places ring) pa pb

  -- the first subtraction gives a multiple of f, the second the difference
  pub difference_is : (first difference : List Term) (opposite one : ℕ) → opposite ≡ ring.modulus - 1 → one ≡ 1
      → first ≡ canonical ring ([] ++ multiple (ring.modulus - opposite) t f)
      → difference ≡ canonical ring (first ++ multiple (ring.modulus - one) s g) → difference ≡ canonical ring (s_terms ring f g)
  difference_is first difference opposite one eo e1 ef ed =
      let m : List Term = multiple 1 t f in
      let n : List Term = multiple (ring.modulus - 1) s g in
      let back : ring.modulus - opposite ≡ 1 = omega (arith, eo, two) in
      let a1 : first ≡ canonical ring m = ef ∙ ap (λ k. canonical ring (multiple k t f)) back in
      let om : IsOfRing ring m = multiple_of_ring ring 1 t f (quotient_length (lcm a b) a (places ring) long pa) (canonical_of_ring ring f cf) in
      let on : IsOfRing ring n =
      multiple_of_ring ring (ring.modulus - 1) s g (quotient_length (lcm a b) b (places ring) long pb) (canonical_of_ring ring g cg) in
      let oc : IsOfRing ring (canonical ring m) = canonical_of_ring ring (canonical ring m) (is_canonical ring m pos om) in
      let a2 : difference ≡ canonical ring (canonical ring m ++ n) = ed ∙ rw (a1, e1) refl in
      let a3 : canonical ring (canonical ring m ++ n) ≡ canonical ring (m ++ n) =
      canonical_same ring (canonical ring m ++ n) (m ++ n) pos (append_of_ring ring (canonical ring m) n oc on)
      (append_of_ring ring m n om on) (alike_append (canonical_alike ring m pos om) (alike_same ring.modulus n)) in
      a2 ∙ (a3 ∙ ap (λ h. canonical ring h) (sym terms_are))

  pub both_low : (opposite one : ℕ) → HasLowDegrees (multiple opposite t f) → HasLowDegrees (multiple one s g) → HasLowDegrees (s_terms ring f g)
  both_low opposite one h k =
      rw terms_are (append_low (multiple 1 t f) (multiple (ring.modulus - 1) s g) (low_any opposite 1 t f h) (low_any one (ring.modulus - 1) s g k))

  pub first_high : (opposite : ℕ) → (HasLowDegrees (multiple opposite t f) → ⊥) → HasLowDegrees (s_terms ring f g) → ⊥
  first_high opposite n h = n (low_any 1 opposite t f (low_front (multiple 1 t f) (multiple (ring.modulus - 1) s g) (rw terms_are at h)))

  pub second_high : (one : ℕ) → (HasLowDegrees (multiple one s g) → ⊥) → HasLowDegrees (s_terms ring f g) → ⊥
  second_high one n h = n (low_any (ring.modulus - 1) one s g (low_back (multiple 1 t f) (multiple (ring.modulus - 1) s g) (rw terms_are at h)))

  -- what the test of the second multiple tells

  second_lengths : HaveLength (length s) g
  second_lengths = subst (λ n. HaveLength n g) (sym (quotient_length (lcm a b) b (places ring) long pb)) (canonical_length ring g cg)

  pub second_exceeds : (d : ℕ) → d ≡ degree s → (0 < length g) × (greatest_degree < d + top_degree g) → HasLowDegrees (s_terms ring f g) → ⊥
  second_exceeds d e q = second_high 1 (λ low. omega (arith, multiple_low 1 s g second_lengths q.0 low, q.1, e))

  pub second_fits : (tested : Bool) (d one : ℕ) → d ≡ degree s → tested ≡ false
      → ((0 < length g) × (greatest_degree < d + top_degree g) → tested ≡ true) → HasLowDegrees (multiple one s g)
  second_fits tested d one e failed h = low_if_any one s g second_lengths (fits_unless tested (degree s) d g e failed h)
