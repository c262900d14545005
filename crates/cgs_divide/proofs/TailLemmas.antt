-- A step by a monic divisor: the leading terms cancel, so the terms behind the divisor's lead are subtracted from those behind the leading term.
use Rattle.std.proofs.Common.{ℕ, ◌≡◌, ◌≤◌, ◌<◌, ◌+◌, ◌-◌, ◌*◌, ◌%◌, true, false, List, [], ◌∷◌, ◌++◌, length, take, drop}
use Rattle.std.proofs.Common.{refl, sym, ap, ◌∙◌, subst, arith}
use Rattle.std.proofs.Math.Nat.{zero-mod, mul-mod_right}
use Rattle.std.proofs.lemmas.List.{take_rest, take_at, drop_at, length-append}
use Rattle.cgs_list.proofs.ListLemmas.{all_drop}
use Rattle.cgs_field.proofs.ModularLemmas.{mod_add}
use Rattle.cgs_exps.specs.Monomial.{degree, product}
use Rattle.cgs_poly.specs.Ring.{Ring}
use Rattle.cgs_poly.specs.Polynomial.{Term, term, places, total, IsOfRing, HasLowDegrees, IsPoly, canonical, greatest_degree}
use Rattle.cgs_poly.specs.Product.{multiple, leading_monomial, leading_coefficient}
use Rattle.cgs_poly.specs.Flat.{terms_of, coefficients_of, exponents_of}
use Rattle.cgs_poly.specs.Draft.{HaveLength}
use Rattle.cgs_poly.proofs.ProductLemmas.{of_ring_drop}
use Rattle.cgs_poly.proofs.SumLemmas.{total_append, alike_same, alike_append, alike_back, alike_trans, Alike}
use Rattle.cgs_terms.proofs.FlatLemmas.{terms_drop, drop_flat}
use Rattle.cgs_poly.proofs.ProductLemmas.{multiple_of_ring, low_any, low_multiple, multiple_low, fits_any}
use Rattle.cgs_poly.proofs.CanonicalLemmas.{canonical_same, canonical_alike, canonical_of_ring, append_of_ring, append_low, canonical_poly, is_canonical}
use Rattle.cgs_divide.specs.DivisionRun.{is_too_high, less_multiple}
use Rattle.cgs_divide.specs.declared.rest.Rest.{Rest}
use Rattle.cgs_divide.specs.Rest.{left, IsRest}
use Rattle.cgs_divide.specs.Tops.{top_behind_lead}
use Rattle.cgs_divide.proofs.RestLemmas.{left_poly}
use Rattle.cgs_divide.proofs.StepLemmas.{high_unless_low, low_not_high}

-- the two slices of all terms, and those behind the first

pub record IsTail (p : ℕ) (g : List Term) (cs es : List ℕ) : Type 0 where
  pub flat : length es ≡ length cs * p
  pub terms : terms_of p cs es ≡ drop 1 g

pub slices : (p : ℕ) (g : List Term) → HaveLength p g
    → (length (exponents_of g) ≡ length (coefficients_of g) * p) × (terms_of p (coefficients_of g) (exponents_of g) ≡ g)
slices p [] h = (omega arith, refl)
slices p (x ∷ g) h =
    let ih = slices p g h.1 in
    let t : take p (x.exponents ++ exponents_of g) ≡ x.exponents = take_at x.exponents (exponents_of g) p h.0 in
    let d : drop p (x.exponents ++ exponents_of g) ≡ exponents_of g = drop_at x.exponents (exponents_of g) p h.0 in
    (omega (arith, length-append x.exponents (exponents_of g), ih.0, h.0), rw (t, d, ih.1) refl)

pub is_tail : (p : ℕ) (g : List Term) (cs es : List ℕ) → cs ≡ coefficients_of g → es ≡ exponents_of g → HaveLength p g
    → IsTail p g (take (length cs - 1) (drop 1 cs)) (take (length es - p) (drop p es))
is_tail p g cs es c e h =
    let one : 1 * p ≡ p = omega arith in
    let flat = drop_flat p 1 (coefficients_of g) (exponents_of g) (slices p g h).0 in
    let terms = terms_drop p 1 (coefficients_of g) (exponents_of g) ∙ ap (drop 1) (slices p g h).1 in
    rw (take_rest cs 1, take_rest es p, c, e) (record {
      flat = subst (λ n. length (drop n (exponents_of g)) ≡ length (drop 1 (coefficients_of g)) * p) one flat;
      terms = subst (λ n. terms_of p (drop 1 (coefficients_of g)) (drop n (exponents_of g)) ≡ drop 1 g) one terms;
    })

pub slices_long : (p : ℕ) (g : List Term) (cs es : List ℕ) → cs ≡ coefficients_of g → es ≡ exponents_of g → HaveLength p g → 0 < length g
    → (1 ≤ length cs) × (p ≤ length es)
slices_long p [] cs es c e h l = absurd (omega arith)
slices_long p (x ∷ g) cs es c e h l = rw (c, e) (omega arith, omega (arith, length-append x.exponents (exponents_of g), h.0))

-- the sum

gone : (p c x a v : ℕ) → c ≤ p → a ≡ x + (c * v + (p - c) * v) → x % p ≡ a % p
gone p c x a v l e =
    let s : c * v + (p - c) * v ≡ p * v = by_sum (p - c) (omega arith) in
    let z : (p * v) % p ≡ 0 = mul-mod_right p v in
    let k : (x + p * v) % p ≡ (x + 0) % p = mod_add p x x (p * v) 0 refl (z ∙ sym (zero-mod p)) in
    let q : x + 0 ≡ x = omega arith in
    sym (ap (λ n. n % p) e ∙ (ap (λ n. (x + n) % p) s ∙ (k ∙ ap (λ n. n % p) q)))
  where
    by_sum : (d : ℕ) → c + d ≡ p → c * v + d * v ≡ p * v
    by_sum d q = rw (← q) (omega arith)

less_tail : (ring : Ring) (c : ℕ) (m t : List ℕ) (f g : List Term) → 0 < ring.modulus → c < ring.modulus → IsOfRing ring (term c m ∷ f)
    → length t ≡ places ring → IsOfRing ring g → 0 < length g → leading_coefficient g ≡ 1 → product t (leading_monomial g) ≡ m
    → canonical ring (f ++ multiple (ring.modulus - c) t (drop 1 g)) ≡ less_multiple ring (term c m ∷ f) c t g
less_tail ring c m t f [] pos lc o l k some one e = absurd (omega arith)
less_tail ring c m t f (y ∷ g) pos lc o l k some one e =
    let d : ℕ = ring.modulus - c in
    canonical_same ring (f ++ multiple d t g) ((term c m ∷ f) ++ multiple d t (y ∷ g)) pos
    (append_of_ring ring f (multiple d t g) o.1 (multiple_of_ring ring d t g l k.1))
    (append_of_ring ring (term c m ∷ f) (multiple d t (y ∷ g)) o (multiple_of_ring ring d t (y ∷ g) l k))
    (record {
      under = λ w. gone ring.modulus c (total w (f ++ multiple d t g)) (total w ((term c m ∷ f) ++ multiple d t (y ∷ g))) (w m) (omega arith)
          (sums (w m) (w (product t y.exponents)) y.coefficient d (total w f) (total w (multiple d t g)) _ _ (ap w e) one
          (total_append w f (multiple d t g)) (total_append w f (multiple d t (y ∷ g))));
    })
  where
    sums : (v u y d a b x z : ℕ) → u ≡ v → y ≡ 1 → x ≡ a + b → z ≡ a + ((d * y) * u + b) → c * v + z ≡ x + (c * v + d * v)
    sums v u y d a b x z p q r s = let h : (d * y) * u ≡ d * v = rw (q, p) (omega arith) in omega arith

-- a list added to one of two that are put together
added_to_sum : (ring : Ring) (s g h k : List Term) → 0 < ring.modulus → IsOfRing ring s → IsOfRing ring g → IsOfRing ring h
    → k ≡ canonical ring (s ++ h) → canonical ring (k ++ g) ≡ canonical ring (canonical ring (s ++ g) ++ h)
added_to_sum ring s g h k pos os og oh e =
    let sh : IsOfRing ring (s ++ h) = append_of_ring ring s h os oh in
    let sg : IsOfRing ring (s ++ g) = append_of_ring ring s g os og in
    let csh : IsOfRing ring (canonical ring (s ++ h)) = canonical_of_ring ring (canonical ring (s ++ h)) (is_canonical ring (s ++ h) pos sh) in
    let csg : IsOfRing ring (canonical ring (s ++ g)) = canonical_of_ring ring (canonical ring (s ++ g)) (is_canonical ring (s ++ g) pos sg) in
    let moved : Alike ring.modulus ((s ++ h) ++ g) ((s ++ g) ++ h) = record {
      under = λ w. ap (λ n. n % ring.modulus) (omega (arith, total_append w (s ++ h) g, total_append w s h, total_append w (s ++ g) h, total_append w s g));
    } in
    ap (λ l. canonical ring (l ++ g)) e
    ∙ canonical_same ring (canonical ring (s ++ h) ++ g) (canonical ring (s ++ g) ++ h) pos (append_of_ring ring (canonical ring (s ++ h)) g csh og)
    (append_of_ring ring (canonical ring (s ++ g)) h csg oh)
    (alike_trans (alike_append (canonical_alike ring (s ++ h) pos sh) (alike_same ring.modulus g))
    (alike_trans moved (alike_append (alike_back (canonical_alike ring (s ++ g) pos sg)) (alike_same ring.modulus h))))

-- degrees

tail_low : (c d : ℕ) (m t : List ℕ) (g : List Term) → 0 < length g → product t (leading_monomial g) ≡ m → degree m ≤ greatest_degree
    → HasLowDegrees (multiple d t (drop 1 g)) → HasLowDegrees (multiple c t g)
tail_low c d m t [] some e l h = absurd (omega arith)
tail_low c d m t (y ∷ g) some e l h = (subst (λ n. degree n ≤ greatest_degree) (sym e) l, low_any d c t g h)

pub tail_high : (c d : ℕ) (t : List ℕ) (g : List Term) → ¬ HasLowDegrees (multiple d t (drop 1 g)) → is_too_high (multiple c t g) ≡ true
tail_high c d t [] n = absurd (n tt)
tail_high c d t (y ∷ g) n = high_unless_low (multiple c t (y ∷ g)) (λ low. n (low_any c d t g low.1))

pub tail_not_high : (c d : ℕ) (m t : List ℕ) (g : List Term) → 0 < length g → product t (leading_monomial g) ≡ m → degree m ≤ greatest_degree
    → HasLowDegrees (multiple d t (drop 1 g)) → is_too_high (multiple c t g) ≡ false
tail_not_high c d m t g some e l h = low_not_high (multiple c t g) (tail_low c d m t g some e l h)

-- whether the greatest degree fits

pub tail_fits : (d : ℕ) (t : List ℕ) (g : List Term) → HaveLength (length t) g → degree t + top_behind_lead g ≤ greatest_degree
    → HasLowDegrees (multiple d t (drop 1 g))
tail_fits d t g h l = low_multiple d t (drop 1 g) (all_drop (λ x. length x.exponents ≡ length t) 1 g h) l

pub tail_exceeds : (d : ℕ) (t : List ℕ) (g : List Term) → HaveLength (length t) g → degree t ≤ greatest_degree
    → greatest_degree < degree t + top_behind_lead g → ¬ HasLowDegrees (multiple d t (drop 1 g))
tail_exceeds d t g h l k low =
    omega (arith, k, fits_any (degree t) (drop 1 g) l (λ some. multiple_low d t (drop 1 g) (all_drop (λ x. length x.exponents ≡ length t) 1 g h) some low))

tail_of_ring : (ring : Ring) (d : ℕ) (t : List ℕ) (g : List Term) → length t ≡ places ring → IsPoly ring g → IsOfRing ring (multiple d t (drop 1 g))
tail_of_ring ring d t [] l h = tt
tail_of_ring ring d t (y ∷ g) l h = multiple_of_ring ring d t g l (canonical_of_ring ring g h.canonical.4)

-- the sum is a polynomial then
sum_poly : (ring : Ring) (d : ℕ) (t : List ℕ) (f g : List Term) → 0 < ring.modulus → IsPoly ring f → length t ≡ places ring → IsPoly ring g
    → HasLowDegrees (multiple d t (drop 1 g)) → IsPoly ring (canonical ring (f ++ multiple d t (drop 1 g)))
sum_poly ring d t f g pos p l q low =
    canonical_poly ring (f ++ multiple d t (drop 1 g)) pos
    (append_of_ring ring f (multiple d t (drop 1 g)) (canonical_of_ring ring f p.canonical) (tail_of_ring ring d t g l q))
    (append_low f (multiple d t (drop 1 g)) p.low low)

-- what a step leaves
module _ (ring : Ring) (f g : List Term) (r w : Rest) (c : ℕ) (t : List ℕ) (pos : 0 < ring.modulus) (poly : IsPoly ring f) (rest : IsRest ring f r)
    (divisor : IsPoly ring g) (long : length t ≡ places ring) (from : w.from ≡ r.from)
    (sum : w.sum.terms ≡ canonical ring (r.sum.terms ++ multiple (ring.modulus - c) t (drop 1 g))) where
  pub step_left : (m : List ℕ) → 0 < length g → leading_coefficient g ≡ 1 → product t (leading_monomial g) ≡ m → c < ring.modulus → length m ≡ places ring
      → left ring w f ≡ less_multiple ring (term c m ∷ left ring r f) c t g
  step_left m some one e below places =
      ap (λ n. canonical ring (w.sum.terms ++ drop n f)) from
      ∙ (added_to_sum ring r.sum.terms (drop r.from f) (multiple (ring.modulus - c) t (drop 1 g)) w.sum.terms pos
      (canonical_of_ring ring r.sum.terms rest.sum.canonical) (of_ring_drop ring r.from f (canonical_of_ring ring f poly.canonical))
      (tail_of_ring ring (ring.modulus - c) t g long divisor) sum
      ∙ less_tail ring c m t (left ring r f) g pos below
      (places, canonical_of_ring ring (left ring r f) (left_poly ring f r pos poly rest).canonical)
      long (canonical_of_ring ring g divisor.canonical) some one e)

  pub step_rest : w.sum.ring ≡ ring → HasLowDegrees (multiple (ring.modulus - c) t (drop 1 g)) → IsRest ring f w
  step_rest same low = record {
    same = same;
    sum = subst (IsPoly ring) (sym sum) (sum_poly ring (ring.modulus - c) t r.sum.terms g pos rest.sum long divisor low);
    from = omega (arith, from, rest.from);
  }
