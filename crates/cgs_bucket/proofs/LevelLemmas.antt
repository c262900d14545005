-- Levels as lists of terms, and what their sum becomes.
use Rattle.std.proofs.Common.{ℕ, zero, suc, ◌≡◌, ◌≤◌, ◌<◌, ◌+◌, ◌-◌, ◌*◌, ◌%◌, List, [], ◌∷◌, ◌++◌, length, take, drop, get_or, set, Some, append_assoc, refl}
use Rattle.std.proofs.Common.{sym, ap, ◌∙◌, subst, arith}
use Rattle.std.specs.Prelude.{slice_get}
use Rattle.std.proofs.lemmas.Nat.{mul-mod_first}
use Rattle.std.proofs.lemmas.List.{length-drop, length-append, length-set, length-take-le, get_or-set_other, get_or-take, append-nil}
use Rattle.cgs_field.proofs.ModularLemmas.{mod_add, mod_cancel}
use Rattle.cgs_terms.specs.declared.ring.Ring.{Ring}
use Rattle.cgs_terms.specs.Polynomial.{Term, term, places, total, IsOfRing, StartsBelow, HasLowDegrees, IsPoly, ArePolys, canonical}
use Rattle.cgs_terms.specs.Product.{leading_monomial, leading_coefficient}
use Rattle.cgs_terms.specs.Flat.{with_coefficient, coefficients_of}
use Rattle.cgs_terms.proofs.SumLemmas.{Alike, alike_same, alike_back, alike_trans, alike_append, total_append}
use Rattle.cgs_terms.proofs.CanonicalLemmas.{AllBelow, all_below_append, all_below_canonical, append_of_ring, canonical_of_ring, canonical_same}
use Rattle.cgs_terms.proofs.CanonicalLemmas.{canonical_alike, is_canonical, canonical_poly, append_low, poly_sum}
use Rattle.cgs_terms.proofs.MergeLemmas.{canonical_above, kept_whole}
use Rattle.cgs_bucket.specs.Levels.{all_terms, IsFront, IsTie, SameSum, IsAdded}

pub get_drop : (i : ℕ) (f : List Term) → slice_get (drop i f) 0 ≡ slice_get f i
get_drop zero f = refl
get_drop (suc i) [] = refl
get_drop (suc i) (x ∷ f) = get_drop i f

pub with_drop : (i c : ℕ) (f : List Term) → drop i (with_coefficient i c f) ≡ with_coefficient 0 c (drop i f)
with_drop zero c f = refl
with_drop (suc i) c [] = refl
with_drop (suc i) c (x ∷ f) = with_drop i c f

pub with_length : (i c : ℕ) (f : List Term) → length (with_coefficient i c f) ≡ length f
with_length i c [] = refl
with_length zero c (x ∷ f) = refl
with_length (suc i) c (x ∷ f) = ap suc (with_length i c f)

pub coefficients_length : (f : List Term) → length (coefficients_of f) ≡ length f
coefficients_length [] = refl
coefficients_length (x ∷ f) = ap suc (coefficients_length f)

-- the coefficient of a term that is read
pub coefficient_at : (i c d : ℕ) (m : List ℕ) (f : List Term) → slice_get f i ≡ Some (term c m) → d ≡ get_or (coefficients_of f) i d → d ≡ c
coefficient_at i c d m [] e q = absurd (cc)
coefficient_at zero c d m (x ∷ f) e q = let s : x ≡ term c m = cc in q ∙ ap (λ (y : Term). y.coefficient) s
coefficient_at (suc i) c d m (x ∷ f) e q = coefficient_at i c d m f e q

-- one level changed

pub set_total : (w : List ℕ → ℕ) (levels : List (List Term)) (k : ℕ) (f : List Term) → k < length levels
    → total w (all_terms (set levels k f)) + total w (get_or levels k []) ≡ total w (all_terms levels) + total w f
set_total w [] k f h = absurd (omega arith)
set_total w (g ∷ levels) zero f h = omega (arith, total_append w f (all_terms levels), total_append w g (all_terms levels))
set_total w (g ∷ levels) (suc k) f h = omega (
  arith,
  total_append w g (all_terms (set levels k f)),
  total_append w g (all_terms levels),
  set_total w levels k f (omega arith),
)

pub set_count : (levels : List (List Term)) (k : ℕ) (f : List Term) → k < length levels
    → length (all_terms (set levels k f)) + length (get_or levels k []) ≡ length (all_terms levels) + length f
set_count [] k f h = absurd (omega arith)
set_count (g ∷ levels) zero f h = omega (arith, length-append f (all_terms levels), length-append g (all_terms levels))
set_count (g ∷ levels) (suc k) f h = omega (
  arith,
  length-append g (all_terms (set levels k f)),
  length-append g (all_terms levels),
  set_count levels k f (omega arith),
)

pub set_polys : (ring : Ring) (levels : List (List Term)) (k : ℕ) (f : List Term) → ArePolys ring levels → IsPoly ring f → ArePolys ring (set levels k f)
set_polys ring [] k f h p = tt
set_polys ring (g ∷ levels) zero f h p = (p, h.1)
set_polys ring (g ∷ levels) (suc k) f h p = (h.0, set_polys ring levels k f h.1 p)

pub polys_at : (ring : Ring) (levels : List (List Term)) (k : ℕ) → ArePolys ring levels → IsPoly ring (get_or levels k [])
polys_at ring [] k h = record { canonical = tt; low = tt }
polys_at ring (g ∷ levels) zero h = h.0
polys_at ring (g ∷ levels) (suc k) h = polys_at ring levels k h.1

pub of_ring : (ring : Ring) (levels : List (List Term)) → ArePolys ring levels → IsOfRing ring (all_terms levels)
of_ring ring [] h = tt
of_ring ring (g ∷ levels) h = append_of_ring ring g (all_terms levels) (canonical_of_ring ring g h.0.canonical) (of_ring ring levels h.1)

-- first terms

pub first_total : (w : List ℕ → ℕ) (f : List Term) → 0 < length f → total w f ≡ leading_coefficient f * w (leading_monomial f) + total w (drop 1 f)
first_total w [] h = absurd (omega arith)
first_total w (x ∷ f) h = refl

pub with_first_total : (w : List ℕ → ℕ) (c : ℕ) (f : List Term) → 0 < length f
    → total w (with_coefficient 0 c f) ≡ c * w (leading_monomial f) + total w (drop 1 f)
with_first_total w c [] h = absurd (omega arith)
with_first_total w c (x ∷ f) h = refl

pub drop_poly : (ring : Ring) (f : List Term) → IsPoly ring f → IsPoly ring (drop 1 f)
drop_poly ring [] h = h
drop_poly ring (x ∷ f) h = record { canonical = h.canonical.4; low = h.low.1 }

pub with_first_poly : (ring : Ring) (c : ℕ) (f : List Term) → 0 < c → c < ring.modulus → IsPoly ring f → IsPoly ring (with_coefficient 0 c f)
with_first_poly ring c [] s l h = h
with_first_poly ring c (x ∷ f) s l h = record { canonical = (s, l, h.canonical.2, h.canonical.3, h.canonical.4); low = h.low }

pub first_is : (f : List Term) (c : ℕ) (m : List ℕ) → slice_get f 0 ≡ Some (term c m)
    → (leading_coefficient f ≡ c) × ((leading_monomial f ≡ m) × (0 < length f))
first_is [] c m e = absurd (cc)
first_is (x ∷ f) c m e = let s : x ≡ term c m = cc in (ap (λ (y : Term). y.coefficient) s, (ap (λ (y : Term). y.exponents) s, omega arith))

pub first_below : (ring : Ring) (f : List Term) → IsPoly ring f → 0 < length f → leading_coefficient f < ring.modulus
first_below ring [] h l = absurd (omega arith)
first_below ring (x ∷ f) h l = h.canonical.1

-- two levels that start with one monomial

moved : (p t u a s v : ℕ) → 0 < p → s ≡ a % p → t + s * v ≡ u + a * v → u % p ≡ t % p
moved p t u a s v pos e h =
    let m : (s * v) % p ≡ (a * v) % p = rw e (mul-mod_first a v p) in
    let k : (u + s * v) % p ≡ (u + a * v) % p = mod_add p u u (s * v) (a * v) refl m in
    mod_cancel p u t (s * v) pos (k ∙ ap (λ n. n % p) (sym h))

module _ (ring : Ring) (pos : 0 < ring.modulus) (levels : List (List Term)) (polys : ArePolys ring levels) (a b : ℕ) (tie : IsTie levels a b) where
  abbrev pub first : List Term
  first = get_or levels a []

  abbrev pub second : List Term
  second = get_or levels b []

  abbrev pub dropped : List (List Term)
  dropped = set levels b (drop 1 second)

  pub first_stays : get_or dropped a [] ≡ get_or levels a []
  first_stays = get_or-set_other levels b a (drop 1 second) [] (λ e. omega (arith, tie.rising, e))

  module _ (s : ℕ) (f : List Term) (e : s ≡ (leading_coefficient (get_or levels a []) + leading_coefficient (get_or levels b [])) % ring.modulus)
      (t : (w : List ℕ → ℕ) → total w f ≡ s * w (leading_monomial (get_or levels a [])) + total w (drop 1 (get_or levels a []))) (p : IsPoly ring f) where
    tie_total : (w : List ℕ → ℕ) → total w (all_terms levels) + s * w (leading_monomial first)
        ≡ total w (all_terms (set dropped a f)) + (leading_coefficient first + leading_coefficient second) * w (leading_monomial first)
    tie_total w =
        let x = set_total w levels b (drop 1 (get_or levels b [])) tie.within in
        let y = rw first_stays at (set_total w (set levels b (drop 1 (get_or levels b []))) a f
        (omega (arith, tie.rising, tie.within, length-set levels b (drop 1 (get_or levels b []))))) in
        let i = first_total w (get_or levels a []) tie.first in
        let j = rw (← tie.same) at (first_total w (get_or levels b []) tie.second) in
        omega (arith, x, y, i, j, t w)

    pub joined_same : SameSum ring levels (set dropped a f)
    joined_same =
        let q : ArePolys ring (set dropped a f) = set_polys ring dropped a f
        (set_polys ring levels b (drop 1 second) polys (drop_poly ring second (polys_at ring levels b polys))) p in
        record {
          polys = q;
          sum = canonical_same ring (all_terms (set dropped a f)) (all_terms levels) pos (of_ring ring (set dropped a f) q) (of_ring ring levels polys)
              (record {
                under = λ w. moved ring.modulus (total w (all_terms levels)) (total w (all_terms (set dropped a f)))
                    (leading_coefficient first + leading_coefficient second) s (w (leading_monomial first)) pos e (tie_total w);
              });
        }

    pub joined_fewer : length f ≤ length (get_or levels a []) → length (all_terms (set dropped a f)) < length (all_terms levels)
    joined_fewer l =
        let x = set_count levels b (drop 1 (get_or levels b [])) tie.within in
        let y = rw first_stays at (set_count (set levels b (drop 1 (get_or levels b []))) a f
        (omega (arith, tie.rising, tie.within, length-set levels b (drop 1 (get_or levels b []))))) in
        omega (arith, x, y, l, tie.second, length-drop 1 (get_or levels b []))

-- the level with the greatest leading_monomial

all_below_levels : (ring : Ring) (m : List ℕ) (levels : List (List Term)) → ArePolys ring levels
    → ((i : ℕ) → i < length levels → StartsBelow ring m (get_or levels i [])) → AllBelow ring m (all_terms levels)
all_below_levels ring m [] h s = tt
all_below_levels ring m (f ∷ levels) h s =
    all_below_append ring m f (all_terms levels) (all_below_canonical ring m f h.0.canonical (s 0 (omega arith)))
    (all_below_levels ring m levels h.1 (λ i l. s (suc i) (omega arith)))

set_starts : (ring : Ring) (m : List ℕ) (levels : List (List Term)) (k : ℕ) (f : List Term) → StartsBelow ring m f
    → ((i : ℕ) → i < length levels → ¬ (i ≡ k) → StartsBelow ring m (get_or levels i []))
    → (i : ℕ) → i < length levels → StartsBelow ring m (get_or (set levels k f) i [])
set_starts ring m [] k f s o i l = absurd (omega arith)
set_starts ring m (g ∷ levels) zero f s o zero l = s
set_starts ring m (g ∷ levels) zero f s o (suc i) l = o (suc i) l (λ e. omega (arith, e))
set_starts ring m (g ∷ levels) (suc k) f s o zero l = o zero l (λ e. omega (arith, e))
set_starts ring m (g ∷ levels) (suc k) f s o (suc i) l = set_starts ring m levels k f s (λ j h n. o (suc j) (omega arith) (λ e. n (omega (arith, e)))) i
    (omega arith)

pub front_first : (ring : Ring) (levels : List (List Term)) (k : ℕ) → 0 < ring.modulus → ArePolys ring levels → IsFront ring levels k
    → canonical ring (all_terms levels) ≡ term (leading_coefficient (get_or levels k [])) (leading_monomial (get_or levels k [])) ∷ canonical ring
    (all_terms (set levels k (drop 1 (get_or levels k []))))
front_first ring levels k pos polys front =
    let f : List Term = get_or levels k [] in
    let c : ℕ = leading_coefficient f in
    let m : List ℕ = leading_monomial f in
    let rest : List (List Term) = set levels k (drop 1 f) in
    let p : IsPoly ring f = polys_at ring levels k polys in
    let q : ArePolys ring rest = set_polys ring levels k (drop 1 f) polys (drop_poly ring f p) in
    let o : IsOfRing ring (all_terms rest) = of_ring ring rest q in
    let i = first_of ring f p front.some in
    let below : AllBelow ring m (all_terms rest) = all_below_levels ring m rest q
    (λ j l. set_starts ring m levels k (drop 1 f) i.3 front.others j (omega (arith, l, length-set levels k (drop 1 f)))) in
    let same : canonical ring (all_terms levels) ≡ canonical ring (term c m ∷ all_terms rest) =
    canonical_same ring (all_terms levels) (term c m ∷ all_terms rest) pos (of_ring ring levels polys) (i.2, o) (record {
      under = λ w. ap (λ n. n % ring.modulus) (omega (
        arith,
        set_total w levels k (drop 1 (get_or levels k [])) front.within,
        first_total w (get_or levels k []) front.some,
      ));
    }) in
    same ∙ (canonical_above ring c m (all_terms rest) pos o below ∙ kept_whole ring c m (canonical ring (all_terms rest)) i.0 i.1)
  where
    first_of : (ring : Ring) (f : List Term) → IsPoly ring f → 0 < length f
        → (0 < leading_coefficient f) × (leading_coefficient f < ring.modulus) × (length (leading_monomial f) ≡ places ring) × StartsBelow ring
        (leading_monomial f) (drop 1 f)
    first_of ring [] h l = absurd (omega arith)
    first_of ring (x ∷ f) h l = (h.canonical.0, h.canonical.1, h.canonical.2, h.canonical.3)

-- with the first term as it is read
pub front_is : (ring : Ring) (levels : List (List Term)) (k c : ℕ) (m : List ℕ) → 0 < ring.modulus → ArePolys ring levels → IsFront ring levels k
    → slice_get (get_or levels k []) 0 ≡ Some (term c m)
    → canonical ring (all_terms levels) ≡ term c m ∷ canonical ring (all_terms (set levels k (drop 1 (get_or levels k []))))
front_is ring levels k c m pos polys front e =
    let x = first_is (get_or levels k []) c m e in
    front_first ring levels k pos polys front
    ∙ (ap (λ d. term d (leading_monomial (get_or levels k [])) ∷ canonical ring (all_terms (set levels k (drop 1 (get_or levels k []))))) x.0
    ∙ ap (λ n. term c n ∷ canonical ring (all_terms (set levels k (drop 1 (get_or levels k []))))) x.1.0)

pub all_empty : (levels : List (List Term)) → ((i : ℕ) → i < length levels → get_or levels i [] ≡ []) → all_terms levels ≡ []
all_empty [] h = refl
all_empty (f ∷ levels) h = let e : f ≡ [] = h 0 (omega arith) in rw e (all_empty levels (λ i l. h (suc i) (omega arith)))

pub lead_places : (ring : Ring) (levels : List (List Term)) (k : ℕ) → ArePolys ring levels → 0 < length (get_or levels k [])
    → length (leading_monomial (get_or levels k [])) ≡ places ring
lead_places ring levels k h s = by_poly (get_or levels k []) (polys_at ring levels k h) s
  where
    by_poly : (f : List Term) → IsPoly ring f → 0 < length f → length (leading_monomial f) ≡ places ring
    by_poly [] p l = absurd (omega arith)
    by_poly (x ∷ f) p l = p.canonical.2

-- a list added

added : (p t u f s m : ℕ) → 0 < p → u + f ≡ t + s → s % p ≡ (f + m) % p → u % p ≡ (t + m) % p
added p t u f s m pos e h =
    let k : (t + s) % p ≡ (t + (f + m)) % p = mod_add p t t s (f + m) refl h in
    let j : t + (f + m) ≡ (t + m) + f = omega arith in
    mod_cancel p u (t + m) f pos (ap (λ n. n % p) e ∙ (k ∙ ap (λ n. n % p) j))

pub level_added : (p : ℕ) (levels : List (List Term)) (k : ℕ) (s f : List Term) → 0 < p → k < length levels → Alike p s (get_or levels k [] ++ f)
    → Alike p (all_terms (set levels k s)) (all_terms levels ++ f)
level_added p levels k s f pos l h = record {
  under = λ w.
      let e : total w s % p ≡ (total w (get_or levels k []) + total w f) % p = h.under w ∙ ap (λ n. n % p) (total_append w (get_or levels k []) f) in
      added p (total w (all_terms levels)) (total w (all_terms (set levels k s))) (total w (get_or levels k [])) (total w s) (total w f) pos
      (set_total w levels k s l) e
      ∙ ap (λ n. n % p) (sym (total_append w (all_terms levels) f));
}

pub all_append : (levels more : List (List Term)) → all_terms (levels ++ more) ≡ all_terms levels ++ all_terms more
all_append [] more = refl
all_append (f ∷ levels) more = ap (λ g. f ++ g) (all_append levels more) ∙ sym (append_assoc f (all_terms levels) (all_terms more))

pub append_polys : (ring : Ring) (levels more : List (List Term)) → ArePolys ring levels → ArePolys ring more → ArePolys ring (levels ++ more)
append_polys ring [] more h k = k
append_polys ring (f ∷ levels) more h k = (h.0, append_polys ring levels more h.1 k)

pub take_polys : (ring : Ring) (n : ℕ) (levels : List (List Term)) → ArePolys ring levels → ArePolys ring (take n levels)
take_polys ring zero levels h = tt
take_polys ring (suc n) [] h = tt
take_polys ring (suc n) (f ∷ levels) h = (h.0, take_polys ring n levels h.1)

pub last_apart : (levels : List (List Term)) (k : ℕ) → length levels ≡ suc k → all_terms levels ≡ all_terms (take k levels) ++ get_or levels k []
last_apart [] k e = absurd (omega arith)
last_apart (f ∷ []) zero e = append-nil f
last_apart (f ∷ g ∷ levels) zero e = absurd (omega arith)
last_apart (f ∷ []) (suc k) e = absurd (omega arith)
last_apart (f ∷ g ∷ levels) (suc k) e = ap (λ h. f ++ h) (last_apart (g ∷ levels) k (omega arith))
    ∙ sym (append_assoc f (all_terms (take k (g ∷ levels))) (get_or (g ∷ levels) k []))

-- from sums to canonical lists

module _ (ring : Ring) (pos : 0 < ring.modulus) (levels : List (List Term)) (polys : ArePolys ring levels) where
  pub same_sum : (more : List (List Term)) → ArePolys ring more → Alike ring.modulus (all_terms more) (all_terms levels) → SameSum ring levels more
  same_sum more q a = record {
    polys = q;
    sum = canonical_same ring (all_terms more) (all_terms levels) pos (of_ring ring more q)
        (of_ring ring levels polys) a;
  }

  pub is_added : (more : List (List Term)) (f : List Term) → ArePolys ring more → IsOfRing ring f → Alike ring.modulus (all_terms more) (all_terms levels ++ f)
      → IsAdded ring levels f more
  is_added more f q o a =
      let c : IsOfRing ring (canonical ring (all_terms levels)) = canonical_of_ring ring (canonical ring (all_terms levels))
      (is_canonical ring (all_terms levels) pos (of_ring ring levels polys)) in
      record {
        polys = q;
        sum = canonical_same ring (all_terms more) (canonical ring (all_terms levels) ++ f) pos (of_ring ring more q)
            (append_of_ring ring (canonical ring (all_terms levels)) f c o)
            (alike_trans a (alike_append (alike_back (canonical_alike ring (all_terms levels) pos (of_ring ring levels polys))) (alike_same ring.modulus f)));
      }

-- the last two levels made one
pub merged_same : (ring : Ring) (levels : List (List Term)) (n : ℕ) (s : List Term) → 0 < ring.modulus → ArePolys ring levels → length levels ≡ n → 2 ≤ n
    → s ≡ canonical ring (get_or levels (n - 2) [] ++ get_or levels (n - 1) [])
    → SameSum ring levels (set (take (n - 1) levels) (n - 2) s)
merged_same ring levels n s pos polys l two e =
    let f : List Term = get_or levels (n - 2) [] in
    let g : List Term = get_or levels (n - 1) [] in
    let front : List (List Term) = take (n - 1) levels in
    let pf : IsPoly ring f = polys_at ring levels (n - 2) polys in
    let pg : IsPoly ring g = polys_at ring levels (n - 1) polys in
    let stays : get_or (take (n - 1) levels) (n - 2) [] ≡ f = get_or-take (n - 1) levels (n - 2) [] (omega arith) in
    let long : n - 2 < length (take (n - 1) levels) = omega (arith, length-take-le (n - 1) levels (omega arith)) in
    let apart : all_terms levels ≡ all_terms (take (n - 1) levels) ++ g = last_apart levels (n - 1) (omega arith) in
    let alike : Alike ring.modulus s (f ++ g) = subst (λ h. Alike ring.modulus h (f ++ g)) (sym e)
    (canonical_alike ring (f ++ g) pos (append_of_ring ring f g (canonical_of_ring ring f pf.canonical) (canonical_of_ring ring g pg.canonical))) in
    let a : Alike ring.modulus (all_terms (set (take (n - 1) levels) (n - 2) s)) (all_terms (take (n - 1) levels) ++ g) =
    level_added ring.modulus (take (n - 1) levels) (n - 2) s g pos long (subst (λ h. Alike ring.modulus s (h ++ g)) (sym stays) alike) in
    let p : IsPoly ring s = subst (λ h. IsPoly ring h) (sym e) (poly_sum ring f g pos pf pg) in
    same_sum ring pos levels polys (set (take (n - 1) levels) (n - 2) s)
    (set_polys ring (take (n - 1) levels) (n - 2) s (take_polys ring (n - 1) levels polys) p)
    (subst (λ h. Alike ring.modulus (all_terms (set (take (n - 1) levels) (n - 2) s)) h) (sym apart) a)

-- a multiple added to a level

pub top_added : (ring : Ring) (levels : List (List Term)) (k : ℕ) (s m : List Term) → 0 < ring.modulus → ArePolys ring levels → k < length levels
    → IsOfRing ring m → HasLowDegrees m → s ≡ canonical ring (get_or levels k [] ++ m)
    → IsAdded ring levels m (set levels k s)
top_added ring levels k s m pos polys l o w e =
    let f : List Term = get_or levels k [] in
    let pf : IsPoly ring f = polys_at ring levels k polys in
    let fm : IsOfRing ring (f ++ m) = append_of_ring ring f m (canonical_of_ring ring f pf.canonical) o in
    let alike : Alike ring.modulus s (f ++ m) = subst (λ h. Alike ring.modulus h (f ++ m)) (sym e) (canonical_alike ring (f ++ m) pos fm) in
    let p : IsPoly ring s = subst (λ h. IsPoly ring h) (sym e) (canonical_poly ring (f ++ m) pos fm (append_low f m pf.low w)) in
    is_added ring pos levels polys (set levels k s) m (set_polys ring levels k s polys p) o (level_added ring.modulus levels k s m pos l alike)

pub level_pushed : (ring : Ring) (levels : List (List Term)) (s m : List Term) → 0 < ring.modulus → ArePolys ring levels → IsOfRing ring m → HasLowDegrees m
    → s ≡ canonical ring m → IsAdded ring levels m (levels ++ s ∷ [])
level_pushed ring levels s m pos polys o w e =
    let alike : Alike ring.modulus s m = subst (λ h. Alike ring.modulus h m) (sym e) (canonical_alike ring m pos o) in
    let p : IsPoly ring s = subst (λ h. IsPoly ring h) (sym e) (canonical_poly ring m pos o w) in
    let q : all_terms (levels ++ s ∷ []) ≡ all_terms levels ++ s = all_append levels (s ∷ []) ∙ ap (λ h. all_terms levels ++ h) (append-nil s) in
    is_added ring pos levels polys (levels ++ s ∷ []) m (append_polys ring levels (s ∷ []) polys (p, tt)) o
    (subst (λ h. Alike ring.modulus h (all_terms levels ++ m)) (sym q) (alike_append (alike_same ring.modulus (all_terms levels)) alike))

-- what was added to levels of the same sum
pub added_after : (ring : Ring) (first second third : List (List Term)) (m : List Term) → SameSum ring first second → IsAdded ring second m third
    → IsAdded ring first m third
added_after ring _ _ _ m s a = record { polys = a.polys; sum = a.sum ∙ ap (λ h. canonical ring (h ++ m)) s.sum }
