-- The part of a polynomial at its leading monomial in the variables, and the other terms.
use Rattle.std.proofs.Common.{ℕ, zero, suc, ◌≡◌, ◌+◌, ◌-◌, ◌<◌, ◌≤◌, ◌⊎◌, inl, inr, Bool, true, false, cond, Some, List, [], ◌∷◌, length, take, drop}
use Rattle.std.proofs.Common.{refl, sym, ap, ◌∙◌, subst, arith}
use Rattle.std.specs.Prelude.{slice_get}
use Rattle.std.specs.declared.cmp.Ordering.{Ordering}
use Rattle.std.specs.declared.cmp.Ordering.TheVariants.{Less, Equal, Greater}
use Rattle.std.specs.Ordering.{nat_cmp, is_eq}
use Rattle.std.specs.Cmp.Lexicographic.{slice_cmp}
use Rattle.std.proofs.lemmas.List.{drop-drop}
use Rattle.cgs_list.proofs.ListLemmas.{drop_at}
use Rattle.cgs_order.specs.declared.block.BlockOrder.{BlockOrder}
use Rattle.cgs_order.specs.TermOrder.{compared}
use Rattle.cgs_order.proofs.OrderLemmas.{cmp_equal, cmp_self, compared_trans, compared_not_self}
use Rattle.cgs_poly.specs.Ring.{Ring}
use Rattle.cgs_poly.specs.Polynomial.{Term, places, order_of, IsOfRing, IsCanonical, StartsBelow, IsPoly}
use Rattle.cgs_poly.specs.Parameters.{variables_ring, lead_x, lc_x, part_at, strip}
use Rattle.cgs_poly.proofs.CanonicalLemmas.{AllBelow, all_below_canonical, canonical_of_ring}
use Rattle.cgs_poly.proofs.PlaceLemmas.{canonical_drop}
use Rattle.cgs_poly.proofs.ProductLemmas.{low_take, low_drop}
use Rattle.cgs_poly.proofs.ParameterLemmas.{lc_x_some}
use Rattle.cgs_algebra.proofs.PartLemmas.{rest_of, VariablesBelow}
use Rattle.cgs_algebra.proofs.VariablesOrderLemmas.{variables_from_below}
use Rattle.cgs_algebra.proofs.WeightLemmas.{Each}
use Rattle.cgs_member.specs.ReductionRun.{others_at}
use Rattle.cgs_member.specs.Cases.{coefficients_in, coefficients}

-- they are the terms that the laws speak of
pub others_rest : (ring : Ring) (x : List ℕ) (f : List Term) → others_at ring x f ≡ rest_of ring x f
others_rest ring x [] = refl
others_rest ring x (y ∷ f) = ap (λ k. cond (is_eq (slice_cmp nat_cmp (take ring.variables y.exponents) x)) k (y ∷ k)) (others_rest ring x f)

-- unequal lists
pub apart_test : (m n : List ℕ) → (m ≡ n → ⊥) → is_eq (slice_cmp nat_cmp m n) ≡ false
apart_test m n other = step (slice_cmp nat_cmp m n) refl
  where
    step : (o : Ordering) → slice_cmp nat_cmp m n ≡ o → is_eq o ≡ false
    step Less e = refl
    step Equal e = absurd (other (cmp_equal m n e))
    step Greater e = refl

pub same_test : (m n : List ℕ) → m ≡ n → is_eq (slice_cmp nat_cmp m n) ≡ true
same_test m n e = ap is_eq (ap (λ k. slice_cmp nat_cmp k n) e ∙ cmp_self n)

module _ (ring : Ring) (x : List ℕ) where
  -- polynomials without a part

  others_starts : (m : List ℕ) (f : List Term) → AllBelow ring m f → StartsBelow ring m (others_at ring x f)
  others_starts m [] h = tt
  others_starts m (y ∷ f) h = step (is_eq (slice_cmp nat_cmp (take ring.variables y.exponents) x)) (others_starts m f h.1)
    where
      step : (b : Bool) → StartsBelow ring m (others_at ring x f) → StartsBelow ring m (cond b (others_at ring x f) (y ∷ others_at ring x f))
      step true ih = ih
      step false ih = h.0

  pub others_canonical : (f : List Term) → IsCanonical ring f → IsCanonical ring (others_at ring x f)
  others_canonical [] h = tt
  others_canonical (y ∷ f) h = step (is_eq (slice_cmp nat_cmp (take ring.variables y.exponents) x)) (others_canonical f h.4)
    where
      step : (b : Bool) → IsCanonical ring (others_at ring x f) → IsCanonical ring (cond b (others_at ring x f) (y ∷ others_at ring x f))
      step true ih = ih
      step false ih = (h.0, h.1, h.2, others_starts y.exponents f (all_below_canonical ring y.exponents f h.4 h.3), ih)

  pub others_shorter : (f : List Term) → length (others_at ring x f) ≤ length f
  others_shorter [] = omega arith
  others_shorter (y ∷ f) = step (is_eq (slice_cmp nat_cmp (take ring.variables y.exponents) x)) (others_shorter f)
    where
      step : (b : Bool) → length (others_at ring x f) ≤ length f → length (cond b (others_at ring x f) (y ∷ others_at ring x f)) ≤ suc (length f)
      step true ih = omega arith
      step false ih = omega arith

-- without the leading part there are fewer terms
pub others_fewer : (ring : Ring) (f : List Term) → 0 < length f → length (others_at ring (lead_x ring f) f) < length f
others_fewer ring [] l = absurd (omega arith)
others_fewer ring (y ∷ f) l =
    let t = same_test (take ring.variables y.exponents) (take ring.variables y.exponents) refl in
    let s = others_shorter ring (take ring.variables y.exponents) f in
    rw t (omega arith)

-- the leading coefficient has a term
pub lc_x_length : (ring : Ring) (f : List Term) → 0 < length f → 0 < length (lc_x ring f)
lc_x_length ring [] l = absurd (omega arith)
lc_x_length ring (y ∷ f) l = rw (lc_x_some ring y f) (omega arith)

-- the terms up to a place

front_canonical : (ring : Ring) (n : ℕ) (f : List Term) → IsCanonical ring f → IsCanonical ring (take n f)
front_canonical ring zero f h = tt
front_canonical ring (suc n) [] h = tt
front_canonical ring (suc n) (y ∷ f) h = (h.0, h.1, h.2, starts n f h.3, front_canonical ring n f h.4)
  where
    starts : (n : ℕ) (f : List Term) → StartsBelow ring y.exponents f → StartsBelow ring y.exponents (take n f)
    starts zero f s = tt
    starts (suc n) [] s = tt
    starts (suc n) (z ∷ f) s = s

pub terms_poly : (ring : Ring) (n i : ℕ) (f : List Term) → IsPoly ring f → IsPoly ring (take n (drop i f))
terms_poly ring n i f h =
    record { canonical = front_canonical ring n (drop i f) (canonical_drop ring i f h.canonical); low = low_take n (drop i f) (low_drop i f h.low) }

-- the terms with the variables of the lead stand side by side

-- how many terms at the front have the variables x
abbrev pub part_length : Ring → List ℕ → List Term → ℕ
part_length ring x [] = 0
part_length ring x (y ∷ f) = cond (is_eq (slice_cmp nat_cmp (take ring.variables y.exponents) x)) (suc (part_length ring x f)) 0

pub part_length_more : (ring : Ring) (x : List ℕ) (f : List Term) (i : ℕ) (y : Term) → slice_get f i ≡ Some y → take ring.variables y.exponents ≡ x
    → part_length ring x (drop i f) ≡ suc (part_length ring x (drop (i + 1) f))
part_length_more ring x f i y e same =
    ap (part_length ring x) (drop_at f i y e)
    ∙ ap (λ b. cond b (suc (part_length ring x (drop (i + 1) f))) 0) (same_test (take ring.variables y.exponents) x same)

pub part_length_ends : (ring : Ring) (x : List ℕ) (f : List Term) (i : ℕ) (y : Term) → slice_get f i ≡ Some y → (take ring.variables y.exponents ≡ x → ⊥)
    → part_length ring x (drop i f) ≡ 0
part_length_ends ring x f i y e other =
    ap (part_length ring x) (drop_at f i y e)
    ∙ ap (λ b. cond b (suc (part_length ring x (drop (i + 1) f))) 0) (apart_test (take ring.variables y.exponents) x other)

-- where all variables are below x, no term has them
none_at : (ring : Ring) (x : List ℕ) (f : List Term) → Each (VariablesBelow ring x) f → (part_at ring x f ≡ []) × (others_at ring x f ≡ f)
none_at ring x [] h = (refl, refl)
none_at ring x (y ∷ f) h =
    let other : take ring.variables y.exponents ≡ x → ⊥ = λ e. compared_not_self (order_of (variables_ring ring)) x
    (subst (λ m. compared (order_of (variables_ring ring)) m x ≡ Less) e h.0.1) in
    let ih = none_at ring x f h.1 in
    rw (apart_test (take ring.variables y.exponents) x other) (ih.0, ap (λ k. y ∷ k) ih.1)

-- below a monomial whose variables are below x, all are
all_below : (ring : Ring) (x m : List ℕ) (f : List Term) → VariablesBelow ring x m → IsOfRing ring f → AllBelow ring m f → Each (VariablesBelow ring x) f
all_below ring x m [] v h b = tt
all_below ring x m (y ∷ f) v h b =
    ((h.0, by_cases (variables_from_below ring y.exponents m h.0 v.0 b.0)), all_below ring x m f v h.1 b.1)
  where
    own : BlockOrder
    own = order_of (variables_ring ring)

    by_cases : (compared own (take ring.variables y.exponents) (take ring.variables m) ≡ Less) ⊎ (take ring.variables y.exponents ≡ take ring.variables m)
        → compared own (take ring.variables y.exponents) x ≡ Less
    by_cases (inl e) = compared_trans own (take ring.variables y.exponents) (take ring.variables m) x e v.1
    by_cases (inr e) = subst (λ n. compared own n x ≡ Less) (sym e) v.1

-- the part at the front, and the other terms behind it
abbrev pub IsParted : Ring → List ℕ → List Term → Type 0
IsParted ring x f = (part_at ring x f ≡ take (part_length ring x f) f) × (others_at ring x f ≡ drop (part_length ring x f) f)

parted_behind : (ring : Ring) (m : List ℕ) (f : List Term) → length m ≡ places ring → IsCanonical ring f → AllBelow ring m f
    → IsParted ring (take ring.variables m) f
parted_behind ring m [] l h b = (refl, refl)
parted_behind ring m (y ∷ f) l h b =
    by_test (parted_behind ring m f l h.4 b.1) (slice_cmp nat_cmp (take ring.variables y.exponents) (take ring.variables m)) refl
  where
    x : List ℕ
    x = take ring.variables m

    apart : (o : Ordering) → slice_cmp nat_cmp (take ring.variables y.exponents) x ≡ o → is_eq o ≡ false → IsParted ring x (y ∷ f)
    apart o e n =
        let other : take ring.variables y.exponents ≡ x → ⊥ = λ q.
        let s : true ≡ false = sym (same_test (take ring.variables y.exponents) x q) ∙ (ap is_eq e ∙ n) in absurd (cc) in
        let v : VariablesBelow ring x y.exponents = (h.2, by_cases other (variables_from_below ring y.exponents m h.2 l b.0)) in
        let none = none_at ring x f (all_below ring x y.exponents f v (canonical_of_ring ring f h.4) (all_below_canonical ring y.exponents f h.4 h.3)) in
        rw (apart_test (take ring.variables y.exponents) x other) (none.0, ap (λ k. y ∷ k) none.1)
      where
        by_cases : (take ring.variables y.exponents ≡ x → ⊥)
            → (compared (order_of (variables_ring ring)) (take ring.variables y.exponents) x ≡ Less) ⊎ (take ring.variables y.exponents ≡ x)
            → compared (order_of (variables_ring ring)) (take ring.variables y.exponents) x ≡ Less
        by_cases other (inl e) = e
        by_cases other (inr e) = absurd (other e)

    by_test : IsParted ring x f → (o : Ordering) → slice_cmp nat_cmp (take ring.variables y.exponents) x ≡ o → IsParted ring x (y ∷ f)
    by_test ih Less e = apart Less e refl
    by_test ih Equal e =
        let t : is_eq (slice_cmp nat_cmp (take ring.variables y.exponents) x) ≡ true = ap is_eq e in rw t (ap (λ k. y ∷ k) ih.0, ih.1)
    by_test ih Greater e = apart Greater e refl

pub parted : (ring : Ring) (g : List Term) → IsCanonical ring g → 0 < length g → IsParted ring (lead_x ring g) g
parted ring [] h l = absurd (omega arith)
parted ring (y ∷ f) h l =
    let p = parted_behind ring y.exponents f h.2 h.4 (all_below_canonical ring y.exponents f h.4 h.3) in
    rw (same_test (take ring.variables y.exponents) (take ring.variables y.exponents) refl) (ap (λ k. y ∷ k) p.0, p.1)

-- found by a search
pub part_ends : (ring : Ring) (f : List Term) (from to : ℕ) (y : Term) (x : List ℕ) → IsCanonical ring f → slice_get f from ≡ Some y
    → x ≡ take ring.variables y.exponents → from + part_length ring x (drop from f) ≡ to
    → (part_at ring (lead_x ring (drop from f)) (drop from f) ≡ take (to - from) (drop from f))
    × (others_at ring (lead_x ring (drop from f)) (drop from f) ≡ drop to f)
part_ends ring f from to y x h get same e =
    let g : List Term = drop from f in
    let form : drop from f ≡ y ∷ drop (from + 1) f = drop_at f from y get in
    let lead : lead_x ring (drop from f) ≡ x = ap (lead_x ring) form ∙ sym same in
    let p = parted ring (drop from f) (canonical_drop ring from f h) (omega (arith, ap length form)) in
    let n : part_length ring (lead_x ring (drop from f)) (drop from f) ≡ to - from = ap (λ m. part_length ring m (drop from f)) lead ∙ omega (arith, e) in
    let count : from + (to - from) ≡ to = omega (arith, e) in
    (p.0 ∙ ap (λ k. take k g) n, p.1 ∙ (ap (λ k. drop k g) n ∙ (drop-drop (to - from) from f ∙ ap (λ k. drop k f) count)))

-- the leading part alone has the leading coefficient

part_twice : (ring : Ring) (x : List ℕ) (f : List Term) → part_at ring x (part_at ring x f) ≡ part_at ring x f
part_twice ring x [] = refl
part_twice ring x (y ∷ f) = by_test (part_twice ring x f) (is_eq (slice_cmp nat_cmp (take ring.variables y.exponents) x)) refl
  where
    by_test : part_at ring x (part_at ring x f) ≡ part_at ring x f → (b : Bool) → is_eq (slice_cmp nat_cmp (take ring.variables y.exponents) x) ≡ b
        → part_at ring x (cond b (y ∷ part_at ring x f) (part_at ring x f)) ≡ cond b (y ∷ part_at ring x f) (part_at ring x f)
    by_test ih true e = rw e (ap (λ k. y ∷ k) ih)
    by_test ih false e = ih

pub part_lc_x : (ring : Ring) (g : List Term) → 0 < length g → lc_x ring (part_at ring (lead_x ring g) g) ≡ lc_x ring g
part_lc_x ring [] l = absurd (omega arith)
part_lc_x ring (y ∷ f) l =
    let x : List ℕ = take ring.variables y.exponents in
    let head : part_at ring x (y ∷ f) ≡ y ∷ part_at ring x f = rw (same_test x x refl) refl in
    let lead : lead_x ring (part_at ring x (y ∷ f)) ≡ x = ap (lead_x ring) head in
    ap (λ m. strip ring (part_at ring m (part_at ring x (y ∷ f)))) lead ∙ ap (strip ring) (part_twice ring x (y ∷ f))

stripped_length : (ring : Ring) (f : List Term) → length (strip ring f) ≡ length f
stripped_length ring [] = refl
stripped_length ring (y ∷ f) = ap suc (stripped_length ring f)

-- the number of terms of the leading coefficient
pub lc_x_terms : (ring : Ring) (f : List Term) → length (lc_x ring f) ≡ length (part_at ring (lead_x ring f) f)
lc_x_terms ring f = stripped_length ring (part_at ring (lead_x ring f) f)

-- all coefficients: with as many steps as terms their number does not matter

enough_terms : (n m : ℕ) (ring : Ring) (r : List Term) → length r ≤ n → length r ≤ m → coefficients_in n ring r ≡ coefficients_in m ring r
enough_terms zero zero ring r h k = refl
enough_terms zero (suc m) ring [] h k = refl
enough_terms zero (suc m) ring (x ∷ r) h k = absurd (omega arith)
enough_terms (suc n) zero ring [] h k = refl
enough_terms (suc n) zero ring (x ∷ r) h k = absurd (omega arith)
enough_terms (suc n) (suc m) ring [] h k = refl
enough_terms (suc n) (suc m) ring (x ∷ r) h k =
    let s = others_fewer ring (x ∷ r) (omega arith) in
    ap (λ K. lc_x ring (x ∷ r) ∷ K) (enough_terms n m ring (others_at ring (lead_x ring (x ∷ r)) (x ∷ r)) (omega arith) (omega arith))

pub coefficients_step : (ring : Ring) (r : List Term) → 0 < length r
    → coefficients ring r ≡ lc_x ring r ∷ coefficients ring (others_at ring (lead_x ring r) r)
coefficients_step ring [] l = absurd (omega arith)
coefficients_step ring (x ∷ r) l =
    let s = others_fewer ring (x ∷ r) l in
    ap (λ K. lc_x ring (x ∷ r) ∷ K)
    (enough_terms (length r) (length (others_at ring (lead_x ring (x ∷ r)) (x ∷ r))) ring (others_at ring (lead_x ring (x ∷ r)) (x ∷ r))
    (omega arith) (omega arith))
