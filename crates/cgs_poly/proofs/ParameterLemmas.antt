-- The parts of a polynomial by its variables, and the leading one without them.
use Rattle.std.proofs.Common.{ℕ, zero, suc, ◌≡◌, ◌+◌, ◌*◌, ◌%◌, ◌≤◌, Bool, true, false, ◌&&◌, IsTrue, ◌↔◌, cond, Some, List, [], ◌∷◌, ◌++◌, length, take, drop}
use Rattle.std.proofs.Common.{replicate, refl, sym, ap, ◌∙◌, arith, add-one}
use Rattle.std.proofs.lemmas.List.{length-append, length-take, length-drop, length-replicate, take-append-drop, take_at, drop_at, append_cancel_left}
use Rattle.std.proofs.lemmas.List.{append-nil, at_drop_all}
use Rattle.std.proofs.lemmas.Bool.{and_parts, and_from}
use Rattle.std.specs.Prelude.{slice_get}
use Rattle.std.specs.declared.cmp.Ordering.{Ordering}
use Rattle.std.specs.declared.cmp.Ordering.TheVariants.{Less, Equal, Greater}
use Rattle.std.specs.Ordering.{nat_cmp, is_eq}
use Rattle.std.specs.Cmp.Lexicographic.{slice_cmp}
use Rattle.cgs_list.proofs.ListLemmas.{drop_at as drop_from}
use Rattle.cgs_exps.specs.Monomial.{degree, product}
use Rattle.cgs_exps.proofs.MonomialLemmas.{product_comm, one_product, degree_product}
use Rattle.cgs_order.specs.TermOrder.{compared}
use Rattle.cgs_order.proofs.OrderLemmas.{cmp_equal, cmp_self}
use Rattle.cgs_poly.specs.Ring.{Ring}
use Rattle.cgs_poly.specs.Polynomial.{Term, term, places, order_of, total, indicator, coefficient, IsOfRing, StartsBelow, IsCanonical, HasLowDegrees, IsPoly}
use Rattle.cgs_terms.specs.declared.draft.Draft.{Draft}
use Rattle.cgs_poly.specs.Draft.{terms_in, IsFlat, Appended}
use Rattle.cgs_poly.specs.Product.{leading_monomial}
use Rattle.cgs_poly.specs.Parameters.{lead_x, part_at, without_variables, strip, lc_x, HasNoVariables, has_no_variables}
use Rattle.cgs_poly.proofs.SumLemmas.{only_same, only_other}
use Rattle.cgs_poly.proofs.CanonicalLemmas.{AllBelow, all_below_canonical, canonical_of_ring}
use Rattle.cgs_poly.proofs.ProductOrderLemmas.{product_append, compared_shift}

-- lists of terms

pub part_append : (ring : Ring) (x : List ℕ) (f g : List Term) → part_at ring x (f ++ g) ≡ part_at ring x f ++ part_at ring x g
part_append ring x [] g = refl
part_append ring x (y ∷ f) g = step (is_eq (slice_cmp nat_cmp (take ring.variables y.exponents) x)) (part_append ring x f g)
  where
    step : (b : Bool) → part_at ring x (f ++ g) ≡ part_at ring x f ++ part_at ring x g
        → cond b (y ∷ part_at ring x (f ++ g)) (part_at ring x (f ++ g)) ≡ cond b (y ∷ part_at ring x f) (part_at ring x f) ++ part_at ring x g
    step true ih = ap (λ k. y ∷ k) ih
    step false ih = ih

pub strip_append : (ring : Ring) (f g : List Term) → strip ring (f ++ g) ≡ strip ring f ++ strip ring g
strip_append ring [] g = refl
strip_append ring (y ∷ f) g = ap (λ k. term y.coefficient (without_variables ring y.exponents) ∷ k) (strip_append ring f g)

-- one term more

pub front_more : (f : List Term) (i : ℕ) (y : Term) → slice_get f i ≡ Some y → take (i + 1) f ≡ take i f ++ y ∷ []
front_more [] i y e = absurd (cc)
front_more (z ∷ f) zero y e = let s : z ≡ y = cc in rw s refl
front_more (z ∷ f) (suc i) y e = rw add-one (ap (λ k. z ∷ k) (rw add-one at (front_more f i y e)))

pub part_more : (ring : Ring) (x : List ℕ) (f : List Term) (i : ℕ) (y : Term) → slice_get f i ≡ Some y
    → strip ring (part_at ring x (take (i + 1) f)) ≡ strip ring (part_at ring x (take i f)) ++ strip ring (part_at ring x (y ∷ []))
part_more ring x f i y e =
    ap (λ k. strip ring (part_at ring x k)) (front_more f i y e)
    ∙ (ap (strip ring) (part_append ring x (take i f) (y ∷ [])) ∙ strip_append ring (part_at ring x (take i f)) (part_at ring x (y ∷ [])))

pub part_same : (ring : Ring) (x : List ℕ) (y : Term) → take ring.variables y.exponents ≡ x
    → strip ring (part_at ring x (y ∷ [])) ≡ term y.coefficient (without_variables ring y.exponents) ∷ []
part_same ring x y e = rw (e, cmp_self x) refl

pub part_other : (ring : Ring) (x : List ℕ) (y : Term) → (take ring.variables y.exponents ≡ x → ⊥) → part_at ring x (y ∷ []) ≡ []
part_other ring x y n = step (slice_cmp nat_cmp (take ring.variables y.exponents) x) refl
  where
    step : (o : Ordering) → slice_cmp nat_cmp (take ring.variables y.exponents) x ≡ o → cond (is_eq o) (y ∷ []) [] ≡ []
    step Less e = refl
    step Equal e = absurd (n (cmp_equal (take ring.variables y.exponents) x e))
    step Greater e = refl

-- a monomial is the product of its variables' part and the rest

zeros_last : (n : ℕ) (a : List ℕ) → length a ≡ n → product a (replicate n 0) ≡ a
zeros_last n a l = product_comm a (replicate n 0) ∙ one_product n a l

-- unequal lists compare unequal
apart : (a b : List ℕ) (o : Ordering) → a ≡ b → slice_cmp nat_cmp a b ≡ o → (o ≡ Equal → ⊥) → ⊥
apart a b o q e n = n (sym e ∙ (ap (λ k. slice_cmp nat_cmp k b) q ∙ cmp_self b))

module _ (ring : Ring) where
  -- the variables' part
  abbrev front : List ℕ → List ℕ
  front m = take ring.variables m ++ replicate ring.parameters 0

  front_length : (m : List ℕ) → length m ≡ places ring → length (front m) ≡ places ring
  front_length m l = omega
      (arith, length-append (take ring.variables m) (replicate ring.parameters 0), length-take ring.variables m, length-replicate {A = ℕ} ring.parameters 0)

  pub without_length : (m : List ℕ) → length m ≡ places ring → length (without_variables ring m) ≡ places ring
  without_length m l =
      omega (arith, length-append (replicate ring.variables 0) (drop ring.variables m), length-drop ring.variables m, length-replicate {A = ℕ} ring.variables 0)

  front_product : (m : List ℕ) → length m ≡ places ring → product (front m) (without_variables ring m) ≡ m
  front_product m l =
      let v : ℕ = ring.variables in
      let a : length (take ring.variables m) ≡ ring.variables = omega (arith, length-take ring.variables m) in
      let b : length (drop ring.variables m) ≡ ring.parameters = omega (arith, length-drop ring.variables m) in
      product_append (take ring.variables m) (replicate ring.parameters 0) (replicate ring.variables 0)
      (drop ring.variables m) (a ∙ sym (length-replicate {A = ℕ} ring.variables 0))
      ∙ (cc (zeros_last ring.variables (take ring.variables m) a, one_product ring.parameters (drop ring.variables m) b) ∙ take-append-drop ring.variables m)

  -- monomials with the same variables compare as they do without them
  without_compared : (m n : List ℕ) → length m ≡ places ring → length n ≡ places ring
      → take ring.variables m ≡ take ring.variables n → compared (order_of ring) m n ≡ Less
      → compared (order_of ring) (without_variables ring m) (without_variables ring n) ≡ Less
  without_compared m n l k e s =
      let t : front n ≡ front m = ap (λ x. x ++ replicate ring.parameters 0) (sym e) in
      let a = front_product m l in
      let b : product (front m) (without_variables ring n) ≡ n = ap (λ x. product x (without_variables ring n)) (sym t) ∙ front_product n k in
      let c = compared_shift (order_of ring) (front m) (without_variables ring m) (without_variables ring n)
      (front_length m l ∙ sym (without_length m l)) (front_length m l ∙ sym (without_length n k)) in
      sym c ∙ (ap (λ x. compared (order_of ring) x (product (front m) (without_variables ring n))) a ∙ (ap (compared (order_of ring) m) b ∙ s))

  without_degree : (m : List ℕ) → length m ≡ places ring → degree (without_variables ring m) ≤ degree m
  without_degree m l =
      omega (arith, ap degree (front_product m l), degree_product (front m) (without_variables ring m) (front_length m l ∙ sym (without_length m l)))

  -- the part at x

  abbrev AllAt : List ℕ → List Term → Type 0
  AllAt x [] = Unit {0}
  AllAt x (y ∷ f) = (take ring.variables y.exponents ≡ x) × AllAt x f

  part_all : (x : List ℕ) (f : List Term) → AllAt x (part_at ring x f)
  part_all x [] = tt
  part_all x (y ∷ f) = step (slice_cmp nat_cmp (take ring.variables y.exponents) x) refl (part_all x f)
    where
      step : (o : Ordering) → slice_cmp nat_cmp (take ring.variables y.exponents) x ≡ o → AllAt x (part_at ring x f)
          → AllAt x (cond (is_eq o) (y ∷ part_at ring x f) (part_at ring x f))
      step Less e ih = ih
      step Equal e ih = (cmp_equal (take ring.variables y.exponents) x e, ih)
      step Greater e ih = ih

  part_below : (x m : List ℕ) (f : List Term) → AllBelow ring m f → StartsBelow ring m (part_at ring x f)
  part_below x m [] h = tt
  part_below x m (y ∷ f) h = step (is_eq (slice_cmp nat_cmp (take ring.variables y.exponents) x)) (part_below x m f h.1)
    where
      step : (b : Bool) → StartsBelow ring m (part_at ring x f) → StartsBelow ring m (cond b (y ∷ part_at ring x f) (part_at ring x f))
      step true ih = h.0
      step false ih = ih

  part_canonical : (x : List ℕ) (f : List Term) → IsCanonical ring f → IsCanonical ring (part_at ring x f)
  part_canonical x [] h = tt
  part_canonical x (y ∷ f) h = step (is_eq (slice_cmp nat_cmp (take ring.variables y.exponents) x)) (part_canonical x f h.4)
    where
      step : (b : Bool) → IsCanonical ring (part_at ring x f) → IsCanonical ring (cond b (y ∷ part_at ring x f) (part_at ring x f))
      step true ih = (h.0, h.1, h.2, part_below x y.exponents f (all_below_canonical ring y.exponents f h.4 h.3), ih)
      step false ih = ih

  part_low : (x : List ℕ) (f : List Term) → HasLowDegrees f → HasLowDegrees (part_at ring x f)
  part_low x [] h = tt
  part_low x (y ∷ f) h = step (is_eq (slice_cmp nat_cmp (take ring.variables y.exponents) x)) (part_low x f h.1)
    where
      step : (b : Bool) → HasLowDegrees (part_at ring x f) → HasLowDegrees (cond b (y ∷ part_at ring x f) (part_at ring x f))
      step true ih = (h.0, ih)
      step false ih = ih

  strip_canonical : (x : List ℕ) (f : List Term) → AllAt x f → IsCanonical ring f → IsCanonical ring (strip ring f)
  strip_canonical x [] a h = tt
  strip_canonical x (y ∷ f) a h = (h.0, h.1, without_length y.exponents h.2, starts f a.1 h.3 h.4, strip_canonical x f a.1 h.4)
    where
      starts : (f : List Term) → AllAt x f → StartsBelow ring y.exponents f → IsCanonical ring f
          → StartsBelow ring (without_variables ring y.exponents) (strip ring f)
      starts [] b s k = tt
      starts (z ∷ f) b s k = without_compared z.exponents y.exponents k.2 h.2 (b.0 ∙ sym a.0) s

  strip_low : (f : List Term) → IsOfRing ring f → HasLowDegrees f → HasLowDegrees (strip ring f)
  strip_low [] h l = tt
  strip_low (y ∷ f) h l = (omega (arith, without_degree y.exponents h.0, l.0), strip_low f h.1 l.1)

  strip_free : (f : List Term) → HasNoVariables ring (strip ring f)
  strip_free [] = tt
  strip_free (y ∷ f) =
      (take_at (replicate ring.variables 0) (drop ring.variables y.exponents) ring.variables (length-replicate {A = ℕ} ring.variables 0), strip_free f)

  pub lc_x_canonical : (f : List Term) → IsCanonical ring f → IsCanonical ring (lc_x ring f)
  lc_x_canonical f h = strip_canonical (lead_x ring f) (part_at ring (lead_x ring f) f) (part_all (lead_x ring f) f) (part_canonical (lead_x ring f) f h)

  pub lc_x_poly : (f : List Term) → IsPoly ring f → IsPoly ring (lc_x ring f)
  lc_x_poly f h =
      let part = part_canonical (lead_x ring f) f h.canonical in
      record {
        canonical = lc_x_canonical f h.canonical;
        low = strip_low (part_at ring (lead_x ring f) f) (canonical_of_ring ring (part_at ring (lead_x ring f) f) part) (part_low (lead_x ring f) f h.low);
      }

  -- that of a polynomial that is not 0
  pub lc_x_some : (y : Term) (f : List Term)
      → lc_x ring (y ∷ f) ≡ term y.coefficient (without_variables ring y.exponents) ∷ strip ring (part_at ring (take ring.variables y.exponents) f)
  lc_x_some y f = rw (cmp_self (take ring.variables y.exponents)) refl

  pub lc_x_free : (f : List Term) → HasNoVariables ring (lc_x ring f)
  lc_x_free f = strip_free (part_at ring (lead_x ring f) f)

  -- coefficients

  only_both : (a b c d : List ℕ) → (a ≡ b → c ≡ d) → (c ≡ d → a ≡ b) → indicator a b ≡ indicator c d
  only_both a b c d h k = step (slice_cmp nat_cmp a b) refl
    where
      other : (a ≡ b → ⊥) → indicator a b ≡ indicator c d
      other n = only_other a b n ∙ sym (only_other c d (λ e. n (k e)))

      step : (o : Ordering) → slice_cmp nat_cmp a b ≡ o → indicator a b ≡ indicator c d
      step Less e = other (λ q. apart a b Less q e (λ z. cc))
      step Equal e =
          let q = cmp_equal a b e in
          let r = h q in
          ap (indicator a) (sym q) ∙ (only_same a ∙ sym (ap (indicator c) (sym r) ∙ only_same c))
      step Greater e = other (λ q. apart a b Greater q e (λ z. cc))

  total_part : (x u : List ℕ) → length x ≡ ring.variables → length u ≡ ring.parameters → (f : List Term) → IsOfRing ring f
      → total (indicator (replicate ring.variables 0 ++ u)) (strip ring (part_at ring x f)) ≡ total (indicator (x ++ u)) f
  total_part x u lx lu [] h = refl
  total_part x u lx lu (y ∷ f) h = step (slice_cmp nat_cmp (take ring.variables y.exponents) x) refl (total_part x u lx lu f h.1)
    where
      split : take ring.variables y.exponents ++ drop ring.variables y.exponents ≡ y.exponents
      split = take-append-drop ring.variables y.exponents

      elsewhere : (o : Ordering) → slice_cmp nat_cmp (take ring.variables y.exponents) x ≡ o → (o ≡ Equal → ⊥) → indicator (x ++ u) y.exponents ≡ 0
      elsewhere o e n =
          only_other (x ++ u) y.exponents
          (λ q. apart (take ring.variables y.exponents) x o (ap (take ring.variables) (sym q) ∙ take_at x u ring.variables lx) e n)

      step : (o : Ordering) → slice_cmp nat_cmp (take ring.variables y.exponents) x ≡ o
          → total (indicator (replicate ring.variables 0 ++ u)) (strip ring (part_at ring x f)) ≡ total (indicator (x ++ u)) f
          → total (indicator (replicate ring.variables 0 ++ u)) (strip ring (cond (is_eq o) (y ∷ part_at ring x f) (part_at ring x f)))
          ≡ y.coefficient * indicator (x ++ u) y.exponents + total (indicator (x ++ u)) f
      step Less e ih = rw (elsewhere Less e (λ z. cc)) (omega (arith, ih))
      step Greater e ih = rw (elsewhere Greater e (λ z. cc)) (omega (arith, ih))
      step Equal e ih =
          let q : take ring.variables y.exponents ≡ x = cmp_equal (take ring.variables y.exponents) x e in
          let s : indicator (replicate ring.variables 0 ++ u) (replicate ring.variables 0 ++ drop ring.variables y.exponents) ≡ indicator (x ++ u) y.exponents =
          only_both (replicate ring.variables 0 ++ u) (replicate ring.variables 0 ++ drop ring.variables y.exponents) (x ++ u) y.exponents
          (λ a. let b : u ≡ drop ring.variables y.exponents =
          append_cancel_left (replicate ring.variables 0) u (drop ring.variables y.exponents) a in cc (b, q, split))
          (λ a. let b : u ≡ drop ring.variables y.exponents = sym (drop_at x u ring.variables lx) ∙ ap (drop ring.variables) a in
          ap (λ k. replicate ring.variables 0 ++ k) b) in
          cc (s, ih)

  pub lc_x_coefficient : (f : List Term) (u : List ℕ) → IsOfRing ring f → length u ≡ ring.parameters
      → coefficient ring.modulus (lc_x ring f) (replicate ring.variables 0 ++ u) ≡ coefficient ring.modulus f (lead_x ring f ++ u)
  lc_x_coefficient [] u h l = refl
  lc_x_coefficient (y ∷ f) u h l =
      let lx : length (take ring.variables y.exponents) ≡ ring.variables = omega (arith, length-take ring.variables y.exponents, h.0) in
      ap (λ n. n % ring.modulus) (total_part (take ring.variables y.exponents) u lx l (y ∷ f) h)

-- the leading monomial
pub lead_first : (f : List Term) (y : Term) → slice_get f 0 ≡ Some y → leading_monomial f ≡ y.exponents
lead_first [] y e = absurd (cc)
lead_first (z ∷ f) y e = let s : z ≡ y = cc in ap (λ (k : Term). k.exponents) s

-- a draft that has the part of f at x, without its variables
pub record HoldsPart (ring : Ring) (x : List ℕ) (f : List Term) (draft : Draft) : Type 0 where
  pub flat : IsFlat draft
  pub places : draft.places ≡ places ring
  pub terms : terms_in draft ≡ strip ring (part_at ring x f)

module _ (ring : Ring) (x : List ℕ) (f : List Term) (i c : ℕ) (m : List ℕ) (get : slice_get f i ≡ Some (term c m)) where
  pub part_pushed : (a b : Draft) (zeros rest : List ℕ) → Appended a b (term c (zeros ++ rest) ∷ []) → zeros ≡ replicate ring.variables 0
      → rest ≡ drop ring.variables m → take ring.variables m ≡ x → HoldsPart ring x (take i f) a → HoldsPart ring x (take (i + 1) f) b
  part_pushed a b zeros rest h z r e k =
      let more = part_more ring x f i (term c m) get in
      let one = part_same ring x (term c m) e in
      let t : terms_in b ≡ terms_in a ++ term c (zeros ++ rest) ∷ [] = h.terms in
      let u : zeros ++ rest ≡ without_variables ring m = cc (z, r) in
      record {
        flat = h.flat;
        places = h.places ∙ k.places;
        terms = h.terms ∙ (ap (λ n. terms_in a ++ term c n ∷ []) u
            ∙ (ap (λ l. l ++ term c (without_variables ring m) ∷ []) k.terms ∙ (ap (λ l. strip ring (part_at ring x (take i f)) ++ l) (sym one) ∙ sym more)));
      }

  pub part_kept : (a : Draft) → (take ring.variables m ≡ x → ⊥) → HoldsPart ring x (take i f) a → HoldsPart ring x (take (i + 1) f) a
  part_kept a n k =
      let more = part_more ring x f i (term c m) get in
      let none = part_other ring x (term c m) n in
      record {
        flat = k.flat;
        places = k.places;
        terms = k.terms ∙ (sym (append-nil (strip ring (part_at ring x (take i f))))
            ∙ (ap (λ l. strip ring (part_at ring x (take i f)) ++ strip ring l) (sym none) ∙ sym more));
      }

-- the test for variables

pub tested_free : (ring : Ring) (f : List Term) → has_no_variables ring f ≡ true → HasNoVariables ring f
tested_free ring [] h = tt
tested_free ring (y ∷ f) h = let p = and_parts _ _ h in
    (by_cmp (slice_cmp nat_cmp (take ring.variables y.exponents) (replicate ring.variables 0)) refl p.0, tested_free ring f p.1)
  where
    by_cmp : (o : Ordering) → slice_cmp nat_cmp (take ring.variables y.exponents) (replicate ring.variables 0) ≡ o
        → is_eq o ≡ true → take ring.variables y.exponents ≡ replicate ring.variables 0
    by_cmp Less e k = cc
    by_cmp Equal e k = cmp_equal (take ring.variables y.exponents) (replicate ring.variables 0) e
    by_cmp Greater e k = cc

pub free_tested : (ring : Ring) (f : List Term) → HasNoVariables ring f → has_no_variables ring f ≡ true
free_tested ring [] h = refl
free_tested ring (y ∷ f) h =
    and_from _ _ (ap (λ m. is_eq (slice_cmp nat_cmp m (replicate ring.variables 0))) h.0
    ∙ ap is_eq (cmp_self (replicate ring.variables 0))) (free_tested ring f h.1)

pub test_exact : (ring : Ring) (f : List Term) (b : Bool) → b ≡ has_no_variables ring f → IsTrue b ↔ HasNoVariables ring f
test_exact ring f b e = (λ t. tested_free ring f (sym e ∙ t), λ h. e ∙ free_tested ring f h)

others_apart : (m n : List ℕ) → (m ≡ n → ⊥) → is_eq (slice_cmp nat_cmp m n) ≡ false
others_apart m n other = step (slice_cmp nat_cmp m n) refl
  where
    step : (o : Ordering) → slice_cmp nat_cmp m n ≡ o → is_eq o ≡ false
    step Less e = refl
    step Equal e = absurd (other (cmp_equal m n e))
    step Greater e = refl

-- a place whose term has no variable, one whose term has one, and the end

module _ (ring : Ring) (f : List Term) (i : ℕ) (so_far : has_no_variables ring (drop i f) ≡ has_no_variables ring f) where
  here : (x : Term) → slice_get f i ≡ Some x
      → (is_eq (slice_cmp nat_cmp (take ring.variables x.exponents) (replicate ring.variables 0)) && has_no_variables ring (drop (i + 1) f))
      ≡ has_no_variables ring f
  here x e = sym (ap (has_no_variables ring) (drop_from f i x e)) ∙ so_far

  pub free_place : (x : Term) → slice_get f i ≡ Some x → take ring.variables x.exponents ≡ replicate ring.variables 0
      → has_no_variables ring (drop (i + 1) f) ≡ has_no_variables ring f
  free_place x e z =
      let t : is_eq (slice_cmp nat_cmp (take ring.variables x.exponents) (replicate ring.variables 0)) ≡ true =
      ap (λ m. is_eq (slice_cmp nat_cmp m (replicate ring.variables 0))) z ∙ ap is_eq (cmp_self (replicate ring.variables 0)) in
      sym (ap (λ b. b && has_no_variables ring (drop (i + 1) f)) t) ∙ here x e

  pub other_place : (x : Term) → slice_get f i ≡ Some x → (take ring.variables x.exponents ≡ replicate ring.variables 0 → ⊥) → false ≡ has_no_variables ring f
  other_place x e n =
      sym (ap (λ b. b && has_no_variables ring (drop (i + 1) f)) (others_apart (take ring.variables x.exponents) (replicate ring.variables 0) n)) ∙ here x e

  pub free_end : length f ≤ i → true ≡ has_no_variables ring f
  free_end l = sym (at_drop_all (has_no_variables ring) f i l) ∙ so_far
