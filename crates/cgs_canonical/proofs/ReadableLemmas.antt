-- What a polynomial line spells is a polynomial that may be printed and read again.
use Rattle.std.proofs.Common.{◌≡◌, ℕ, zero, suc, ◌+◌, ◌%◌, eqb, ◌<◌, ◌≤◌, ◌⊎◌, inl, inr, Bool, true, false, cond, ltb, ltb-true, ltb-false, List, [], ◌∷◌}
use Rattle.std.proofs.Common.{get_or, take, length, set, replicate, Result, Ok, Err, Some, None, refl, ap, ◌∙◌, arith, bytes_eq}
use Rattle.std.specs.List.{AllByRecursion, position_or_len}
use Rattle.std.specs.declared.cmp.Ordering.{Ordering}
use Rattle.std.specs.declared.cmp.Ordering.TheVariants.{Less, Equal, Greater}
use Rattle.std.proofs.lemmas.List.{length-set, length-replicate, take-set-le}
use Rattle.std.proofs.lemmas.List.Sums.{sum_by-set}
use Rattle.std.proofs.lemmas.List.Folds.{sum_by-replicate}
use Rattle.cgs_exps.specs.Monomial.{degree}
use Rattle.cgs_order.specs.TermOrder.{compared}
use Rattle.cgs_poly.specs.Ring.{Ring}
use Rattle.cgs_poly.specs.Polynomial.{Term, term, places, order_of, kept, inserted, canonical, greatest_degree, IsOfRing}
use Rattle.cgs_poly.proofs.CanonicalLemmas.{is_canonical}
use Rattle.cgs_list.specs.Results.{and_then}
use Rattle.cgs_problem.specs.declared.fault.TextKind.{TextKind}
use Rattle.cgs_problem.specs.declared.fault.TextKind.TheVariants as fault
use Rattle.cgs_problem.specs.Lexemes.{Lexeme, name, number, plus, minus, times, power}
use Rattle.cgs_problem.specs.Sums.{Reader, place_in, place_of, exponent_of, times_number, times_power, one, minus_one, with_term, product, follow}
use Rattle.cgs_problem.specs.Sums.{terms_said, polynomial_said}
use Rattle.cgs_canonical.proofs.MonomialLemmas.{IsAllowed}
use Rattle.cgs_canonical.proofs.PolynomialLemmas.{IsReadable}
use Rattle.cgs_canonical.proofs.NameLemmas.{Holds}

-- a reader with a name for each place, which bars no place or the variables'
pub record IsBarred (reader : Reader) : Type 0 where
  pub named : length reader.names ≡ places reader.ring
  pub barred : (reader.barred ≡ 0) ⊎ (reader.barred ≡ reader.ring.variables)

pub bind_holds : {A B : Type 0} (P : A → Type 0) (Q : B → Type 0) (r : Result A TextKind) (f : A → Result B TextKind) → Holds P r
    → ((x : A) → P x → Holds Q (f x)) → Holds Q (and_then r f)
bind_holds P Q (Ok x) f h k = k x h
bind_holds P Q (Err e) f h k = tt

take_zeros : (n m : ℕ) → take n (replicate {A = ℕ} (n + m) 0) ≡ replicate n 0
take_zeros n m = take_front n (n + m) (omega arith)
  where
    take_front : (n k : ℕ) → n ≤ k → take n (replicate {A = ℕ} k 0) ≡ replicate n 0
    take_front zero k le = refl
    take_front (suc n) zero le = absurd (omega arith)
    take_front (suc n) (suc k) le = ap (λ l. 0 ∷ l) (take_front n k (omega arith))

one_allowed : (reader : Reader) → IsBarred reader → IsAllowed reader (replicate (places reader.ring) 0)
one_allowed reader h = record {
  places = length-replicate {A = ℕ} (places reader.ring) 0;
  low = omega (arith, sum_by-replicate (λ x. x) (places reader.ring) 0);
  free = elim h.barred [ inl none ↦ inl none | inr all ↦ inr (take_zeros reader.ring.variables reader.ring.parameters) ];
}

raised_allowed : (reader : Reader) (es : List ℕ) (place e : ℕ) → IsBarred reader → IsAllowed reader es → place < length es → reader.barred ≤ place
    → degree es + e ≤ reader.most
    → IsAllowed reader (set es place (get_or es place 0 + e))
raised_allowed reader es place e b h lt le low = record {
  places = length-set es place (get_or es place 0 + e) ∙ h.places;
  low = omega (arith, sum_by-set (λ x. x) es place (get_or es place 0 + e) 0 lt);
  free = elim h.free [ inl none ↦ inl none | inr absent ↦ further absent (elim b.barred [ inl none ↦ inl none | inr all ↦ inr all ]) ];
}
  where
    further : take reader.ring.variables es ≡ replicate reader.ring.variables 0 → (reader.barred ≡ 0) ⊎ (reader.barred ≡ reader.ring.variables)
        → (reader.barred ≡ 0) ⊎ (take reader.ring.variables (set es place (get_or es place 0 + e)) ≡ replicate reader.ring.variables 0)
    further absent (inl none) = inl none
    further absent (inr all) = let v : reader.ring.variables ≤ place =
        omega arith in inr (take-set-le reader.ring.variables es place (get_or es place 0 + e) v ∙ absent)

place_known : (reader : Reader) (word : List ℕ) → Holds (λ place. (place < length reader.names) × (reader.barred ≤ place)) (place_of reader word)
place_known reader word = found (ltb (position_or_len (bytes_eq word) reader.names) (length reader.names)) refl
  where
    at : ℕ
    at = position_or_len (bytes_eq word) reader.names

    good : Result ℕ TextKind → Type 0
    good r = Holds (λ place. (place < length reader.names) × (reader.barred ≤ place)) r

    free : (t : Bool) → ltb at reader.barred ≡ t → at < length reader.names → good (cond t (Err fault.Variable) (Ok at))
    free true e lt = tt
    free false e lt = (lt, ltb-false _ _ e)

    found : (t : Bool) → ltb at (length reader.names) ≡ t → good (place_in reader.barred (cond t (Some at) None))
    found true e = free (ltb at reader.barred) refl (ltb-true _ _ e)
    found false e = tt

power_allowed : (reader : Reader) (t : Term) (place e : ℕ) → IsBarred reader → IsAllowed reader t.exponents
    → (place < length reader.names) × (reader.barred ≤ place)
    → Holds (λ (next : Term). IsAllowed reader next.exponents) (times_power reader place e t)
power_allowed reader t place e b h p = step (ltb reader.most (degree t.exponents + e)) refl
  where
    step : (s : Bool) → ltb reader.most (degree t.exponents + e) ≡ s
        → Holds (λ (next : Term). IsAllowed reader next.exponents)
        (cond s (Err fault.Degree) (Ok (term t.coefficient (set t.exponents place (get_or t.exponents place 0 + e)))))
    step true q = tt
    step false q = raised_allowed reader t.exponents place e b h (let n = b.named in let m = h.places in let l = p.0 in omega arith) p.1 (ltb-false _ _ q)

abbrev AllAllowed : Reader → List Term → Type 0
AllAllowed reader terms = AllByRecursion (λ (t : Term). IsAllowed reader t.exponents) terms

term_before : (reader : Reader) (t : Term) (read : Result (List Term) TextKind) → IsAllowed reader t.exponents → Holds (AllAllowed reader) read
    → Holds (AllAllowed reader) (with_term t read)
term_before reader t (Ok terms) h k = (h, k)
term_before reader t (Err e) h k = tt

exponent_known : (n : ℕ) → Holds (λ e. Unit {0}) (exponent_of n)
exponent_known n = step (ltb greatest_degree n)
  where
    step : (t : Bool) → Holds {A = ℕ} (λ e. Unit {0}) (cond t (Err fault.Exponent) (Ok n))
    step true = tt
    step false = tt

abbrev IsPlaceIn : Reader → ℕ → Type 0
IsPlaceIn reader place = (place < length reader.names) × (reader.barred ≤ place)

abbrev IsNext : Reader → Term → Type 0
IsNext reader next = IsAllowed reader next.exponents

mutual
  unfolding product follow

  product_allowed : (reader : Reader) (t : Term) (lexemes : List Lexeme) → IsBarred reader → IsAllowed reader t.exponents
      → Holds (AllAllowed reader) (product reader t lexemes)
  product_allowed reader t [] b h = tt
  product_allowed reader t (number n ∷ lexemes) b h = follow_allowed reader (times_number reader n t) lexemes b h
  product_allowed reader t (name word ∷ power ∷ number n ∷ lexemes) b h =
      bind_holds (IsPlaceIn reader) (AllAllowed reader) (place_of reader word)
      (λ place. and_then (exponent_of n) (λ exponent. and_then (times_power reader place exponent t) (λ next. follow reader next lexemes)))
      (place_known reader word)
      (λ place p. bind_holds (λ e. Unit {0}) (AllAllowed reader) (exponent_of n)
      (λ exponent. and_then (times_power reader place exponent t) (λ next. follow reader next lexemes)) (exponent_known n)
      (λ e u. bind_holds (IsNext reader) (AllAllowed reader) (times_power reader place e t) (λ next. follow reader next lexemes)
      (power_allowed reader t place e b h p) (λ next k. follow_allowed reader next lexemes b k)))
  product_allowed reader t (name word ∷ power ∷ lexemes) b h =
      bind_holds (IsPlaceIn reader) (AllAllowed reader) (place_of reader word) (λ place. Err fault.Syntax) (place_known reader word) (λ place p. tt)
  product_allowed reader t (name word ∷ lexemes) b h =
      bind_holds (IsPlaceIn reader) (AllAllowed reader) (place_of reader word)
      (λ place. and_then (times_power reader place 1 t) (λ next. follow reader next lexemes)) (place_known reader word)
      (λ place p. bind_holds (IsNext reader) (AllAllowed reader) (times_power reader place 1 t) (λ next. follow reader next lexemes)
      (power_allowed reader t place 1 b h p) (λ next k. follow_allowed reader next lexemes b k))
  product_allowed reader t (lexeme ∷ lexemes) b h = tt

  follow_allowed : (reader : Reader) (t : Term) (lexemes : List Lexeme) → IsBarred reader → IsAllowed reader t.exponents
      → Holds (AllAllowed reader) (follow reader t lexemes)
  follow_allowed reader t [] b h = (h, tt)
  follow_allowed reader t (times ∷ lexemes) b h = product_allowed reader t lexemes b h
  follow_allowed reader t (plus ∷ lexemes) b h =
      term_before reader t (product reader (one reader) lexemes) h (product_allowed reader (one reader) lexemes b (one_allowed reader b))
  follow_allowed reader t (minus ∷ lexemes) b h =
      term_before reader t (product reader (minus_one reader) lexemes) h (product_allowed reader (minus_one reader) lexemes b (one_allowed reader b))
  follow_allowed reader t (lexeme ∷ lexemes) b h = tt

terms_allowed : (reader : Reader) (lexemes : List Lexeme) → IsBarred reader → Holds (AllAllowed reader) (terms_said reader lexemes)
terms_allowed reader (plus ∷ lexemes) b = product_allowed reader (one reader) lexemes b (one_allowed reader b)
terms_allowed reader (minus ∷ lexemes) b = product_allowed reader (minus_one reader) lexemes b (one_allowed reader b)
terms_allowed reader lexemes b = product_allowed reader (one reader) lexemes b (one_allowed reader b)

-- the canonical list has no other monomials

module _ (P : List ℕ → Type 0) where
  abbrev OfEach : List Term → Type 0
  OfEach f = AllByRecursion (λ (t : Term). P t.exponents) f

  of_kept : (ring : Ring) (c : ℕ) (m : List ℕ) (f : List Term) → P m → OfEach f → OfEach (kept ring c m f)
  of_kept ring c m f p h = step (eqb (c % ring.modulus) 0)
    where
      step : (b : Bool) → OfEach (cond b f (term (c % ring.modulus) m ∷ f))
      step true = h
      step false = (p, h)

  of_inserted : (ring : Ring) (c : ℕ) (m : List ℕ) (f : List Term) → P m → OfEach f → OfEach (inserted ring c m f)
  of_inserted ring c m [] p h = of_kept ring c m [] p tt
  of_inserted ring c m (y ∷ f) p h = step (compared (order_of ring) m y.exponents) (of_inserted ring c m f p h.1)
    where
      step : (o : Ordering) → OfEach (inserted ring c m f)
          → OfEach (elim o [ Less ↦ y ∷ inserted ring c m f | Equal ↦ kept ring (c + y.coefficient) m f | Greater ↦ kept ring c m (y ∷ f) ])
      step Less ih = (h.0, ih)
      step Equal ih = of_kept ring (c + y.coefficient) m f p h.1
      step Greater ih = of_kept ring c m (y ∷ f) p h

  of_canonical : (ring : Ring) (f : List Term) → OfEach f → OfEach (canonical ring f)
  of_canonical ring [] h = tt
  of_canonical ring (t ∷ f) h = of_inserted ring t.coefficient t.exponents (canonical ring f) h.0 (of_canonical ring f h.1)

of_ring : (reader : Reader) (f : List Term) → AllAllowed reader f → IsOfRing reader.ring f
of_ring reader [] h = tt
of_ring reader (t ∷ f) h = (h.0.places, of_ring reader f h.1)

-- The polynomial of a line is readable.
pub polynomial_readable : (reader : Reader) (lexemes : List Lexeme) → 0 < reader.ring.modulus → IsBarred reader
    → Holds (IsReadable reader) (polynomial_said reader lexemes)
polynomial_readable reader lexemes pos b =
    bind_holds (AllAllowed reader) (IsReadable reader) (terms_said reader lexemes) (λ terms. Ok (canonical reader.ring terms)) (terms_allowed reader lexemes b)
    (λ terms h. record {
      canonical = is_canonical reader.ring terms pos (of_ring reader terms h);
      allowed =
          of_canonical (IsAllowed reader) reader.ring terms h;
    })
