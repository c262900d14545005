-- One step of a run that a loop makes, with the remainder so far and the terms that are left.
use Rattle.std.proofs.Common.{ℕ, zero, suc, ◌≡◌, ◌+◌, ◌-◌, ◌<◌, ◌≤◌, Bool, true, false, cond, List, [], ◌∷◌, ◌++◌, length, get_or, set, drop, Some}
use Rattle.std.proofs.Common.{refl, sym, ap, ◌∙◌, arith}
use Rattle.std.proofs.lemmas.Bool.{lt-ltb, le-ltb}
use Rattle.std.proofs.lemmas.Option.{unwrap_or-slice_get}
use Rattle.std.specs.Prelude.{slice_get, unwrap_or}
use Rattle.cgs_list.proofs.ListLemmas.{drop_at}
use Rattle.cgs_exps.specs.Monomial.{divides, quotient}
use Rattle.cgs_poly.specs.Ring.{Ring}
use Rattle.cgs_poly.specs.Polynomial.{Term, term, HasLowDegrees}
use Rattle.cgs_poly.specs.Draft.{HaveLength}
use Rattle.cgs_poly.specs.declared.fault.PolyFault.{PolyFault}
use Rattle.cgs_poly.specs.declared.fault.PolyFault.TheVariants as fault
use Rattle.cgs_poly.specs.Product.{multiple, leading_monomial}
use Rattle.cgs_algebra.specs.Groebner.{AreMonic, leading_monomial_at}
use Rattle.cgs_divide.specs.declared.stop.Stop.TheVariants as stop
use Rattle.cgs_divide.specs.Stop.{stop_of}
use Rattle.cgs_divide.specs.declared.division.Division.{Division}
use Rattle.cgs_divide.specs.Ending.{Ending, out_of_budget, out_of_degree, charged}
use Rattle.cgs_divide.specs.DivisionRun.{first_divisor, is_too_high, less_multiple, with_remainder, with_quotient}
use Rattle.cgs_divide.specs.DivisionRun.{divided}
use Rattle.cgs_divide.proofs.QuotientLemmas.{not_too_high, too_high}
use Rattle.cgs_divide.proofs.RunLemmas.{divided_kept, divided_taken}
use Rattle.cgs_divide.proofs.ResumedLemmas.{resumed, resumed_charged, resumed_remainder, resumed_quotient}

-- the first divisor

pub first_at : (G : List (List Term)) (m : List ℕ) (i : ℕ) → i < length G → i ≤ first_divisor G m → divides (leading_monomial_at G i) m ≡ true
    → first_divisor G m ≡ i
first_at [] m i l h d = absurd (omega arith)
first_at (g ∷ G) m zero l h d = rw d refl
first_at (g ∷ G) m (suc i) l h d = by_test (divides (leading_monomial g) m) h (λ k. first_at G m i (omega arith) k d)
  where
    by_test : (b : Bool) → suc i ≤ cond b 0 (suc (first_divisor G m))
        → (i ≤ first_divisor G m → first_divisor G m ≡ i) → cond b 0 (suc (first_divisor G m)) ≡ suc i
    by_test true k ih = absurd (omega arith)
    by_test false k ih = ap suc (ih (omega arith))

pub not_first : (G : List (List Term)) (m : List ℕ) (i : ℕ) → i < length G → i ≤ first_divisor G m → divides (leading_monomial_at G i) m ≡ false
    → i + 1 ≤ first_divisor G m
not_first [] m i l h d = absurd (omega arith)
not_first (g ∷ G) m zero l h d = rw d (omega arith)
not_first (g ∷ G) m (suc i) l h d = by_test (divides (leading_monomial g) m) h (λ k. not_first G m i (omega arith) k d)
  where
    by_test : (b : Bool) → suc i ≤ cond b 0 (suc (first_divisor G m))
        → (i ≤ first_divisor G m → i + 1 ≤ first_divisor G m) → suc i + 1 ≤ cond b 0 (suc (first_divisor G m))
    by_test true k ih = absurd (omega arith)
    by_test false k ih = let a = ih (omega arith) in omega arith

-- what is read of a list

pub get_read : {X : Type 0} (xs : List X) (i : ℕ) (x d : X) → slice_get xs i ≡ Some x → get_or xs i d ≡ x
get_read xs i x d e = sym (unwrap_or-slice_get xs i d) ∙ ap (λ o. unwrap_or o d) e

-- steps that end the run, and steps that are paid

pub charged_little : {A : Type 0} (cost units : ℕ) (run : Ending A) → units < cost → charged cost units run ≡ out_of_budget units
charged_little cost units run h = rw (lt-ltb units cost h) refl

pub charged_enough : {A : Type 0} (cost units : ℕ) (run : Ending A) → cost ≤ units → charged cost units run ≡ run
charged_enough cost units run h = rw (le-ltb units cost h) refl

module _ (ring : Ring) (G : List (List Term)) (ok : AreMonic ring G) (Q : List (List Term)) (units : ℕ)
    (before rest : List Term) (x : Term) (here : slice_get rest 0 ≡ Some x) where
  -- the run that is left behind the remainder so far
  abbrev left_run : Ending Division
  left_run = resumed before Q (divided ring G units rest)

  first_is : rest ≡ x ∷ drop 1 rest
  first_is = drop_at rest 0 x here

  -- no lead divides the term
  left_kept : length G ≤ first_divisor G x.exponents → left_run ≡ charged 1 units (resumed (before ++ x ∷ []) Q (divided ring G (units - 1) (drop 1 rest)))
  left_kept none =
      let next : Ending Division = divided ring G (units - 1) (drop 1 rest) in
      let a = ap (λ f. resumed before Q (divided ring G units f)) first_is in
      let b = ap (λ r. resumed before Q r) (divided_kept ring G ok units x (drop 1 rest) none) in
      let c = resumed_charged before Q 1 units (with_remainder x next) in
      a ∙ (b ∙ (c ∙ ap (λ r. charged 1 units r) (resumed_remainder before Q x next)))

  pub kept_step : length G ≤ first_divisor G x.exponents → 1 ≤ units → left_run ≡ resumed (before ++ x ∷ []) Q (divided ring G (units - 1) (drop 1 rest))
  kept_step none enough = left_kept none ∙ charged_enough 1 units _ enough

  pub kept_stop : length G ≤ first_divisor G x.exponents → units < 1 → left_run ≡ out_of_budget units
  kept_stop none little = left_kept none ∙ charged_little 1 units _ little

  module _ (i : ℕ) (g : List Term) (first : first_divisor G x.exponents ≡ i) (l : i < length G) (place : get_or G i [] ≡ g) where
    abbrev t : List ℕ
    t = quotient x.exponents (leading_monomial g)

    -- the step by a divisor on terms that are left, and the run after it
    abbrev taken : List Term → List Term → Ending Division
    taken f d =
        let m = quotient x.exponents (leading_monomial d) in
        charged (length d) units
        (resumed before Q (cond (is_too_high (multiple x.coefficient m d)) (out_of_degree (units - length d))
        (with_quotient i (term x.coefficient m) (divided ring G (units - length d) (less_multiple ring f x.coefficient m d)))))

    left_taken : left_run ≡ taken rest g
    left_taken =
        let a = ap (λ f. resumed before Q (divided ring G units f)) first_is in
        let b = ap (λ r. resumed before Q r) (divided_taken ring G ok units i x (drop 1 rest) first l) in
        let c = resumed_charged before Q (length (get_or G i [])) units _ in
        a ∙ (b ∙ (c ∙ (ap (λ f. taken f (get_or G i [])) (sym first_is) ∙ ap (taken rest) place)))

    pub taken_budget : units < length g → left_run ≡ out_of_budget units
    taken_budget little = left_taken ∙ charged_little (length g) units _ little

    pub taken_degree : length g ≤ units → is_too_high (multiple x.coefficient t g) ≡ true → left_run ≡ out_of_degree (units - length g)
    taken_degree enough high = left_taken ∙ (charged_enough (length g) units _ enough ∙ rw high refl)

    pub taken_step : (next : List Term) → next ≡ less_multiple ring rest x.coefficient t g → length g ≤ units → is_too_high (multiple x.coefficient t g) ≡ false
        → left_run ≡ resumed before (set Q i (get_or Q i [] ++ term x.coefficient t ∷ [])) (divided ring G (units - length g) next)
    taken_step next e enough low =
        let a = charged_enough (length g) units _ enough in
        let b = resumed_quotient before Q i (term x.coefficient t) (divided ring G (units - length g) (less_multiple ring rest x.coefficient t g)) in
        left_taken ∙ (a ∙ rw (low, e) b)

-- the quotients

pub set_keeps : (P : List Term → Type 0) (Q : List (List Term)) (i : ℕ) (q : List Term) (j : ℕ) → P (get_or Q j []) → P q → P (get_or (set Q i q) j [])
set_keeps P [] i q j h k = h
set_keeps P (y ∷ Q) zero q zero h k = k
set_keeps P (y ∷ Q) zero q (suc j) h k = h
set_keeps P (y ∷ Q) (suc i) q zero h k = h
set_keeps P (y ∷ Q) (suc i) q (suc j) h k = set_keeps P Q i q j h k

pub lengths_append : (p : ℕ) (f : List Term) (c : ℕ) (m : List ℕ) → HaveLength p f → length m ≡ p → HaveLength p (f ++ term c m ∷ [])
lengths_append p [] c m h l = (l, tt)
lengths_append p (y ∷ f) c m h l = (h.0, lengths_append p f c m h.1 l)

-- the stops

pub no_budget : (k : PolyFault) → ¬ (stop_of k ≡ stop.Budget)
no_budget fault.Degree e = cc
no_budget fault.OutOfMemory e = cc

pub fault_of_degree : (k : PolyFault) → stop_of k ≡ stop.Degree → k ≡ fault.Degree
fault_of_degree fault.Degree e = refl
fault_of_degree fault.OutOfMemory e = absurd (cc)

pub high_unless_low : (f : List Term) → ¬ HasLowDegrees f → is_too_high f ≡ true
high_unless_low f h = by_test (is_too_high f) refl
  where
    by_test : (b : Bool) → is_too_high f ≡ b → b ≡ true
    by_test true e = refl
    by_test false e = absurd (h (not_too_high f e))

pub low_not_high : (f : List Term) → HasLowDegrees f → is_too_high f ≡ false
low_not_high f h = by_test (is_too_high f) refl
  where
    by_test : (b : Bool) → is_too_high f ≡ b → b ≡ false
    by_test true e = absurd (too_high f e h)
    by_test false e = refl
