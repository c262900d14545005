-- A division run after terms that were found before it: what a loop has done so far, and the run that is left to it.
use Rattle.std.proofs.Common.{ℕ, zero, suc, ◌≡◌, ◌-◌, Bool, true, false, cond, ltb, List, [], ◌∷◌, ◌++◌, length, get_or, set, append_assoc, refl, sym, ap, ◌∙◌}
use Rattle.std.proofs.Common.{◌≤◌, replicate, take}
use Rattle.std.proofs.Common.{arith}
use Rattle.std.proofs.lemmas.List.{append-nil}
use Rattle.std.proofs.Math.Seq.{take-length}
use Rattle.cgs_exps.specs.Monomial.{quotient}
use Rattle.cgs_poly.specs.Ring.{Ring}
use Rattle.cgs_poly.specs.Polynomial.{Term, term}
use Rattle.cgs_poly.specs.Product.{multiple, leading_monomial}
use Rattle.cgs_divide.specs.declared.division.Division.{Division}
use Rattle.cgs_divide.specs.Ending.{Ending, ended, out_of_budget, out_of_degree, followed, charged}
use Rattle.cgs_divide.specs.DivisionRun.{done, keeping, first_divisor, is_too_high, less_multiple, with_remainder}
use Rattle.cgs_divide.specs.DivisionRun.{with_quotient, added_at, divided_in, divided}
use Rattle.cgs_divide.proofs.QuotientLemmas.{added_length, zeros, zeros_length}

-- the terms of each quotient after those of the same place
abbrev joined : List (List Term) → List (List Term) → List (List Term)
joined [] more = []
joined (q ∷ quotients) [] = []
joined (q ∷ quotients) (m ∷ more) = (q ++ m) ∷ joined quotients more

-- a run after a remainder and quotients
abbrev pub resumed : List Term → List (List Term) → Ending Division → Ending Division
resumed before quotients run = followed run (λ d. done (before ++ d.remainder) (joined quotients d.quotients))

-- a whole run is what was found so far, with quotients of which the first so many are kept, and the run that is left
pub record IsResumed (whole : Ending Division) (before : List Term) (count some : ℕ) (front : List (List Term)) (next : Ending Division) : Type 0 where
  pub quotients : List (List Term)
  pub run : whole ≡ resumed before quotients next
  pub kept : front ≡ take some quotients
  pub places : length quotients ≡ count

-- a term of the quotient at a place, of those that are kept and of all
pub front_set : (n i : ℕ) (quotients : List (List Term)) (x : Term)
    → set (take n quotients) i (get_or (take n quotients) i [] ++ x ∷ []) ≡ take n (set quotients i (get_or quotients i [] ++ x ∷ []))
front_set zero i quotients x = refl
front_set (suc n) i [] x = refl
front_set (suc n) zero (q ∷ quotients) x = refl
front_set (suc n) (suc i) (q ∷ quotients) x = ap (λ k. q ∷ k) (front_set n i quotients x)

-- what is kept at the start

pub zeros_front : (n : ℕ) (G : List (List Term)) → n ≤ length G → replicate n [] ≡ take n (zeros G)
zeros_front zero G l = refl
zeros_front (suc n) [] l = absurd (omega arith)
zeros_front (suc n) (g ∷ G) l = ap (λ k. [] ∷ k) (zeros_front n G (omega arith))

pub empty_at : (n i : ℕ) → get_or {A = List Term} (replicate n []) i [] ≡ []
empty_at zero i = refl
empty_at (suc n) zero = refl
empty_at (suc n) (suc i) = empty_at n i

pub resumed_charged : (before : List Term) (quotients : List (List Term)) (cost units : ℕ) (run : Ending Division)
    → resumed before quotients (charged cost units run) ≡ charged cost units (resumed before quotients run)
resumed_charged before quotients cost units run = by_test (ltb units cost)
  where
    by_test : (b : Bool) → resumed before quotients (cond b (out_of_budget units) run) ≡ cond b (out_of_budget units) (resumed before quotients run)
    by_test true = refl
    by_test false = refl

-- a term of the remainder
pub resumed_remainder : (before : List Term) (quotients : List (List Term)) (x : Term) (run : Ending Division)
    → resumed before quotients (with_remainder x run) ≡ resumed (before ++ x ∷ []) quotients run
resumed_remainder before quotients x (ended d units) = ap (λ f. done f (joined quotients d.quotients) units) (sym (append_assoc before (x ∷ []) d.remainder))
resumed_remainder before quotients x (out_of_budget units) = refl
resumed_remainder before quotients x (out_of_degree units) = refl

joined_added : (i : ℕ) (x : Term) (quotients more : List (List Term))
    → joined quotients (added_at i x more) ≡ joined (set quotients i (get_or quotients i [] ++ x ∷ [])) more
joined_added i x [] more = refl
joined_added zero x (q ∷ quotients) [] = refl
joined_added (suc i) x (q ∷ quotients) [] = refl
joined_added zero x (q ∷ quotients) (m ∷ more) = let e : q ++ x ∷ m ≡ (q ++ x ∷ []) ++ m = sym (append_assoc q (x ∷ []) m) in cc
joined_added (suc i) x (q ∷ quotients) (m ∷ more) = ap (λ n. (q ++ m) ∷ n) (joined_added i x quotients more)

-- a term of the quotient at a place
pub resumed_quotient : (before : List Term) (quotients : List (List Term)) (i : ℕ) (x : Term) (run : Ending Division)
    → resumed before quotients (with_quotient i x run) ≡ resumed before (set quotients i (get_or quotients i [] ++ x ∷ [])) run
resumed_quotient before quotients i x (ended d units) = ap (λ n. done (before ++ d.remainder) n units) (joined_added i x quotients d.quotients)
resumed_quotient before quotients i x (out_of_budget units) = refl
resumed_quotient before quotients i x (out_of_degree units) = refl

-- nothing is left
joined_zeros : (quotients G : List (List Term)) → length quotients ≡ length G → joined quotients (zeros G) ≡ quotients
joined_zeros [] G l = refl
joined_zeros (q ∷ quotients) [] l = absurd (omega arith)
joined_zeros (q ∷ quotients) (g ∷ G) l = cc (append-nil q, joined_zeros quotients G (omega arith))

pub resumed_done : (before : List Term) (quotients G : List (List Term)) (units : ℕ) → length quotients ≡ length G
    → resumed before quotients (done [] (zeros G) units) ≡ done before quotients units
resumed_done before quotients G units l = cc (append-nil before, joined_zeros quotients G l)

-- nothing was found before

-- a run that is done has a quotient for each divisor
abbrev HasPlaces : ℕ → Ending Division → Type 0
HasPlaces n (ended d units) = length d.quotients ≡ n
HasPlaces n (out_of_budget units) = Unit {0}
HasPlaces n (out_of_degree units) = Unit {0}

remainder_places : (n : ℕ) (x : Term) (run : Ending Division) → HasPlaces n run → HasPlaces n (with_remainder x run)
remainder_places n x (ended d units) h = h
remainder_places n x (out_of_budget units) h = tt
remainder_places n x (out_of_degree units) h = tt

quotient_places : (n i : ℕ) (x : Term) (run : Ending Division) → HasPlaces n run → HasPlaces n (with_quotient i x run)
quotient_places n i x (ended d units) h = added_length i x d.quotients ∙ h
quotient_places n i x (out_of_budget units) h = tt
quotient_places n i x (out_of_degree units) h = tt

cond_places : (n : ℕ) (b : Bool) (first second : Ending Division) → HasPlaces n first → HasPlaces n second → HasPlaces n (cond b first second)
cond_places n true first second h k = h
cond_places n false first second h k = k

run_places : (steps : ℕ) (ring : Ring) (G : List (List Term)) (units : ℕ) (f : List Term) → HasPlaces (length G) (divided_in steps ring G units f)
run_places zero ring G units f = tt
run_places (suc n) ring G units [] = zeros_length G
run_places (suc n) ring G units (x ∷ f) =
    let i : ℕ = first_divisor G x.exponents in
    let g : List Term = get_or G i [] in
    let t : List ℕ = quotient x.exponents (leading_monomial g) in
    let rest : Ending Division = divided_in n ring G (units - length g) (less_multiple ring (x ∷ f) x.coefficient t g) in
    let next : Ending Division = with_quotient i (term x.coefficient t) rest in
    let checked : Ending Division = cond (is_too_high (multiple x.coefficient t g)) (out_of_degree (units - length g)) next in
    let kept : Ending Division = with_remainder x (divided_in n ring G (units - 1) f) in
    let a : HasPlaces (length G) next =
    quotient_places (length G) i (term x.coefficient t) rest (run_places n ring G (units - length g) (less_multiple ring (x ∷ f) x.coefficient t g)) in
    let b : HasPlaces (length G) checked = cond_places (length G) (is_too_high (multiple x.coefficient t g)) (out_of_degree (units - length g)) next tt a in
    let c : HasPlaces (length G) kept = remainder_places (length G) x (divided_in n ring G (units - 1) f) (run_places n ring G (units - 1) f) in
    cond_places (length G) (ltb i (length G)) (charged (length g) units checked) (charged 1 units kept)
    (cond_places (length G) (ltb units (length g)) (out_of_budget units) checked tt b) (cond_places (length G) (ltb units 1) (out_of_budget units) kept tt c)

zeros_joined : (G more : List (List Term)) → length more ≡ length G → joined (zeros G) more ≡ more
zeros_joined [] [] l = refl
zeros_joined [] (m ∷ more) l = absurd (omega arith)
zeros_joined (g ∷ G) [] l = absurd (omega arith)
zeros_joined (g ∷ G) (m ∷ more) l = ap (λ n. m ∷ n) (zeros_joined G more (omega arith))

pub resumed_nothing : (ring : Ring) (G : List (List Term)) (units : ℕ) (f : List Term) → resumed [] (zeros G) (divided ring G units f) ≡ divided ring G units f
unfolding divided
resumed_nothing ring G units f = by_run (divided_in (suc units) ring G units f) (run_places (suc units) ring G units f)
  where
    by_run : (run : Ending Division) → HasPlaces (length G) run → resumed [] (zeros G) run ≡ run
    by_run (ended d left) h = ap (λ n. done d.remainder n left) (zeros_joined G d.quotients h)
    by_run (out_of_budget left) h = refl
    by_run (out_of_degree left) h = refl

-- all quotients are kept

pub keeping_all : (ring : Ring) (G : List (List Term)) (units : ℕ) (f : List Term) → keeping (length G) (divided ring G units f) ≡ divided ring G units f
unfolding divided
keeping_all ring G units f = by_run (divided_in (suc units) ring G units f) (run_places (suc units) ring G units f)
  where
    by_run : (run : Ending Division) → HasPlaces (length G) run → keeping (length G) run ≡ run
    by_run (ended d left) h = ap (λ Q. done d.remainder Q left) (ap (λ n. take n d.quotients) (sym h) ∙ take-length d.quotients)
    by_run (out_of_budget left) h = refl
    by_run (out_of_degree left) h = refl
