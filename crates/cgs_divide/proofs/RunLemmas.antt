-- The steps of a division run: with more steps than units their number does not matter, so a run is its first step and the run that is left.
use Rattle.std.proofs.Common.{ℕ, zero, suc, ◌≡◌, ◌-◌, ◌<◌, ◌≤◌, Bool, true, false, cond, ltb, List, [], ◌∷◌, length, get_or, refl, ap, arith}
use Rattle.std.proofs.lemmas.Bool.{ltb-true, ltb-false, lt-ltb, le-ltb}
use Rattle.cgs_exps.specs.Monomial.{quotient}
use Rattle.cgs_poly.specs.Ring.{Ring}
use Rattle.cgs_poly.specs.Polynomial.{Term, term}
use Rattle.cgs_poly.specs.Product.{multiple, leading_monomial, leading_coefficient}
use Rattle.cgs_algebra.specs.Groebner.{AreMonic}
use Rattle.cgs_divide.specs.declared.division.Division.{Division}
use Rattle.cgs_divide.specs.Ending.{Ending, ended, out_of_budget, out_of_degree, followed, charged}
use Rattle.cgs_divide.specs.DivisionRun.{done, remainder_of, first_divisor, is_too_high, less_multiple, with_remainder}
use Rattle.cgs_divide.specs.DivisionRun.{with_quotient, added_at, divided_in, divided}
use Rattle.cgs_divide.proofs.QuotientLemmas.{zeros}
use Rattle.cgs_algebra.proofs.PlaceLemmas.{monic_at}

charged_same : (cost units : ℕ) (a b : Ending Division) → (cost ≤ units → a ≡ b) → charged cost units a ≡ charged cost units b
charged_same cost units a b h = by_test (ltb units cost) refl
  where
    by_test : (t : Bool) → ltb units cost ≡ t → cond t (out_of_budget units) a ≡ cond t (out_of_budget units) b
    by_test true e = refl
    by_test false e = h (ltb-false units cost e)

pub monic_some : (f : List Term) → leading_coefficient f ≡ 1 → 0 < length f
monic_some [] e = absurd (omega arith)
monic_some (x ∷ f) e = omega arith

module _ (ring : Ring) (G : List (List Term)) (ok : AreMonic ring G) where
  -- the step by the divisor at a place, and the run after it
  abbrev taken_at : ℕ → ℕ → Term → (ℕ → Ending Division) → Ending Division
  taken_at i units x after =
      let g = get_or G i [] in
      charged (length g) units
      (cond (is_too_high (multiple x.coefficient (quotient x.exponents (leading_monomial g)) g)) (out_of_degree (units - length g))
      (with_quotient i (term x.coefficient (quotient x.exponents (leading_monomial g))) (after (units - length g))))

  -- what a step by the divisor at a place leaves
  abbrev left_by : ℕ → Term → List Term → List Term
  left_by i x f = less_multiple ring (x ∷ f) x.coefficient (quotient x.exponents (leading_monomial (get_or G i []))) (get_or G i [])

  enough_steps : (n m units : ℕ) (f : List Term) → units < n → units < m → divided_in n ring G units f ≡ divided_in m ring G units f
  enough_steps zero m units f h k = absurd (omega arith)
  enough_steps (suc n) zero units f h k = absurd (omega arith)
  enough_steps (suc n) (suc m) units [] h k = refl
  enough_steps (suc n) (suc m) units (x ∷ f) h k =
      by_test (ltb (first_divisor G x.exponents) (length G)) refl (λ u q l j. enough_steps n m u q l j)
    where
      by_test : (b : Bool) → ltb (first_divisor G x.exponents) (length G) ≡ b
          → ((u : ℕ) (q : List Term) → u < n → u < m → divided_in n ring G u q ≡ divided_in m ring G u q)
          → cond b (taken_at (first_divisor G x.exponents) units x (λ u. divided_in n ring G u (left_by (first_divisor G x.exponents) x f)))
          (charged 1 units (with_remainder x (divided_in n ring G (units - 1) f)))
          ≡ cond b (taken_at (first_divisor G x.exponents) units x (λ u. divided_in m ring G u (left_by (first_divisor G x.exponents) x f)))
          (charged 1 units (with_remainder x (divided_in m ring G (units - 1) f)))
      by_test true e ih =
          let i : ℕ = first_divisor G x.exponents in
          let s : 0 < length (get_or G i []) = monic_some (get_or G i []) (monic_at G ok.monic i (ltb-true i (length G) e)) in
          charged_same (length (get_or G i [])) units _ _ (λ c. rw (ih (units - length (get_or G i [])) (left_by i x f) (omega arith) (omega arith)) refl)
      by_test false e ih = charged_same 1 units _ _ (λ c. rw (ih (units - 1) f (omega arith) (omega arith)) refl)

  pub divided_nothing : (units : ℕ) → divided ring G units [] ≡ done [] (zeros G) units
  unfolding divided
  divided_nothing units = refl

  -- no lead divides the leading term
  pub divided_kept : (units : ℕ) (x : Term) (f : List Term) → length G ≤ first_divisor G x.exponents
      → divided ring G units (x ∷ f) ≡ charged 1 units (with_remainder x (divided ring G (units - 1) f))
  unfolding divided
  divided_kept units x f none =
      let e : ltb (first_divisor G x.exponents) (length G) ≡ false = le-ltb (first_divisor G x.exponents) (length G) none in
      rw e (charged_same 1 units _ _ (λ c. ap (with_remainder x) (enough_steps units (suc (units - 1)) (units - 1) f (omega arith) (omega arith))))

  -- the first divisor takes it
  pub divided_taken : (units i : ℕ) (x : Term) (f : List Term) → first_divisor G x.exponents ≡ i → i < length G
      → divided ring G units (x ∷ f) ≡ taken_at i units x (λ u. divided ring G u (left_by i x f))
  unfolding divided
  divided_taken units i x f at l =
      let e : ltb i (length G) ≡ true = lt-ltb i (length G) l in
      let g : List Term = get_or G i [] in
      let s : 0 < length g = monic_some g (monic_at G ok.monic i l) in
      rw (at, e) (charged_same (length g) units _ _ (λ c.
      rw (enough_steps units (suc (units - length g)) (units - length g) (left_by i x f) (omega arith) (omega arith)) refl))

-- the units that are left

abbrev pub units_left : {A : Type 0} → Ending A → ℕ
units_left (ended x units) = units
units_left (out_of_budget units) = units
units_left (out_of_degree units) = units

left_changed : {A B : Type 0} (run : Ending A) (f : A → B) → units_left (followed run (λ x. ended (f x))) ≡ units_left run
left_changed (ended x units) f = refl
left_changed (out_of_budget units) f = refl
left_changed (out_of_degree units) f = refl

left_with_remainder : (x : Term) (run : Ending Division) → units_left (with_remainder x run) ≡ units_left run
left_with_remainder x run = left_changed {B = Division} run (λ d. record { remainder = x ∷ d.remainder; quotients = d.quotients })

left_with_quotient : (i : ℕ) (x : Term) (run : Ending Division) → units_left (with_quotient i x run) ≡ units_left run
left_with_quotient i x run = left_changed {B = Division} run (λ d. record { remainder = d.remainder; quotients = added_at i x d.quotients })

left_of_cond : (n : ℕ) (b : Bool) (first second : Ending Division) → units_left first ≤ n → units_left second ≤ n → units_left (cond b first second) ≤ n
left_of_cond n true first second h k = h
left_of_cond n false first second h k = k

left_in : (steps : ℕ) (ring : Ring) (G : List (List Term)) (units : ℕ) (f : List Term) → units_left (divided_in steps ring G units f) ≤ units
left_in zero ring G units f = omega arith
left_in (suc n) ring G units [] = omega arith
left_in (suc n) ring G units (x ∷ f) =
    let i : ℕ = first_divisor G x.exponents in
    let g : List Term = get_or G i [] in
    let t : List ℕ = quotient x.exponents (leading_monomial g) in
    let rest : Ending Division = divided_in n ring G (units - length g) (less_multiple ring (x ∷ f) x.coefficient t g) in
    let next : Ending Division = with_quotient i (term x.coefficient t) rest in
    let checked : Ending Division = cond (is_too_high (multiple x.coefficient t g)) (out_of_degree (units - length g)) next in
    let kept : Ending Division = with_remainder x (divided_in n ring G (units - 1) f) in
    let a : units_left next ≤ units =
    omega (arith, left_with_quotient i (term x.coefficient t) rest, left_in n ring G (units - length g) (less_multiple ring (x ∷ f) x.coefficient t g)) in
    let b : units_left checked ≤ units =
    left_of_cond units (is_too_high (multiple x.coefficient t g)) (out_of_degree (units - length g)) next (omega arith) a in
    let c : units_left kept ≤ units = omega (arith, left_with_remainder x (divided_in n ring G (units - 1) f), left_in n ring G (units - 1) f) in
    left_of_cond units (ltb i (length G)) (charged (length g) units checked) (charged 1 units kept)
    (left_of_cond units (ltb units (length g)) (out_of_budget units) checked (omega arith) b)
    (left_of_cond units (ltb units 1) (out_of_budget units) kept (omega arith) c)

pub left_at_most : (ring : Ring) (G : List (List Term)) (units : ℕ) (f : List Term) → units_left (remainder_of (divided ring G units f)) ≤ units
unfolding divided
left_at_most ring G units f = omega (
  arith,
  left_changed (divided_in (suc units) ring G units f) (λ d. d.remainder),
  left_in (suc units) ring G units f,
)
