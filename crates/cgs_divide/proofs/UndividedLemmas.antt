-- The terms before the first that a lead divides: a run keeps them all, each for a unit.
use Rattle.std.proofs.Common.{ℕ, zero, suc, ◌≡◌, ◌+◌, ◌-◌, ◌<◌, ◌≤◌, Bool, true, false, cond, ltb, List, [], ◌∷◌, length, take, drop, Some}
use Rattle.std.proofs.Common.{refl, sym, ap, ◌∙◌, arith}
use Rattle.std.proofs.lemmas.Bool.{ltb-false, lt-ltb, le-ltb}
use Rattle.std.specs.Prelude.{slice_get}
use Rattle.cgs_list.proofs.ListLemmas.{drop_at}
use Rattle.cgs_poly.specs.Ring.{Ring}
use Rattle.cgs_poly.specs.Polynomial.{Term}
use Rattle.cgs_algebra.specs.Groebner.{AreMonic}
use Rattle.cgs_divide.specs.declared.division.Division.{Division}
use Rattle.cgs_divide.specs.Ending.{Ending}
use Rattle.cgs_divide.specs.DivisionRun.{first_divisor, undivided, with_remainder, divided}
use Rattle.cgs_divide.proofs.EndingLemmas.{followed_twice}
use Rattle.cgs_divide.proofs.QuotientLemmas.{zeros}
use Rattle.cgs_divide.proofs.RunLemmas.{divided_kept}
use Rattle.cgs_divide.proofs.ResumedLemmas.{resumed, resumed_nothing}
use Rattle.cgs_divide.proofs.StepLemmas.{charged_enough}

-- they are at most as many as the terms and as the limit

cond_within : (b : Bool) (m n : ℕ) → m ≤ n → cond b 0 (suc m) ≤ suc n
cond_within true m n h = omega arith
cond_within false m n h = omega arith

pub within_terms : (n : ℕ) (G : List (List Term)) (f : List Term) → undivided n G f ≤ length f
within_terms zero G f = omega arith
within_terms (suc n) G [] = omega arith
within_terms (suc n) G (x ∷ f) = cond_within (ltb (first_divisor G x.exponents) (length G)) (undivided n G f) (length f) (within_terms n G f)

pub within_limit : (n : ℕ) (G : List (List Term)) (f : List Term) → undivided n G f ≤ n
within_limit zero G f = omega arith
within_limit (suc n) G [] = omega arith
within_limit (suc n) G (x ∷ f) = cond_within (ltb (first_divisor G x.exponents) (length G)) (undivided n G f) n (within_limit n G f)

-- they are counted one after the other

module _ (G : List (List Term)) where
  ends : (n : ℕ) (x : Term) (f : List Term) → first_divisor G x.exponents < length G → undivided n G (x ∷ f) ≡ 0
  ends zero x f h = refl
  ends (suc n) x f h = rw (lt-ltb (first_divisor G x.exponents) (length G) h) refl

  goes_on : (n : ℕ) (x : Term) (f : List Term) → length G ≤ first_divisor G x.exponents → undivided (suc n) G (x ∷ f) ≡ suc (undivided n G f)
  goes_on n x f h = rw (le-ltb (first_divisor G x.exponents) (length G) h) refl

  pub at_divided : (n i : ℕ) (f : List Term) (x : Term) → slice_get f i ≡ Some x → first_divisor G x.exponents < length G → undivided n G (drop i f) ≡ 0
  at_divided n i f x e h = ap (undivided n G) (drop_at f i x e) ∙ ends n x (drop (i + 1) f) h

  pub at_kept : (n i : ℕ) (f : List Term) (x : Term) → slice_get f i ≡ Some x → length G ≤ first_divisor G x.exponents
      → undivided (suc n) G (drop i f) ≡ suc (undivided n G (drop (i + 1) f))
  at_kept n i f x e h = ap (undivided (suc n) G) (drop_at f i x e) ∙ goes_on n x (drop (i + 1) f) h

-- the run after them

kept_first : (before : List Term) (quotients : List (List Term)) (x : Term) (run : Ending Division)
    → with_remainder x (resumed before quotients run) ≡ resumed (x ∷ before) quotients run
kept_first before quotients x run = followed_twice run _ _

module _ (ring : Ring) (G : List (List Term)) (ok : AreMonic ring G) where
  -- the run behind so many terms
  abbrev behind : ℕ → List Term → ℕ → Ending Division
  behind units f k = resumed (take k f) (zeros G) (divided ring G (units - k) (drop k f))

  nothing_before : (units : ℕ) (f : List Term) → divided ring G units f ≡ behind units f 0
  nothing_before units f =
      let z : units - 0 ≡ units = omega arith in
      rw z (sym (resumed_nothing ring G units f))

  pub kept_front : (units : ℕ) (f : List Term) → divided ring G units f ≡ behind units f (undivided units G f)
  kept_front zero f = nothing_before zero f
  kept_front (suc n) [] = nothing_before (suc n) []
  kept_front (suc n) (x ∷ f) = by_test (ltb (first_divisor G x.exponents) (length G)) refl (kept_front n f)
    where
      by_test : (b : Bool) → ltb (first_divisor G x.exponents) (length G) ≡ b → divided ring G n f ≡ behind n f (undivided n G f)
          → divided ring G (suc n) (x ∷ f) ≡ behind (suc n) (x ∷ f) (cond b 0 (suc (undivided n G f)))
      by_test true e ih = nothing_before (suc n) (x ∷ f)
      by_test false e ih =
          let k : ℕ = undivided n G f in
          let one : suc n - 1 ≡ n = omega arith in
          let left : suc n - suc k ≡ n - k = omega arith in
          let paid = charged_enough 1 (suc n) (with_remainder x (divided ring G (suc n - 1) f)) (omega arith) in
          let step : divided ring G (suc n) (x ∷ f) ≡ with_remainder x (divided ring G n f) =
          divided_kept ring G ok (suc n) x f (ltb-false (first_divisor G x.exponents) (length G) e)
          ∙ (paid ∙ ap (λ u. with_remainder x (divided ring G u f)) one) in
          rw left (step ∙ (ap (with_remainder x) ih ∙ kept_first (take k f) (zeros G) x (divided ring G (n - k) (drop k f))))
