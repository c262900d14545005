-- Runs that follow one another, and the stops that a call passes on.
use Rattle.std.proofs.Common.{ℕ, ◌≡◌, Bool, true, false, cond, Ok, Err, refl, sym, ap, subst}
use Rattle.std.specs.Prelude.{Result, IsErrAnd, IfOk}
use Rattle.cgs_divide.specs.declared.stop.Stop.{Stop}
use Rattle.cgs_divide.specs.declared.stop.Stop.TheVariants.{Budget, Degree, OutOfMemory}
use Rattle.cgs_divide.specs.Ending.{Ending, ended, out_of_budget, out_of_degree, followed, EndsAs, AnswersRun}

pub ended_same : {A : Type 0} (x y : A) (m n : ℕ) → ended x m ≡ ended y n → (x ≡ y) × (m ≡ n)
ended_same x y m n e = (cc, cc)

-- a run that has a result did not end before
pub past_budget : {A : Type 0} (b : Bool) (m : ℕ) (run : Ending A) (x : A) (left : ℕ) → cond b (out_of_budget m) run ≡ ended x left → run ≡ ended x left
past_budget true m run x left e = absurd (cc)
past_budget false m run x left e = e

pub past_degree : {A : Type 0} (b : Bool) (m : ℕ) (run : Ending A) (x : A) (left : ℕ) → cond b (out_of_degree m) run ≡ ended x left → run ≡ ended x left
past_degree true m run x left e = absurd (cc)
past_degree false m run x left e = e

-- a run that goes on with what another found, and has a result
pub record HasFollowed {A B : Type 0} (run : Ending A) (next : A → ℕ → Ending B) (result : B) (left : ℕ) : Type 0 where
  pub first : A
  pub units : ℕ
  pub ran : run ≡ ended first units
  pub then : next first units ≡ ended result left

pub has_followed : {A B : Type 0} (run : Ending A) (next : A → ℕ → Ending B) (result : B) (left : ℕ)
    → followed run next ≡ ended result left → HasFollowed run next result left
has_followed (ended a units) next result left e = record { first = a; units = units; ran = refl; then = e }
has_followed (out_of_budget units) next result left e = absurd (cc)
has_followed (out_of_degree units) next result left e = absurd (cc)

pub followed_twice : {A B C : Type 0} (run : Ending A) (next : A → ℕ → Ending B) (last : B → ℕ → Ending C)
    → followed (followed run next) last ≡ followed run (λ a units. followed (next a units) last)
followed_twice (ended a units) next last = refl
followed_twice (out_of_budget units) next last = refl
followed_twice (out_of_degree units) next last = refl

-- a stop of a run is one of each run that goes on with what it finds
pub stops : {A B : Type 0} (run : Ending A) (next : A → ℕ → Ending B) (units : ℕ) (stop : Stop)
    → EndsAs run units (Err stop) → EndsAs (followed run next) units (Err stop)
stops run next units Budget e = ap (λ r. followed r next) e
stops run next units Degree e = ap (λ r. followed r next) e
stops run next units OutOfMemory e = tt

-- a result of a call is that of the run
pub has_ended : {A : Type 0} (run : Ending A) (units : ℕ) (result : Result A Stop) → EndsAs run units result → IfOk result (λ x. run ≡ ended x units)
has_ended run units (Ok x) e = e
has_ended run units (Err s) e = tt

-- a stop that is passed on
pub passed_on : {A : Type 0} (run : Ending A) (units : ℕ) (stop : Stop) (result : Result A Stop)
    → IsErrAnd result (λ s. s ≡ stop) → EndsAs run units (Err stop) → EndsAs run units result
passed_on run units stop (Ok x) h e = absurd h
passed_on run units stop (Err s) h e = subst (λ k. EndsAs run units (Err k)) (sym h) e

pub by_stop : {A : Type 0} (run : Ending A) (units : ℕ) (stop : Stop)
    → (stop ≡ Budget → run ≡ out_of_budget units) → (stop ≡ Degree → run ≡ out_of_degree units) → EndsAs run units (Err stop)
by_stop run units Budget b d = b refl
by_stop run units Degree b d = d refl
by_stop run units OutOfMemory b d = tt

pub answers_run : {A : Type 0} (run : Ending A) (units : ℕ) (result : Result A Stop) → EndsAs run units result → AnswersRun run result
answers_run run units (Ok x) e n = rw e refl
answers_run run units (Err Budget) e n = rw e refl
answers_run run units (Err Degree) e n = rw e refl
answers_run run units (Err OutOfMemory) e n = absurd (n refl)
