-- How a run ends that has units of work and a limit on degrees, and how a call ends that makes the run.
use Rattle.std.specs.Prelude.{ℕ, ◌≡◌, cond, nat_lt, Result, Ok, Err}
use Rattle.cgs_divide.specs.declared.stop.Stop.{Stop}
use Rattle.cgs_divide.specs.declared.stop.Stop.TheVariants.{Budget, Degree, OutOfMemory}

-- how a run ends: with its result and the units left, or without it and with the units left
pub data Ending (A : Type 0) : Type 0 where
  ended : A → ℕ → Ending A
  out_of_budget : ℕ → Ending A
  out_of_degree : ℕ → Ending A

-- a step that costs more than the units that are left ends the run, and takes none
abbrev pub charged : {A : Type 0} → ℕ → ℕ → Ending A → Ending A
charged cost units run = cond (nat_lt units cost) (out_of_budget units) run

-- the next run in the units left, if the first has a result
abbrev pub followed : {A B : Type 0} → Ending A → (A → ℕ → Ending B) → Ending B
followed (ended result units) next = next result units
followed (out_of_budget units) next = out_of_budget units
followed (out_of_degree units) next = out_of_degree units

-- a call that leaves so many units ends as a run does; of want of memory the run does not speak
abbrev pub EndsAs : {A : Type 0} → Ending A → ℕ → Result A Stop → Type 0
EndsAs run units (Ok result) = run ≡ ended result units
EndsAs run units (Err Budget) = run ≡ out_of_budget units
EndsAs run units (Err Degree) = run ≡ out_of_degree units
EndsAs run units (Err OutOfMemory) = Unit {0}

-- what a run answers
abbrev pub answer_of : {A : Type 0} → Ending A → Result A Stop
answer_of (ended result units) = Ok result
answer_of (out_of_budget units) = Err Budget
answer_of (out_of_degree units) = Err Degree

-- unless memory is short, the answer is that of the run
abbrev pub AnswersRun : {A : Type 0} → Ending A → Result A Stop → Type 0
AnswersRun run result = ¬ (result ≡ Err OutOfMemory) → result ≡ answer_of run
