-- A plan has 1 to 64 workers.
use Rattle.std.proofs.Common.{◌≡◌, ℕ, ◌<◌, ◌≤◌, List, [], ◌∷◌, Result, Ok, Err, Option, Some, None, IfOk, Bool, true, false, cond, ◌&&◌, nat_le, refl}
use Rattle.std.proofs.Common.{codes, arith}
use Rattle.std.specs.Str.{bytes_eq}
use Rattle.std.specs.Option.{unwrap_or}
use Rattle.std.specs.Str.Parse.{digits_value}
use Rattle.cgs_words.specs.declared.options.Options.{Options}
use Rattle.cgs_words.specs.declared.options.Name.{Name}
use Rattle.cgs_words.specs.declared.options.Name.TheVariants.{Valued, History}
use Rattle.cgs_words.specs.declared.options.Limit.{Limit}
use Rattle.cgs_words.specs.declared.options.Limit.TheVariants.{Workers, Budget, Depth}
use Rattle.cgs_words.specs.declared.plan.Command.{Command}
use Rattle.cgs_words.specs.declared.plan.Command.TheVariants.{Stress}
use Rattle.cgs_words.specs.declared.plan.Plan.{Plan}
use Rattle.cgs_words.specs.declared.plan.WordFault.{WordFault}
use Rattle.cgs_words.specs.declared.plan.WordFault.TheVariants as fault
use Rattle.cgs_list.specs.Results.{and_then}
use Rattle.cgs_words.specs.Words.{is_numeral, number_in, most_workers, most_budget, most_depth, no_options, new_option, with_value, by_name}
use Rattle.cgs_words.specs.Words.{options_of, value_of, command_of, usual_workers, plan_with, optioned, most_stress, stress_of, plan_of}

-- no number of workers yet, or one from 1 to the most
abbrev FewWorkers : Option ℕ → Type 0
FewWorkers None = Unit {0}
FewWorkers (Some n) = (0 < n) × (n ≤ most_workers)

abbrev Few : Options → Type 0
Few options = FewWorkers options.workers

within : (word : List ℕ) → IfOk (number_in 1 most_workers word) (λ n. FewWorkers (Some n))
within word = step (nat_le 1 n) (nat_le n most_workers) (is_numeral word) refl refl
  where
    n : ℕ
    n = digits_value 10 word

    step : (least most numeral : Bool) → nat_le 1 n ≡ least → nat_le n most_workers ≡ most
        → IfOk {T = ℕ} {E = WordFault} (cond (numeral && least && most) (Ok n) (Err fault.Value)) (λ n. FewWorkers (Some n))
    step true true true l m = grind arith
    step true true false l m = tt
    step true false true l m = tt
    step true false false l m = tt
    step false most true l m = tt
    step false most false l m = tt

then_keeps : {A B : Type 0} (Q : B → Type 0) (r : Result A WordFault) (f : A → Result B WordFault)
    → ((x : A) → IfOk (f x) Q) → IfOk (and_then r f) Q
then_keeps Q (Ok x) f k = k x
then_keeps Q (Err fault) f k = tt

then_holds : {A B : Type 0} (P : A → Type 0) (Q : B → Type 0) (r : Result A WordFault) (f : A → Result B WordFault)
    → IfOk r P → ((x : A) → P x → IfOk (f x) Q) → IfOk (and_then r f) Q
then_holds P Q (Ok x) f h k = k x h
then_holds P Q (Err fault) f h k = tt

with_few : (limit : Limit) (options : Options) (word : List ℕ) → Few options → IfOk (with_value options limit word) Few
with_few Workers options word few =
    then_holds (λ n. FewWorkers (Some n)) Few (number_in 1 most_workers word) (λ n. Ok (record options { workers = Some n })) (within word) (λ n h. h)
with_few Budget options word few = then_keeps Few (number_in 1 most_budget word) (λ n. Ok (record options { budget = Some n })) (λ n. few)
with_few Depth options word few = then_keeps Few (number_in 1 most_depth word) (λ n. Ok (record options { depth = Some n })) (λ n. few)

by_name_holds : {A : Type 0} (Q : A → Type 0) (name : Name) (valued : Limit → Result A WordFault) (bare : Result A WordFault)
    → ((limit : Limit) → IfOk (valued limit) Q) → IfOk bare Q → IfOk (by_name name valued bare) Q
by_name_holds Q (Valued limit) valued bare h k = h limit
by_name_holds Q History valued bare h k = k

mutual
  unfolding options_of value_of

  options_few : (words : List (List ℕ)) (options : Options) → Few options → IfOk (options_of options words) Few
  options_few [] options few = few
  options_few (word ∷ words) options few =
      then_keeps Few (new_option options word) (λ name. by_name name valued bare)
      (λ name. by_name_holds Few name valued bare (λ limit. value_few words options limit few) (options_few words (record options { history = true }) few))
    where
      valued : Limit → Result Options WordFault
      valued limit = value_of options limit words

      bare : Result Options WordFault
      bare = options_of (record options { history = true }) words

  value_few : (words : List (List ℕ)) (options : Options) (limit : Limit) → Few options → IfOk (value_of options limit words) Few
  value_few [] options limit few = tt
  value_few (word ∷ words) options limit few =
      then_holds Few Few (with_value options limit word) (λ next. options_of next words) (with_few limit options word few)
      (λ next h. options_few words next h)

abbrev pub HasFewWorkers : Plan → Type 0
HasFewWorkers plan = (0 < plan.workers) × (plan.workers ≤ most_workers)

optioned_few : (command : Command) (words : List (List ℕ)) → IfOk (optioned command words) HasFewWorkers
optioned_few command words =
    then_holds Few HasFewWorkers (options_of no_options words) (λ options. Ok (plan_with command options)) (options_few words no_options tt)
    (λ options few. usual options.workers few)
  where
    usual : (workers : Option ℕ) → FewWorkers workers → (0 < unwrap_or workers usual_workers) × (unwrap_or workers usual_workers ≤ most_workers)
    usual None few = (omega arith, omega arith)
    usual (Some n) few = few

pub stress_few : (words : List (List ℕ)) → IfOk (stress_of words) HasFewWorkers
stress_few [] = tt
stress_few (word ∷ words) =
    then_keeps HasFewWorkers (number_in 0 most_stress word) (λ number. optioned (Stress number) words) (λ number. optioned_few (Stress number) words)

-- Each plan has some worker, and not more than the most.
pub workers_few : (words : List (List ℕ)) → IfOk (plan_of words) HasFewWorkers
workers_few [] = tt
workers_few (word ∷ words) = by_word (bytes_eq word (codes "stress"))
  where
    named : IfOk (and_then (command_of word) (λ command. optioned command words)) HasFewWorkers
    named = then_keeps HasFewWorkers (command_of word) (λ command. optioned command words) (λ command. optioned_few command words)

    by_word : (is_stress : Bool) → IfOk (cond is_stress (stress_of words) (and_then (command_of word) (λ command. optioned command words))) HasFewWorkers
    by_word true = stress_few words
    by_word false = named
