-- What the words of the command line ask for.
use Rattle.std.specs.Prelude.{ℕ, Bool, true, false, List, [], ◌∷◌, ◌&&◌, ◌==◌, if◌then◌else◌, nat_le, codes, bytes_eq, Some, None, Result, Ok, Err}
use Rattle.std.specs.Char.{is_ascii_digit}
use Rattle.std.specs.Option.{unwrap_or, is_some}
use Rattle.std.specs.List.{list_all}
use Rattle.std.specs.Str.Parse.{digits_value}
use Rattle.cgs_list.specs.Results.{and_then}
use Rattle.cgs_words.specs.declared.options.Name.{Name}
use Rattle.cgs_words.specs.declared.options.Name.TheVariants.{Valued, History}
use Rattle.cgs_words.specs.declared.options.Limit.{Limit}
use Rattle.cgs_words.specs.declared.options.Limit.TheVariants.{Workers, Budget, Depth}
use Rattle.cgs_words.specs.declared.options.Options.{Options}
use Rattle.cgs_words.specs.declared.plan.Command.{Command}
use Rattle.cgs_words.specs.declared.plan.Command.TheVariants.{Check, Basis, Solve, Locate, Discover, Stress}
use Rattle.cgs_words.specs.declared.plan.Plan.{Plan}
use Rattle.cgs_words.specs.declared.plan.WordFault.{WordFault}
use Rattle.cgs_words.specs.declared.plan.WordFault.TheVariants as fault

-- digits alone, and 0 first only in `0` itself
abbrev pub is_numeral : List ℕ → Bool
is_numeral [] = false
is_numeral (digit ∷ []) = is_ascii_digit digit
is_numeral (digit ∷ digits) = if digit == 48 then false else list_all is_ascii_digit (digit ∷ digits)

-- a number from the least to the most
abbrev pub number_in : ℕ → ℕ → List ℕ → Result ℕ WordFault
number_in least most word =
    if is_numeral word && nat_le least (digits_value 10 word) && nat_le (digits_value 10 word) most then Ok (digits_value 10 word) else Err fault.Value

abbrev pub most_workers : ℕ
most_workers = 64

abbrev pub most_budget : ℕ
most_budget = 1000000000000

abbrev pub most_depth : ℕ
most_depth = 255

abbrev pub no_options : Options
no_options = record { workers = None; budget = None; depth = None; history = false }

abbrev pub option_of : List ℕ → Result Name WordFault
option_of word =
    if bytes_eq word (codes "--workers") then Ok (Valued Workers)
    else (if bytes_eq word (codes "--budget") then Ok (Valued Budget)
    else (if bytes_eq word (codes "--depth") then Ok (Valued Depth)
    else (if bytes_eq word (codes "--history") then Ok History
    else Err fault.Option)))

abbrev pub is_given : Options → Name → Bool
is_given options (Valued Workers) = is_some options.workers
is_given options (Valued Budget) = is_some options.budget
is_given options (Valued Depth) = is_some options.depth
is_given options History = options.history

-- an option that was not given before
abbrev pub new_option : Options → List ℕ → Result Name WordFault
new_option options word = and_then (option_of word) (λ name. if is_given options name then Err fault.Repeat else Ok name)

-- the options with the value of one more
abbrev pub with_value : Options → Limit → List ℕ → Result Options WordFault
with_value options Workers word = and_then (number_in 1 most_workers word) (λ n. Ok (record options { workers = Some n }))
with_value options Budget word = and_then (number_in 1 most_budget word) (λ n. Ok (record options { budget = Some n }))
with_value options Depth word = and_then (number_in 1 most_depth word) (λ n. Ok (record options { depth = Some n }))

-- what follows for an option that takes a value, and for the one that takes none
abbrev pub by_name : {A : Type 0} → Name → (Limit → A) → A → A
by_name (Valued limit) valued bare = valued limit
by_name History valued bare = bare

unfoldable mutual
  -- An option is expected.
  pub options_of : Options → List (List ℕ) → Result Options WordFault
  options_of options [] = Ok options
  options_of options (word ∷ words) =
      and_then (new_option options word) (λ name. by_name name (λ limit. value_of options limit words) (options_of (record options { history = true }) words))

  -- The value of an option is expected.
  pub value_of : Options → Limit → List (List ℕ) → Result Options WordFault
  value_of options limit [] = Err fault.Value
  value_of options limit (word ∷ words) = and_then (with_value options limit word) (λ next. options_of next words)

-- a command that no number follows
abbrev pub command_of : List ℕ → Result Command WordFault
command_of word =
    if bytes_eq word (codes "check") then Ok Check
    else (if bytes_eq word (codes "basis") then Ok Basis
    else (if bytes_eq word (codes "solve") then Ok Solve
    else (if bytes_eq word (codes "locate") then Ok Locate
    else (if bytes_eq word (codes "discover") then Ok Discover
    else Err fault.Command))))

abbrev pub usual_workers : ℕ
usual_workers = 1

abbrev pub usual_budget : ℕ
usual_budget = 10000000

abbrev pub usual_depth : ℕ
usual_depth = 64

-- a command with these options, and with the usual values of those that were not given
abbrev pub plan_with : Command → Options → Plan
plan_with command options =
    record {
      command = command;
      workers = unwrap_or options.workers usual_workers;
      budget = unwrap_or options.budget usual_budget;
      depth = unwrap_or options.depth usual_depth;
      history = options.history;
    }

-- a command whose options are these words
abbrev pub optioned : Command → List (List ℕ) → Result Plan WordFault
optioned command words = and_then (options_of no_options words) (λ options. Ok (plan_with command options))

abbrev pub most_stress : ℕ
most_stress = 999999

-- the words after `stress`: its number, and then options
abbrev pub stress_of : List (List ℕ) → Result Plan WordFault
stress_of [] = Err fault.Value
stress_of (word ∷ words) = and_then (number_in 0 most_stress word) (λ number. optioned (Stress number) words)

-- the first word is a command, and the others are its number, if it has one, and its options
abbrev pub plan_of : List (List ℕ) → Result Plan WordFault
plan_of [] = Err fault.NoWord
plan_of (word ∷ words) = if bytes_eq word (codes "stress") then stress_of words else and_then (command_of word) (λ command. optioned command words)
