-- What std's parser makes of a numeral.
use Rattle.std.proofs.Common.{◌≡◌, ℕ, ◌<◌, ◌≤◌, ◌^◌, true, List, [], ◌∷◌, length, Result, Ok, Err, MatchOption, arith, rules}
use Rattle.std.proofs.lemmas.Fmt.{IsAscii-from_digits}
use Rattle.std.proofs.lemmas.Str.{IsUtf8-from_ascii}
use Rattle.std.proofs.lemmas.Str.Parse.{IsNumeralModel, numerals_by_value, parse_digits}
use Rattle.std.specs.Char.{is_ascii_digit}
use Rattle.std.specs.List.{list_all}
use Rattle.std.specs.Result.{OkIff, result_ok}
use Rattle.std.specs.Str.{IsUtf8}
use Rattle.std.specs.Str.Parse.{digits_value, ParsesUnsigned}
use Rattle.cgs_words.specs.Words.{is_numeral}

numerals : IsNumeralModel (λ ds. list_all is_ascii_digit ds ≡ true) (digits_value 10)
numerals = numerals_by_value _ (search rules)

digits_alone : (ds : List ℕ) → is_numeral ds ≡ true → list_all is_ascii_digit ds ≡ true
digits_alone [] h = cc
digits_alone (d ∷ []) h = search rules
digits_alone (d ∷ e ∷ ds) h = search rules

not_empty : (ds : List ℕ) → is_numeral ds ≡ true → 0 < length ds
not_empty [] h = cc
not_empty (d ∷ ds) h = omega arith

pub is_text : (ds : List ℕ) → is_numeral ds ≡ true → IsUtf8 ds
is_text ds h = IsUtf8-from_ascii ds (IsAscii-from_digits ds (numerals.to ds (digits_alone ds h)))

-- the value, or no room for it
pub parsed : {E : Type 0} (ds bs : List ℕ) (r : Result ℕ E) → is_numeral ds ≡ true → bs ≡ ds → ParsesUnsigned 64 10 bs r
    → MatchOption (result_ok r) (2 ^ 64 ≤ digits_value 10 ds) (λ n. n ≡ digits_value 10 ds)
parsed {E} ds bs r h e p = told r (parse_digits numerals 64 ds r (rw e at p) (digits_alone ds h))
  where
    no_room : ¬ ((0 < length ds) × (digits_value 10 ds < 2 ^ 64)) → 2 ^ 64 ≤ digits_value 10 ds
    no_room q = let some : 0 < length ds = not_empty ds h in grind arith

    told : (r : Result ℕ E) → OkIff r ((0 < length ds) × (digits_value 10 ds < 2 ^ 64)) (digits_value 10 ds)
        → MatchOption (result_ok r) (2 ^ 64 ≤ digits_value 10 ds) (λ n. n ≡ digits_value 10 ds)
    told (Ok n) q = q.1
    told (Err e) q = no_room q
