-- A product is a factor and what follows it.
use Rattle.std.proofs.Common.{◌≡◌, ℕ, List, [], ◌∷◌, Result, Ok, Err, refl}
use Rattle.cgs_list.specs.Results.{and_then, mapped}
use Rattle.cgs_poly.specs.Polynomial.{Term}
use Rattle.cgs_tokens.specs.Lexemes.{Lexeme, name, number, plus, minus, times, power, opening, closing, equals}
use Rattle.cgs_problem.specs.declared.fault.TextKind.{TextKind}
use Rattle.cgs_problem.specs.declared.fault.TextKind.TheVariants as fault
use Rattle.cgs_problem.specs.Sums.{Reader, product, follow, place_of, exponent_of, times_power}
use Rattle.cgs_text.specs.Factors.{with_power, factor}

-- what follows a product of which this much was read
abbrev pub after_factor : Reader → Result (Term × List Lexeme) TextKind → Result (List Term) TextKind
after_factor reader read = and_then read (λ next. follow reader next.0 next.1)

module _ (reader : Reader) (t : Term) where
  taken : (next : Result Term TextKind) (rest : List Lexeme)
      → and_then next (λ u. follow reader u rest) ≡ after_factor reader (mapped (λ u. (u, rest)) next)
  taken (Ok u) rest = refl
  taken (Err kind) rest = refl

  alone : (place : Result ℕ TextKind) (rest : List Lexeme)
      → and_then place (λ i. and_then (times_power reader i 1 t) (λ u. follow reader u rest))
      ≡ after_factor reader (and_then place (λ i. with_power reader t i 1 rest))
  alone (Ok i) rest = taken (times_power reader i 1 t) rest
  alone (Err kind) rest = refl

  to_exponent : (place exponent : Result ℕ TextKind) (rest : List Lexeme)
      → and_then place (λ i. and_then exponent (λ e. and_then (times_power reader i e t) (λ u. follow reader u rest)))
      ≡ after_factor reader (and_then place (λ i. and_then exponent (λ e. with_power reader t i e rest)))
  to_exponent (Ok i) (Ok e) rest = taken (times_power reader i e t) rest
  to_exponent (Ok i) (Err kind) rest = refl
  to_exponent (Err kind) exponent rest = refl

  no_exponent : (place : Result ℕ TextKind)
      → and_then place (λ i. Err fault.Syntax) ≡ after_factor reader (and_then place (λ i. Err fault.Syntax))
  no_exponent (Ok i) = refl
  no_exponent (Err kind) = refl

  pub by_factor : (lexemes : List Lexeme) → product reader t lexemes ≡ after_factor reader (factor reader t lexemes)
  unfolding product
  by_factor [] = refl
  by_factor (number n ∷ rest) = refl
  by_factor (plus ∷ rest) = refl
  by_factor (minus ∷ rest) = refl
  by_factor (times ∷ rest) = refl
  by_factor (power ∷ rest) = refl
  by_factor (opening ∷ rest) = refl
  by_factor (closing ∷ rest) = refl
  by_factor (equals ∷ rest) = refl
  by_factor (name word ∷ []) = alone (place_of reader word) []
  by_factor (name word ∷ power ∷ []) = no_exponent (place_of reader word)
  by_factor (name word ∷ power ∷ number n ∷ rest) = to_exponent (place_of reader word) (exponent_of n) rest
  by_factor (name word ∷ power ∷ name w ∷ rest) = no_exponent (place_of reader word)
  by_factor (name word ∷ power ∷ plus ∷ rest) = no_exponent (place_of reader word)
  by_factor (name word ∷ power ∷ minus ∷ rest) = no_exponent (place_of reader word)
  by_factor (name word ∷ power ∷ times ∷ rest) = no_exponent (place_of reader word)
  by_factor (name word ∷ power ∷ opening ∷ rest) = no_exponent (place_of reader word)
  by_factor (name word ∷ power ∷ closing ∷ rest) = no_exponent (place_of reader word)
  by_factor (name word ∷ power ∷ equals ∷ rest) = no_exponent (place_of reader word)
  by_factor (name word ∷ power ∷ power ∷ rest) = no_exponent (place_of reader word)
  by_factor (name word ∷ name w ∷ rest) = alone (place_of reader word) (name w ∷ rest)
  by_factor (name word ∷ number n ∷ rest) = alone (place_of reader word) (number n ∷ rest)
  by_factor (name word ∷ plus ∷ rest) = alone (place_of reader word) (plus ∷ rest)
  by_factor (name word ∷ minus ∷ rest) = alone (place_of reader word) (minus ∷ rest)
  by_factor (name word ∷ times ∷ rest) = alone (place_of reader word) (times ∷ rest)
  by_factor (name word ∷ opening ∷ rest) = alone (place_of reader word) (opening ∷ rest)
  by_factor (name word ∷ closing ∷ rest) = alone (place_of reader word) (closing ∷ rest)
  by_factor (name word ∷ equals ∷ rest) = alone (place_of reader word) (equals ∷ rest)
