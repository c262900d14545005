-- A factor of a product: what the product becomes by it, and what is left of the line.
use Rattle.std.specs.Prelude.{ℕ, List, ◌∷◌, Result, Ok, Err}
use Rattle.cgs_list.specs.Results.{and_then, mapped}
use Rattle.cgs_poly.specs.Polynomial.{Term}
use Rattle.cgs_tokens.specs.Lexemes.{Lexeme, name, number, power}
use Rattle.cgs_problem.specs.declared.fault.TextKind.{TextKind}
use Rattle.cgs_problem.specs.declared.fault.TextKind.TheVariants as fault
use Rattle.cgs_problem.specs.Sums.{Reader, place_of, exponent_of, times_number, times_power}

-- times a power of the name at a place
abbrev pub with_power : Reader → Term → ℕ → ℕ → List Lexeme → Result (Term × List Lexeme) TextKind
with_power reader t place exponent rest = mapped (λ next. (next, rest)) (times_power reader place exponent t)

-- a name was read: an exponent may follow it
abbrev pub powered : Reader → Term → ℕ → List Lexeme → Result (Term × List Lexeme) TextKind
powered reader t place (power ∷ number n ∷ rest) = and_then (exponent_of n) (λ exponent. with_power reader t place exponent rest)
powered reader t place (power ∷ lexemes) = Err fault.Syntax
powered reader t place lexemes = with_power reader t place 1 lexemes

abbrev pub factor : Reader → Term → List Lexeme → Result (Term × List Lexeme) TextKind
factor reader t (number n ∷ rest) = Ok (times_number reader n t, rest)
factor reader t (name word ∷ rest) = and_then (place_of reader word) (λ place. powered reader t place rest)
factor reader t lexemes = Err fault.Syntax
