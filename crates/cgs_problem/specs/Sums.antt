-- A polynomial in its written form, read from the left, with its first fault.
use Rattle.std.specs.Prelude.{ℕ, ◌+◌, ◌-◌, ◌*◌, ◌%◌, List, [], ◌∷◌, replicate, if◌then◌else◌, nat_lt, slice_index, slice_set, bytes_eq, position, Option, Some}
use Rattle.std.specs.Prelude.{None, Result, Ok, Err}
use Rattle.cgs_list.specs.Results.{and_then, mapped}
use Rattle.cgs_exps.specs.Monomial.{degree}
use Rattle.cgs_poly.specs.Ring.{Ring}
use Rattle.cgs_poly.specs.Polynomial.{Term, term, places, canonical, greatest_degree}
use Rattle.cgs_problem.specs.declared.fault.TextKind.{TextKind}
use Rattle.cgs_problem.specs.declared.fault.TextKind.TheVariants as fault
use Rattle.cgs_problem.specs.Lexemes.{Lexeme, name, number, plus, minus, times, power}

-- What a line is read with: the ring, a name for each place, how many places from the front on may not stand in it, and the greatest degree of a product.
pub record Reader : Type 0 where
  pub ring : Ring
  pub names : List (List ℕ)
  pub barred : ℕ
  pub most : ℕ

-- the place of a name that may stand in the line
abbrev pub place_in : ℕ → Option ℕ → Result ℕ TextKind
place_in barred (Some place) = if nat_lt place barred then Err fault.Variable else Ok place
place_in barred None = Err fault.Unknown

abbrev pub place_of : Reader → List ℕ → Result ℕ TextKind
place_of reader word = place_in reader.barred (position (bytes_eq word) reader.names)

abbrev pub exponent_of : ℕ → Result ℕ TextKind
exponent_of n = if nat_lt greatest_degree n then Err fault.Exponent else Ok n

-- times a number, modulo the modulus
abbrev pub times_number : Reader → ℕ → Term → Term
times_number reader n t = term (t.coefficient * (n % reader.ring.modulus) % reader.ring.modulus) t.exponents

-- times a power of the name at a place, unless the degree is passed
abbrev pub times_power : Reader → ℕ → ℕ → Term → Result Term TextKind
times_power reader place exponent t =
    if nat_lt reader.most (degree t.exponents + exponent) then Err fault.Degree
    else Ok (term t.coefficient (slice_set t.exponents place (slice_index t.exponents place + exponent)))

-- the empty product after a plus and after a minus
abbrev pub one : Reader → Term
one reader = term 1 (replicate (places reader.ring) 0)

abbrev pub minus_one : Reader → Term
minus_one reader = term (reader.ring.modulus - 1) (replicate (places reader.ring) 0)

abbrev pub with_term : Term → Result (List Term) TextKind → Result (List Term) TextKind
with_term t terms = mapped (λ terms. t ∷ terms) terms

unfoldable mutual
  -- A factor has to come, then what follows the term so far times the factor.
  pub product : Reader → Term → List Lexeme → Result (List Term) TextKind
  product reader t [] = Err fault.Syntax
  product reader t (number n ∷ lexemes) = follow reader (times_number reader n t) lexemes
  product reader t (name word ∷ power ∷ number n ∷ lexemes) =
      and_then (place_of reader word) (λ place. and_then (exponent_of n)
      (λ exponent. and_then (times_power reader place exponent t) (λ next. follow reader next lexemes)))
  product reader t (name word ∷ power ∷ lexemes) = and_then (place_of reader word) (λ place. Err fault.Syntax)
  product reader t (name word ∷ lexemes) =
      and_then (place_of reader word) (λ place. and_then (times_power reader place 1 t) (λ next. follow reader next lexemes))
  product reader t (lexeme ∷ lexemes) = Err fault.Syntax

  -- A factor was read: the product goes on, or the next one comes, or the line ends.
  pub follow : Reader → Term → List Lexeme → Result (List Term) TextKind
  follow reader t [] = Ok (t ∷ [])
  follow reader t (times ∷ lexemes) = product reader t lexemes
  follow reader t (plus ∷ lexemes) = with_term t (product reader (one reader) lexemes)
  follow reader t (minus ∷ lexemes) = with_term t (product reader (minus_one reader) lexemes)
  follow reader t (lexeme ∷ lexemes) = Err fault.Syntax

-- what follows a name at a place
unfoldable pub powered : Reader → Term → ℕ → List Lexeme → Result (List Term) TextKind
powered reader t place (power ∷ number n ∷ lexemes) =
    and_then (exponent_of n) (λ exponent. and_then (times_power reader place exponent t) (λ next. follow reader next lexemes))
powered reader t place (power ∷ lexemes) = Err fault.Syntax
powered reader t place lexemes = and_then (times_power reader place 1 t) (λ next. follow reader next lexemes)

-- a sign that may be left out, and a product
abbrev pub terms_said : Reader → List Lexeme → Result (List Term) TextKind
terms_said reader (plus ∷ lexemes) = product reader (one reader) lexemes
terms_said reader (minus ∷ lexemes) = product reader (minus_one reader) lexemes
terms_said reader lexemes = product reader (one reader) lexemes

-- the polynomial that the terms add up to
abbrev pub polynomial_said : Reader → List Lexeme → Result (List Term) TextKind
polynomial_said reader lexemes = and_then (terms_said reader lexemes) (λ terms. Ok (canonical reader.ring terms))
