-- A polynomial of the second format, read from the left, with its first fault: parentheses, powers of them, and names of earlier polynomials.
use Rattle.std.specs.Prelude.{ℕ, ◌-◌, ◌==◌, List, [], ◌∷◌, length, replicate, slice_set, bytes_eq, position, take, if◌then◌else◌, Option, Some, None}
use Rattle.std.specs.Prelude.{Result, Ok, Err}
use Rattle.std.specs.List.{list_all}
use Rattle.cgs_list.specs.Results.{and_then, mapped}
use Rattle.cgs_poly.specs.Polynomial.{Term, term, places}
use Rattle.cgs_problem.specs.declared.fault.TextKind.{TextKind}
use Rattle.cgs_problem.specs.declared.fault.TextKind.TheVariants as fault
use Rattle.cgs_problem.specs.Lexemes.{Lexeme, name, number, plus, minus, times, power, opening, closing}
use Rattle.cgs_problem.specs.Sums.{Reader, place_in, exponent_of}
use Rattle.cgs_problem.specs.Values.{Valued, within, number_value, to_power, plus_signed}
use Rattle.cgs_problem.specs.Values as value

-- a polynomial that has a name
pub record Named : Type 0 where
  pub word : List ℕ
  pub value : List Term

-- what a line is read with, and the polynomials that were named before it
pub record Scope : Type 0 where
  pub reader : Reader
  pub named : List Named

-- what a power may be taken of: a parameter or variable by its place, or a polynomial
pub data Base : Type 0 where
  at_place : ℕ → Base
  polynomial : List Term → Base

-- A sum that is read: what its products so far add up to, and the sign of the product that is read with its factors so far, if there are any.
pub record OpenSum : Type 0 where
  pub sum : List Term
  pub sign : ℕ
  pub product : Option (List Term)

abbrev pub after_plus : List Term → OpenSum
after_plus sum = record { sum = sum; sign = 1; product = None }

abbrev pub after_minus : Scope → List Term → OpenSum
after_minus scope sum = record { sum = sum; sign = scope.reader.ring.modulus - 1; product = None }

abbrev pub value_named : List ℕ → List Named → Option (List Term)
value_named word [] = None
value_named word (named ∷ more) = if bytes_eq word named.word then Some named.value else value_named word more

-- a polynomial that may stand in the line, since it has no barred place
abbrev pub allowed : Reader → List Term → Result Base TextKind
allowed reader f =
    if list_all (λ (x : Term). list_all (λ exponent. exponent == 0) (take reader.barred x.exponents)) f then Ok (polynomial f) else Err fault.Variable

abbrev pub base_among : Reader → Option ℕ → Option (List Term) → Result Base TextKind
base_among reader (Some place) value = mapped at_place (place_in reader.barred (Some place))
base_among reader None (Some f) = allowed reader f
base_among reader None None = Err fault.Unknown

abbrev pub base_of : Scope → List ℕ → Result Base TextKind
base_of scope word = base_among scope.reader (position (bytes_eq word) scope.reader.names) (value_named word scope.named)

-- the power of a name costs nothing
abbrev pub power_of : Reader → Base → ℕ → ℕ → Valued
power_of reader (at_place place) exponent units = Ok (term 1 (slice_set (replicate (places reader.ring) 0) place exponent) ∷ [], units)
power_of reader (polynomial f) exponent units = to_power reader f exponent units

-- the product so far times a factor
abbrev pub times_factor : Reader → Option (List Term) → List Term → ℕ → Valued
times_factor reader None factor units = Ok (factor, units)
times_factor reader (Some product) factor units = value.times reader product factor units

-- what a line has said so far: the sums that stand around the one that is read, the innermost first, that one, and the units left
pub record Reading : Type 0 where
  pub around : List OpenSum
  pub current : OpenSum
  pub units : ℕ

-- what may come next
pub data Expected : Type 0 where
  at_sum : Expected
  at_factor : Expected
  after_number : List Term → Expected
  after_base : Base → Expected
  at_exponent : Base → Expected
  after_factor : Expected

abbrev pub with_factor : Scope → Reading → List Term × ℕ → Result Reading TextKind
with_factor scope reading factor =
    and_then (within scope.reader factor.0 factor.1 factor.0)
    (λ low. and_then (times_factor scope.reader reading.current.product low.0 low.1)
    (λ read. Ok (record reading { current = record reading.current { product = Some read.0 }; units = read.1 })))

abbrev pub with_power : Scope → Reading → Base → ℕ → Result Reading TextKind
with_power scope reading base exponent = and_then (power_of scope.reader base exponent reading.units) (with_factor scope reading)

-- The product is complete: it is added to its sum.
abbrev pub with_product : Scope → Reading → Option (List Term) → Result Reading TextKind
with_product scope reading None = Ok reading
with_product scope reading (Some product) =
    and_then (plus_signed scope.reader reading.current.sum reading.current.sign product reading.units)
    (λ total. Ok (record reading { current = after_plus total.0; units = total.1 }))

abbrev pub Step : Type 0
Step = Result (Expected × Reading) TextKind

-- a parenthesis opens or closes

abbrev pub opened : Reading → Step
opened reading =
    if length reading.around == 64 then Err fault.Nested
    else Ok (at_sum, record reading { around = reading.current ∷ reading.around; current = after_plus [] })

abbrev pub closed : Reading → List OpenSum → Step
closed reading [] = Err fault.Syntax
closed reading (outer ∷ around) = Ok (after_base (polynomial reading.current.sum), record reading { around = around; current = outer })

-- A factor has to come.
abbrev pub factor_begun : Scope → Reading → Lexeme → Step
factor_begun scope reading (number n) = Ok (after_number (number_value scope.reader n), reading)
factor_begun scope reading (name word) = and_then (base_of scope word) (λ base. Ok (after_base base, reading))
factor_begun scope reading opening = opened reading
factor_begun scope reading lexeme = Err fault.Syntax

-- A product was added to its sum: a sign or the end of the sum has to come.
abbrev pub sum_continued : Scope → Reading → Lexeme → Step
sum_continued scope reading plus = Ok (at_factor, record reading { current = after_plus reading.current.sum })
sum_continued scope reading minus = Ok (at_factor, record reading { current = after_minus scope reading.current.sum })
sum_continued scope reading closing = closed reading reading.around
sum_continued scope reading lexeme = Err fault.Syntax

-- A factor is complete: the product goes on, or it is complete too.
abbrev pub product_continued : Scope → Reading → Lexeme → Step
product_continued scope reading times = Ok (at_factor, reading)
product_continued scope reading lexeme = and_then (with_product scope reading reading.current.product) (λ next. sum_continued scope next lexeme)

-- The factor that was read is complete, since no exponent comes.
abbrev pub factor_ended : Scope → Expected → Reading → Result Reading TextKind
factor_ended scope (after_number f) reading = with_factor scope reading (f, reading.units)
factor_ended scope (after_base base) reading = with_power scope reading base 1
factor_ended scope after_factor reading = Ok reading
factor_ended scope expected reading = Err fault.Syntax

abbrev pub step : Scope → Expected → Reading → Lexeme → Step
step scope at_sum reading plus = Ok (at_factor, reading)
step scope at_sum reading minus = Ok (at_factor, record reading { current = after_minus scope [] })
step scope at_sum reading lexeme = factor_begun scope reading lexeme
step scope at_factor reading lexeme = factor_begun scope reading lexeme
step scope (after_number f) reading power = Err fault.Syntax
step scope (after_base base) reading power = Ok (at_exponent base, reading)
step scope (at_exponent base) reading (number n) =
    and_then (exponent_of n) (λ e. and_then (with_power scope reading base e) (λ next. Ok (after_factor, next)))
step scope expected reading lexeme = and_then (factor_ended scope expected reading) (λ next. product_continued scope next lexeme)

-- At the end of the line no parenthesis may be open.
abbrev pub total_of : Reading → List OpenSum → Valued
total_of reading [] = Ok (reading.current.sum, reading.units)
total_of reading around = Err fault.Syntax

abbrev pub sum_ended : Scope → Expected → Reading → Valued
sum_ended scope expected reading =
    and_then (factor_ended scope expected reading)
    (λ last. and_then (with_product scope last last.current.product) (λ total. total_of total total.around))

unfoldable pub sum_from : Scope → Expected → Reading → List Lexeme → Valued
sum_from scope expected reading [] = sum_ended scope expected reading
sum_from scope expected reading (lexeme ∷ lexemes) = and_then (step scope expected reading lexeme) (λ next. sum_from scope next.0 next.1 lexemes)

-- the polynomial that the line says, and the units left
abbrev pub expression_said : Scope → ℕ → List Lexeme → Valued
expression_said scope units lexemes = sum_from scope at_sum (record { around = []; current = after_plus []; units = units }) lexemes
