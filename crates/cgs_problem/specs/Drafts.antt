-- What a line adds to a problem that is being read, or its fault.
use Rattle.std.specs.Prelude.{ℕ, ◌%◌, ◌==◌, nat_le, ◌&&◌, ◌||◌, List, [], ◌∷◌, ◌++◌, length, if◌then◌else◌, codes, bytes_eq, Option, Some, None, ok_or, Result}
use Rattle.std.specs.Prelude.{Ok, Err}
use Rattle.std.specs.List.{list_any}
use Rattle.cgs_list.specs.Results.{and_then, mapped}
use Rattle.cgs_field.specs.Prime.{moduli}
use Rattle.cgs_order.specs.declared.kind.Kind.{Kind}
use Rattle.cgs_order.specs.declared.kind.Kind.TheVariants.{Lex}
use Rattle.cgs_order.specs.Words.{kind_named}
use Rattle.cgs_poly.specs.Ring.{Ring}
use Rattle.cgs_poly.specs.Polynomial.{Term, greatest_degree}
use Rattle.cgs_problem.specs.declared.fault.TextKind.{TextKind}
use Rattle.cgs_problem.specs.declared.fault.TextKind.TheVariants as fault
use Rattle.cgs_problem.specs.Lexemes.{Lexeme, name, number}
use Rattle.cgs_problem.specs.Problems.{greatest_thesis_degree}
use Rattle.cgs_problem.specs.Sums.{polynomial_said}

-- which lines may come
pub data Stage : Type 0 where
  field_line : Stage
  parameters_line : Stage
  variables_line : Stage
  order_line : Stage
  body : Stage
  ended : Stage

-- what the lines so far have said
pub record PartialProblem : Type 0 where
  pub stage : Stage
  pub modulus : ℕ
  pub parameters : List (List ℕ)
  pub variables : List (List ℕ)
  pub kind : Kind
  pub zero : List (List Term)
  pub nonzero : List (List Term)
  pub polys : List (List Term)
  pub thesis : Option (List Term)
  pub points : List (List ℕ)

abbrev pub nothing : PartialProblem
nothing = record {
  stage = field_line;
  modulus = 0;
  parameters = [];
  variables = [];
  kind = Lex;
  zero = [];
  nonzero = [];
  polys = [];
  thesis = None;
  points = [];
}

abbrev pub ring_of : PartialProblem → Ring
ring_of partial = record { modulus = partial.modulus; variables = length partial.variables; parameters = length partial.parameters; kind = partial.kind }

-- the variables' names, and then the parameters'
abbrev pub names_of : PartialProblem → List (List ℕ)
names_of partial = partial.variables ++ partial.parameters

-- field: exactly one number, of the table
abbrev pub field_said : PartialProblem → List Lexeme → Result PartialProblem TextKind
field_said partial (number p ∷ []) = if list_any (λ q. q == p) moduli then Ok (record partial { stage = parameters_line; modulus = p }) else Err fault.Field
field_said partial lexemes = Err fault.Syntax

-- names, each of them new, after those that stand before them
abbrev pub names_said : List (List ℕ) → List (List ℕ) → List Lexeme → Result (List (List ℕ)) TextKind
names_said others names [] = Ok names
names_said others names (name word ∷ lexemes) =
    if list_any (bytes_eq word) others || list_any (bytes_eq word) names then Err fault.Name else names_said others (names ++ word ∷ []) lexemes
names_said others names (lexeme ∷ lexemes) = Err fault.Syntax

-- so many at least and at most
abbrev pub counted : ℕ → ℕ → List (List ℕ) → Result (List (List ℕ)) TextKind
counted least most names = if nat_le least (length names) && nat_le (length names) most then Ok names else Err fault.Count

abbrev pub parameters_said : PartialProblem → List Lexeme → Result PartialProblem TextKind
parameters_said partial lexemes = and_then (and_then (names_said [] [] lexemes) (counted 0 8))
    (λ names. Ok (record partial { stage = variables_line; parameters = names }))

abbrev pub variables_said : PartialProblem → List Lexeme → Result PartialProblem TextKind
variables_said partial lexemes = and_then (and_then (names_said partial.parameters [] lexemes) (counted 1 8))
    (λ names. Ok (record partial { stage = order_line; variables = names }))

abbrev pub kind_of : List ℕ → Result Kind TextKind
kind_of word = ok_or (kind_named word) fault.Order

-- order: exactly one name, of a kind
abbrev pub order_said : PartialProblem → List Lexeme → Result PartialProblem TextKind
order_said partial (name word ∷ []) = and_then (kind_of word) (λ kind. Ok (record partial { stage = body; kind = kind }))
order_said partial lexemes = Err fault.Syntax

-- a polynomial in the parameters alone, in all names, and as a thesis
abbrev pub condition_said : PartialProblem → List Lexeme → Result (List Term) TextKind
condition_said partial lexemes = polynomial_said
    (record { ring = ring_of partial; names = names_of partial; barred = length partial.variables; most = greatest_degree }) lexemes

abbrev pub equation_said : PartialProblem → List Lexeme → Result (List Term) TextKind
equation_said partial lexemes = polynomial_said (record { ring = ring_of partial; names = names_of partial; barred = 0; most = greatest_degree }) lexemes

abbrev pub claim_said : PartialProblem → List Lexeme → Result (List Term) TextKind
claim_said partial lexemes = polynomial_said (record { ring = ring_of partial; names = names_of partial; barred = 0; most = greatest_thesis_degree }) lexemes

abbrev pub zero_said : PartialProblem → List Lexeme → Result PartialProblem TextKind
zero_said partial lexemes = and_then (condition_said partial lexemes) (λ f. Ok (record partial { zero = partial.zero ++ f ∷ [] }))

abbrev pub nonzero_said : PartialProblem → List Lexeme → Result PartialProblem TextKind
nonzero_said partial lexemes = and_then (condition_said partial lexemes) (λ f. Ok (record partial { nonzero = partial.nonzero ++ f ∷ [] }))

abbrev pub poly_said : PartialProblem → List Lexeme → Result PartialProblem TextKind
poly_said partial lexemes = and_then (equation_said partial lexemes) (λ f. Ok (record partial { polys = partial.polys ++ f ∷ [] }))

-- thesis: the first one
abbrev pub first_thesis_said : PartialProblem → Option (List Term) → List Lexeme → Result PartialProblem TextKind
first_thesis_said partial (Some thesis) lexemes = Err fault.Thesis
first_thesis_said partial None lexemes = and_then (claim_said partial lexemes) (λ f. Ok (record partial { thesis = Some f }))

abbrev pub thesis_said : PartialProblem → List Lexeme → Result PartialProblem TextKind
thesis_said partial lexemes = first_thesis_said partial partial.thesis lexemes

abbrev pub with_number : ℕ → Result (List ℕ) TextKind → Result (List ℕ) TextKind
with_number n numbers = mapped (λ numbers. n ∷ numbers) numbers

-- numbers alone, each reduced by the modulus
abbrev pub numbers_said : ℕ → List Lexeme → Result (List ℕ) TextKind
numbers_said p [] = Ok []
numbers_said p (number n ∷ lexemes) = with_number (n % p) (numbers_said p lexemes)
numbers_said p (lexeme ∷ lexemes) = Err fault.Syntax

-- point: as many numbers as parameters
abbrev pub point_said : PartialProblem → List Lexeme → Result PartialProblem TextKind
point_said partial lexemes =
    and_then (numbers_said partial.modulus lexemes) (λ numbers.
    if length numbers == length partial.parameters then Ok (record partial { points = partial.points ++ numbers ∷ [] }) else Err fault.Count)

-- end: nothing more
abbrev pub end_said : PartialProblem → List Lexeme → Result PartialProblem TextKind
end_said partial [] = Ok (record partial { stage = ended })
end_said partial lexemes = Err fault.Syntax

-- a line after the header, by the name that begins it
abbrev pub body_said : PartialProblem → List ℕ → List Lexeme → Result PartialProblem TextKind
body_said partial word lexemes =
    if bytes_eq word (codes "zero") then zero_said partial lexemes
    else (if bytes_eq word (codes "nonzero") then nonzero_said partial lexemes
    else (if bytes_eq word (codes "poly") then poly_said partial lexemes
    else (if bytes_eq word (codes "thesis") then thesis_said partial lexemes
    else (if bytes_eq word (codes "point") then point_said partial lexemes
    else (if bytes_eq word (codes "end") then end_said partial lexemes
    else Err fault.Place)))))

-- a line, by the name that begins it
abbrev pub line_said : Stage → PartialProblem → List Lexeme → Result PartialProblem TextKind
line_said field_line partial (name word ∷ lexemes) = if bytes_eq word (codes "field") then field_said partial lexemes else Err fault.Place
line_said parameters_line partial (name word ∷ lexemes) = if bytes_eq word (codes "parameters") then parameters_said partial lexemes else Err fault.Place
line_said variables_line partial (name word ∷ lexemes) = if bytes_eq word (codes "variables") then variables_said partial lexemes else Err fault.Place
line_said order_line partial (name word ∷ lexemes) = if bytes_eq word (codes "order") then order_said partial lexemes else Err fault.Place
line_said body partial (name word ∷ lexemes) = body_said partial word lexemes
line_said stage partial lexemes = Err fault.Place
