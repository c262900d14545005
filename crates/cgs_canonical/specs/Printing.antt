-- The canonical text of polynomials and problems.
use Rattle.std.specs.Prelude.{ℕ, ◌≡◌, ◌==◌, Bool, true, false, List, [], ◌∷◌, ◌++◌, take, drop, if◌then◌else◌, codes, decimal, Option}
use Rattle.std.specs.Prelude.{Some, None, Result, Ok, Err}
use Rattle.std.specs.List.{flat_map, join_by}
use Rattle.cgs_order.specs.declared.kind.Kind.{Kind}
use Rattle.cgs_order.specs.Words as order
use Rattle.cgs_poly.specs.Ring.{Ring}
use Rattle.cgs_poly.specs.Polynomial.{Term}
use Rattle.cgs_problem.specs.declared.problem.Problem.{Problem}

-- a power of a name, with no exponent where it is 1
abbrev pub power_text : List ℕ → ℕ → List ℕ
power_text name exponent = if exponent == 1 then name else name ++ codes "^" ++ decimal exponent

-- the powers of the names whose exponent is not 0
abbrev pub powers_text : List (List ℕ) → List ℕ → List (List ℕ)
powers_text [] exponents = []
powers_text (name ∷ names) [] = []
powers_text (name ∷ names) (exponent ∷ exponents) =
    if exponent == 0 then powers_text names exponents else power_text name exponent ∷ powers_text names exponents

-- the powers of a monomial: the parameters' before the variables'
abbrev pub monomial_text : Ring → List (List ℕ) → List ℕ → List (List ℕ)
monomial_text ring names exponents =
    powers_text (drop ring.variables names) (drop ring.variables exponents) ++ powers_text (take ring.variables names) (take ring.variables exponents)

-- the coefficient, left out where it is 1 and a power follows, and the powers
abbrev pub factors_text : ℕ → List (List ℕ) → List (List ℕ)
factors_text coefficient [] = decimal coefficient ∷ []
factors_text coefficient (power ∷ powers) = if coefficient == 1 then power ∷ powers else decimal coefficient ∷ power ∷ powers

-- the factors of a term, joined by asterisks
abbrev pub term_text : Ring → List (List ℕ) → Term → List ℕ
term_text ring names term = join_by (λ factor. factor) (codes "*") (factors_text term.coefficient (monomial_text ring names term.exponents))

-- 0, or the terms from the greatest monomial on, joined by plus signs
abbrev pub polynomial_text : Ring → List (List ℕ) → List Term → List ℕ
polynomial_text ring names [] = codes "0"
polynomial_text ring names (term ∷ terms) = join_by (term_text ring names) (codes "+") (term ∷ terms)

-- the line of the modulus
abbrev pub field_line : ℕ → List ℕ
field_line modulus = codes "field " ++ decimal modulus ++ codes "\n"

-- the line of a keyword and names, a space before each
abbrev pub names_line : List ℕ → List (List ℕ) → List ℕ
names_line keyword names = keyword ++ flat_map (λ name. codes " " ++ name) names ++ codes "\n"

-- the line of the term order
abbrev pub order_line : Kind → List ℕ
order_line kind = codes "order " ++ order.word_of kind ++ codes "\n"

-- the line of a keyword and a polynomial
abbrev pub polynomial_line : List ℕ → Ring → List (List ℕ) → List Term → List ℕ
polynomial_line keyword ring names f = keyword ++ codes " " ++ polynomial_text ring names f ++ codes "\n"

-- a line for each polynomial
abbrev pub polynomial_lines : List ℕ → Ring → List (List ℕ) → List (List Term) → List ℕ
polynomial_lines keyword ring names fs = flat_map (polynomial_line keyword ring names) fs

-- the line of a thesis, if there is one
abbrev pub thesis_line : Ring → List (List ℕ) → Option (List Term) → List ℕ
thesis_line ring names None = []
thesis_line ring names (Some f) = polynomial_line (codes "thesis") ring names f

-- the line of a point, a space before each number
abbrev pub point_line : List ℕ → List ℕ
point_line point = codes "point" ++ flat_map (λ n. codes " " ++ decimal n) point ++ codes "\n"

-- the lines before the polynomials: the parameters stand behind the variables in the list of names, and before them in the text
abbrev pub header_text : Problem → List ℕ
header_text problem =
    field_line problem.ring.modulus
    ++ names_line (codes "parameters") (drop problem.ring.variables problem.names)
    ++ names_line (codes "variables") (take problem.ring.variables problem.names)
    ++ order_line problem.ring.kind

-- the lines of the conditions, the polynomials, the thesis and the points
abbrev pub body_text : Problem → List ℕ
body_text problem =
    polynomial_lines (codes "zero") problem.ring problem.names problem.zero
    ++ polynomial_lines (codes "nonzero") problem.ring problem.names problem.nonzero
    ++ polynomial_lines (codes "poly") problem.ring problem.names problem.polys
    ++ thesis_line problem.ring problem.names problem.thesis
    ++ flat_map point_line problem.points

-- the canonical text of a problem
abbrev pub problem_text : Problem → List ℕ
problem_text problem = header_text problem ++ body_text problem ++ codes "end\n"

-- new is old with a front of the text
abbrev pub AppendsFront : List ℕ → List ℕ → List ℕ → Type 0
AppendsFront old new text = (n : ℕ) × (new ≡ old ++ take n text)

-- A call appended the text, or for want of memory a front of it.
abbrev pub Prints : {E : Type 0} → Result (Unit {0}) E → List ℕ → List ℕ → List ℕ → Type 0
Prints (Ok done) old new text = new ≡ old ++ text
Prints (Err e) old new text = AppendsFront old new text

-- the powers of a term, an asterisk before each, but before the first only where a coefficient was printed
abbrev pub following : Bool → List (List ℕ) → List ℕ
following true powers = join_by (λ power. power) (codes "*") powers
following false powers = flat_map (λ power. codes "*" ++ power) powers
