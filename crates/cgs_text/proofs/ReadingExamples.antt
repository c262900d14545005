-- What some texts spell.
use Rattle.std.proofs.Common.{◌≡◌, ℕ, [], ◌∷◌, ◌++◌, Ok, Err, None, Result, refl}
use Rattle.std.specs.Prelude.{codes}
use Rattle.cgs_order.specs.declared.kind.Kind.TheVariants.{GrevLex}
use Rattle.cgs_order.specs.TermOrder.{key, compared}
use Rattle.cgs_poly.specs.Polynomial.{term}
use Rattle.cgs_tokens.specs.Tokens.{tokens_from, token_at, name_at, number_at, sign_in}
use Rattle.cgs_problem.specs.declared.problem.Problem.{Problem}
use Rattle.cgs_problem.specs.declared.fault.TextFault.{TextFault}
use Rattle.cgs_problem.specs.declared.fault.TextKind.{TextKind}
use Rattle.cgs_problem.specs.declared.fault.TextKind.TheVariants as fault
use Rattle.cgs_problem.specs.Reading.{problem_spelled, read_from}
use Rattle.cgs_problem.specs.Sums.{product}

-- the fault of a kind on a line
abbrev pub at : ℕ → TextKind → Result Problem TextFault
at line kind = Err (record { line = line; kind = kind })

-- an exponent above the limit, and products whose degrees pass it

pub exponent : problem_spelled (codes "field 7\nparameters\nvariables x\norder lex\npoly x^32768\nend\n") ≡ at 5 fault.Exponent
unfolding read_from tokens_from token_at name_at number_at sign_in product
exponent = refl

pub degree : problem_spelled (codes "field 7\nparameters\nvariables x\norder lex\npoly x^32767*x\nend\n") ≡ at 5 fault.Degree
unfolding read_from tokens_from token_at name_at number_at sign_in product
degree = refl

pub thesis_degree : problem_spelled (codes "field 7\nparameters\nvariables x\norder lex\nthesis x^32767\nend\n") ≡ at 5 fault.Degree
unfolding read_from tokens_from token_at name_at number_at sign_in product
thesis_degree = refl

-- a degree that is passed comes before a fault of the next token, and after one of this token
pub degree_first : problem_spelled (codes "field 7\nparameters\nvariables x\norder lex\npoly x^32767*x x\nend\n") ≡ at 5 fault.Degree
unfolding read_from tokens_from token_at name_at number_at sign_in product
degree_first = refl

pub exponent_first : problem_spelled (codes "field 7\nparameters\nvariables x\norder lex\npoly x^32767*x^+\nend\n") ≡ at 5 fault.Syntax
unfolding read_from tokens_from token_at name_at number_at sign_in product
exponent_first = refl

-- faults of the header and of tokens

pub no_modulus : problem_spelled (codes "field 9\nend\n") ≡ at 1 fault.Field
unfolding read_from tokens_from token_at name_at number_at sign_in product
no_modulus = refl

pub no_end : problem_spelled (codes "field 7\nparameters a\nvariables x\norder lex\npoly a*x-1\n") ≡ at 6 fault.End
unfolding read_from tokens_from token_at name_at number_at sign_in product
no_end = refl

pub unknown : problem_spelled (codes "field 7\nparameters a\nvariables x\norder lex\npoly a*z-1\nend\n") ≡ at 5 fault.Unknown
unfolding read_from tokens_from token_at name_at number_at sign_in product
unknown = refl

pub literal : problem_spelled (codes "field 7\nparameters a\nvariables x\norder lex\npoly 1000000000000000000\nend\n") ≡ at 5 fault.Literal
unfolding read_from tokens_from token_at name_at number_at sign_in product
literal = refl

pub empty : problem_spelled [] ≡ at 1 fault.End
unfolding read_from
empty = refl

-- comments, an empty line, and CR before each LF
pub accepted : problem_spelled
    (codes "# example\r\nfield 7\r\nparameters a\r\nvariables x y\r\n\r\norder grevlex\r\n"
    ++ codes "poly 10*x*y - x^2 + 3*y*x + 7*a\r\nnonzero 2*a-2\r\nzero 0\r\nend\r\n")
    ≡ Ok (record {
      ring = record { modulus = 7; variables = 2; parameters = 1; kind = GrevLex };
      names = codes "x" ∷ codes "y" ∷ codes "a" ∷ [];
      zero = [] ∷ [];
      nonzero = (term 2 (0 ∷ 0 ∷ 1 ∷ []) ∷ term 5 (0 ∷ 0 ∷ 0 ∷ []) ∷ []) ∷ [];
      polys = (term 6 (2 ∷ 0 ∷ 0 ∷ []) ∷ term 6 (1 ∷ 1 ∷ 0 ∷ []) ∷ []) ∷ [];
      thesis = None;
      points = [];
    })
unfolding read_from tokens_from token_at name_at number_at sign_in product key compared
accepted = refl
