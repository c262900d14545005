-- What some polynomials of the second format say.
use Rattle.std.proofs.Common.{◌≡◌, ℕ, List, [], ◌∷◌, ◌++◌, Ok, Err, refl}
use Rattle.std.specs.Prelude.{codes, replicate}
use Rattle.cgs_list.specs.Results.{and_then}
use Rattle.cgs_order.specs.declared.kind.Kind.TheVariants.{Lex}
use Rattle.cgs_order.specs.TermOrder.{key, compared}
use Rattle.cgs_poly.specs.Polynomial.{term}
use Rattle.cgs_tokens.specs.declared.token.Format.TheVariants.{Two}
use Rattle.cgs_tokens.specs.Tokens.{tokens_of, tokens_from, token_at, name_at, number_at, sign_in}
use Rattle.cgs_problem.specs.declared.fault.TextKind.TheVariants as fault
use Rattle.cgs_problem.specs.Lexemes.{said_in}
use Rattle.cgs_problem.specs.Values.{Valued, times_repeatedly}
use Rattle.cgs_problem.specs.Expressions.{Scope, expression_said, sum_from}

-- the parameter a and the variables x and y modulo 7, with s for x+a
abbrev pub scope : ℕ → ℕ → Scope
scope barred most = record {
  reader = record {
    ring = record { modulus = 7; variables = 2; parameters = 1; kind = Lex };
    names = codes "x" ∷ codes "y" ∷ codes "a" ∷ [];
    barred = barred;
    most = most;
  };
  named = record { word = codes "s"; value = term 1 (1 ∷ 0 ∷ 0 ∷ []) ∷ term 1 (0 ∷ 0 ∷ 1 ∷ []) ∷ [] } ∷ [];
}

-- what a text says as an equation, with so many units
abbrev pub equation : ℕ → List ℕ → Valued
equation units text = and_then (said_in text (tokens_of Two text)) (expression_said (scope 0 32767) units)

abbrev pub condition : List ℕ → Valued
condition text = and_then (said_in text (tokens_of Two text)) (expression_said (scope 2 32767) 100)

abbrev pub claim : List ℕ → Valued
claim text = and_then (said_in text (tokens_of Two text)) (expression_said (scope 0 32766) 100)

-- exactly the units that it costs, and one fewer

pub row_45 : equation 30 (codes "(s-1)^2*y-2*(x+1)") ≡ Ok (
  (term 1 (2 ∷ 1 ∷ 0 ∷ []) ∷ term 2 (1 ∷ 1 ∷ 1 ∷ []) ∷ term 5 (1 ∷ 1 ∷ 0 ∷ []) ∷ term 5 (1 ∷ 0 ∷ 0 ∷ []) ∷ term 1 (0 ∷ 1 ∷ 2 ∷ [])
      ∷ term 5 (0 ∷ 1 ∷ 1 ∷ []) ∷ term 1 (0 ∷ 1 ∷ 0 ∷ []) ∷ term 5 (0 ∷ 0 ∷ 0 ∷ []) ∷ []),
  0,
)
unfolding tokens_from token_at name_at number_at sign_in sum_from times_repeatedly compared key
row_45 = refl

pub one_fewer : equation 29 (codes "(s-1)^2*y-2*(x+1)") ≡ Err fault.Large
unfolding tokens_from token_at name_at number_at sign_in sum_from times_repeatedly compared key
one_fewer = refl

-- The power costs what its multiplications cost, and each value is tried before the token after it.

pub value_first : equation 4 (codes "(x+1)^2 x") ≡ Err fault.Large
unfolding tokens_from token_at name_at number_at sign_in sum_from times_repeatedly compared key
value_first = refl

pub token_first : equation 2 (codes "(x+1)*2^3") ≡ Err fault.Syntax
unfolding tokens_from token_at name_at number_at sign_in sum_from times_repeatedly compared key
token_first = refl

pub to_the_0 : equation 1 (codes "(0)^0") ≡ Ok (term 1 (0 ∷ 0 ∷ 0 ∷ []) ∷ [], 0)
unfolding tokens_from token_at name_at number_at sign_in sum_from times_repeatedly compared key
to_the_0 = refl

-- one more sign than may stand before a factor, and parentheses that do not fit

pub two_signs : equation 100 (codes "--x") ≡ Err fault.Syntax
unfolding tokens_from token_at name_at number_at sign_in sum_from times_repeatedly compared key
two_signs = refl

pub sign_within : equation 100 (codes "-(-x)") ≡ equation 100 (codes "x+0*a")
unfolding tokens_from token_at name_at number_at sign_in sum_from times_repeatedly compared key
sign_within = refl

pub nothing_within : equation 100 (codes "()") ≡ Err fault.Syntax
unfolding tokens_from token_at name_at number_at sign_in sum_from times_repeatedly compared key
nothing_within = refl

pub never_closed : equation 100 (codes "(x+1") ≡ Err fault.Syntax
unfolding tokens_from token_at name_at number_at sign_in sum_from times_repeatedly compared key
never_closed = refl

pub closed_twice : equation 100 (codes "(x+1))") ≡ Err fault.Syntax
unfolding tokens_from token_at name_at number_at sign_in sum_from times_repeatedly compared key
closed_twice = refl

-- names, exponents and degrees

pub variable_of_a_name : condition (codes "a*s") ≡ Err fault.Variable
unfolding tokens_from token_at name_at number_at sign_in sum_from times_repeatedly compared key
variable_of_a_name = refl

pub variable : condition (codes "(a+x)") ≡ Err fault.Variable
unfolding tokens_from token_at name_at number_at sign_in sum_from times_repeatedly compared key
variable = refl

pub unknown : equation 100 (codes "(z^99999") ≡ Err fault.Unknown
unfolding tokens_from token_at name_at number_at sign_in sum_from times_repeatedly compared key
unknown = refl

pub exponent : equation 100 (codes "(x)^32768") ≡ Err fault.Exponent
unfolding tokens_from token_at name_at number_at sign_in sum_from times_repeatedly compared key
exponent = refl

pub degree : equation 100 (codes "(x^20000)*(x^20000)") ≡ Err fault.Degree
unfolding tokens_from token_at name_at number_at sign_in sum_from times_repeatedly compared key
degree = refl

pub degree_of_a_claim : claim (codes "x^32767") ≡ Err fault.Degree
unfolding tokens_from token_at name_at number_at sign_in sum_from times_repeatedly compared key
degree_of_a_claim = refl

-- 64 parentheses may be open, and 65 may not

pub nested : equation 100 (replicate 64 40 ++ codes "a" ++ replicate 64 41) ≡ Ok (term 1 (0 ∷ 0 ∷ 1 ∷ []) ∷ [], 35)
unfolding tokens_from token_at name_at number_at sign_in sum_from times_repeatedly compared key
nested = refl

pub nested_deeper : equation 100 (replicate 65 40 ++ codes "x") ≡ Err fault.Nested
unfolding tokens_from token_at name_at number_at sign_in sum_from times_repeatedly compared key
nested_deeper = refl
