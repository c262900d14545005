-- Worked runs, modulo 7 in x with the parameters a and b.
use Rattle.std.specs.Prelude.{◌≡◌, List, [], ◌∷◌}
use Rattle.cgs_order.specs.declared.kind.Kind.TheVariants.{Lex}
use Rattle.cgs_poly.specs.Ring.{Ring}
use Rattle.cgs_poly.specs.Polynomial.{Term, term}
use Rattle.cgs_divide.specs.Ending.{ended, out_of_budget, out_of_degree}
use Rattle.cgs_member.specs.Cases.{cases_run}

abbrev pub seven : Ring
seven = record { modulus = 7; variables = 1; parameters = 2; kind = Lex }

-- a*x - b
abbrev pub line : List Term
line = term 1 (1 ∷ 1 ∷ 0 ∷ []) ∷ term 6 (0 ∷ 0 ∷ 1 ∷ []) ∷ []

-- x, b, 1
abbrev pub only_x : List Term
only_x = term 1 (1 ∷ 0 ∷ 0 ∷ []) ∷ []

abbrev pub only_b : List Term
only_b = term 1 (0 ∷ 0 ∷ 1 ∷ []) ∷ []

abbrev pub one : List Term
one = term 1 (0 ∷ 0 ∷ 0 ∷ []) ∷ []

-- a*x - 1
abbrev pub inverse : List Term
inverse = term 1 (1 ∷ 1 ∷ 0 ∷ []) ∷ term 6 (0 ∷ 0 ∷ 0 ∷ []) ∷ []

-- a^32766*x
abbrev pub tall : List Term
tall = term 1 (1 ∷ 32766 ∷ 0 ∷ []) ∷ []

-- modulo 7 in x and y with the parameter a: a*y - 1, x + y, a and 1
abbrev pub plane : Ring
plane = record { modulus = 7; variables = 2; parameters = 1; kind = Lex }

abbrev pub y_inverse : List Term
y_inverse = term 1 (0 ∷ 1 ∷ 1 ∷ []) ∷ term 6 (0 ∷ 0 ∷ 0 ∷ []) ∷ []

abbrev pub x_and_y : List Term
x_and_y = term 1 (1 ∷ 0 ∷ 0 ∷ []) ∷ term 1 (0 ∷ 1 ∷ 0 ∷ []) ∷ []

abbrev pub only_a : List Term
only_a = term 1 (0 ∷ 0 ∷ 1 ∷ []) ∷ []

-- x over a*x - b becomes a*x - (a*x - b) = b, in 4 units and not in 3, and over a*x - 1 it becomes 1.
-- x over 1 becomes 0; over no polynomial, and over 0, it is itself.
-- Of two members whose leads divide x the first is taken: over 1 and a*x - b nothing is left, over a*x - b and 1 first b, and then nothing.
-- a^32766*x over a*x - b: its product by a has the degree 32768. The step has paid; with a unit too few it ends the run before that.
-- x + y over a*y - 1: x goes to the remainder, y becomes 1, and the remainder is multiplied by a.
abbrev pub CasesExamples : Type 0
CasesExamples =
    (cases_run seven (line ∷ []) 4 only_x ≡ ended (only_b ∷ []) 0)
    × (cases_run seven (line ∷ []) 3 only_x ≡ out_of_budget 0)
    × (cases_run seven (inverse ∷ []) 4 only_x ≡ ended (one ∷ []) 0)
    × (cases_run seven (one ∷ []) 2 only_x ≡ ended [] 0)
    × (cases_run seven [] 1 only_x ≡ ended (one ∷ []) 0)
    × (cases_run seven ([] ∷ []) 1 only_x ≡ ended (one ∷ []) 0)
    × (cases_run seven (line ∷ []) 0 [] ≡ ended [] 0)
    × (cases_run seven (one ∷ line ∷ []) 5 only_x ≡ ended [] 3)
    × (cases_run seven (line ∷ one ∷ []) 5 only_x ≡ ended [] 0)
    × (cases_run seven (line ∷ []) 3 tall ≡ out_of_degree 0)
    × (cases_run seven (line ∷ []) 2 tall ≡ out_of_budget 2)
    × (cases_run plane (y_inverse ∷ []) 6 x_and_y ≡ ended (only_a ∷ one ∷ []) 0)
