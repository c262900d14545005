-- Worked runs, modulo 7 in x and y with the order lex.
use Rattle.std.specs.Prelude.{◌≡◌, List, [], ◌∷◌}
use Rattle.cgs_poly.specs.Polynomial.{Term, term}
use Rattle.cgs_algebra.specs.Examples.{seven, x_squared_less_one, xy_less_one, x_less_y}
use Rattle.cgs_divide.specs.Ending.{ended, out_of_budget, out_of_degree}
use Rattle.cgs_divide.specs.DivisionRun.{divided, done}
use Rattle.cgs_divide.specs.AutoreductionRun.{autoreduction}

-- x^2*y
abbrev pub dividend : List Term
dividend = term 1 (2 ∷ 1 ∷ []) ∷ []

-- y^2 - 1
abbrev pub second_divisor : List Term
second_divisor = term 1 (0 ∷ 2 ∷ []) ∷ term 6 (0 ∷ 0 ∷ []) ∷ []

-- x + y^2
abbrev pub steep : List Term
steep = term 1 (1 ∷ 0 ∷ []) ∷ term 1 (0 ∷ 2 ∷ []) ∷ []

-- x*y^32766
abbrev pub tall : List Term
tall = term 1 (1 ∷ 32766 ∷ []) ∷ []

-- x - 1
abbrev pub x_less_one : List Term
x_less_one = term 1 (1 ∷ 0 ∷ []) ∷ term 6 (0 ∷ 0 ∷ []) ∷ []

-- x^2*y by x*y - 1 is x, with the remainder x; it takes 3 units.
-- x^2*y by y^2 - 1 and x*y - 1: the second alone divides it.
-- x^2*y by x*y - 1 and x^2 - 1, whose leads both divide it, in this order and in the other: the first takes it, and the quotient of the second is 0.
-- x*y^32766 by x + y^2: the multiple has the degree 32768. The step has paid; with a unit too few it ends the run before that.
abbrev pub DivisionExamples : Type 0
DivisionExamples =
    (divided seven (xy_less_one ∷ []) 3 dividend ≡ done (term 1 (1 ∷ 0 ∷ []) ∷ []) ((term 1 (1 ∷ 0 ∷ []) ∷ []) ∷ []) 0)
    × (divided seven (xy_less_one ∷ []) 2 dividend ≡ out_of_budget 0)
    × (divided seven (second_divisor ∷ xy_less_one ∷ []) 5 dividend ≡ done (term 1 (1 ∷ 0 ∷ []) ∷ []) ([] ∷ (term 1 (1 ∷ 0 ∷ []) ∷ []) ∷ []) 2)
    × (divided seven (xy_less_one ∷ x_squared_less_one ∷ []) 3 dividend ≡ done (term 1 (1 ∷ 0 ∷ []) ∷ []) ((term 1 (1 ∷ 0 ∷ []) ∷ []) ∷ [] ∷ []) 0)
    × (divided seven (x_squared_less_one ∷ xy_less_one ∷ []) 3 dividend ≡ done (term 1 (0 ∷ 1 ∷ []) ∷ []) ((term 1 (0 ∷ 1 ∷ []) ∷ []) ∷ [] ∷ []) 0)
    × (divided seven (steep ∷ []) 5 tall ≡ out_of_degree 3)
    × (divided seven (steep ∷ []) 1 tall ≡ out_of_budget 1)

-- x - y and x - 1 have one lead: the first of the two is kept
abbrev pub AutoreductionExamples : Type 0
AutoreductionExamples =
    (autoreduction seven (x_less_y ∷ x_less_one ∷ []) 2 ≡ ended (x_less_y ∷ []) 0)
    × (autoreduction seven (x_less_one ∷ x_less_y ∷ []) 2 ≡ ended (x_less_one ∷ []) 0)
