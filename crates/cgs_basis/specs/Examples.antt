-- Worked runs with the order lex.
use Rattle.std.specs.Prelude.{ℕ, ◌≡◌, ◌-◌, List, [], ◌∷◌}
use Rattle.cgs_order.specs.declared.kind.Kind.TheVariants.{Lex}
use Rattle.cgs_poly.specs.Ring.{Ring}
use Rattle.cgs_poly.specs.Polynomial.{Term, term}
use Rattle.cgs_algebra.specs.Examples as plain
use Rattle.cgs_divide.specs.Ending.{ended, out_of_budget, out_of_degree}
use Rattle.cgs_basis.specs.BasisRun.{completion, basis_run}

-- modulo 7 in x and y with the parameter a
abbrev pub three : Ring
three = record { modulus = 7; variables = 2; parameters = 1; kind = Lex }

-- x^2 + a and x*y + 1
abbrev pub generators : List (List Term)
generators =
    (term 1 (2 ∷ 0 ∷ 0 ∷ []) ∷ term 1 (0 ∷ 0 ∷ 1 ∷ []) ∷ [])
    ∷ (term 1 (1 ∷ 1 ∷ 0 ∷ []) ∷ term 1 (0 ∷ 0 ∷ 0 ∷ []) ∷ []) ∷ []

-- a*y^2 + 1 and x + 6*a*y
abbrev pub reduced : List (List Term)
reduced =
    (term 1 (0 ∷ 2 ∷ 1 ∷ []) ∷ term 1 (0 ∷ 0 ∷ 0 ∷ []) ∷ [])
    ∷ (term 1 (1 ∷ 0 ∷ 0 ∷ []) ∷ term 6 (0 ∷ 1 ∷ 1 ∷ []) ∷ []) ∷ []

-- modulo 7 in x with the parameter a
abbrev pub two : Ring
two = record { modulus = 7; variables = 1; parameters = 1; kind = Lex }

-- a*x + 6
abbrev pub ax_less_one : List Term
ax_less_one = term 1 (1 ∷ 1 ∷ []) ∷ term 6 (0 ∷ 0 ∷ []) ∷ []

-- a, x, 1 and 0
abbrev pub a : List Term
a = term 1 (0 ∷ 1 ∷ []) ∷ []

abbrev pub x : List Term
x = term 1 (1 ∷ 0 ∷ []) ∷ []

abbrev pub one : List Term
one = term 1 (0 ∷ 0 ∷ []) ∷ []

abbrev pub nothing : List Term
nothing = []

-- 2*a*x + 5, which is twice a*x + 6
abbrev pub doubled : List Term
doubled = term 2 (1 ∷ 1 ∷ []) ∷ term 5 (0 ∷ 0 ∷ []) ∷ []

-- modulo 7 in y above x with the parameter a
abbrev pub with_y : Ring
with_y = record { modulus = 7; variables = 2; parameters = 1; kind = Lex }

-- a, where y stands above x
abbrev pub only_a : List Term
only_a = term 1 (0 ∷ 0 ∷ 1 ∷ []) ∷ []

-- y - 1
abbrev pub y_less_one : List Term
y_less_one = term 1 (1 ∷ 0 ∷ 0 ∷ []) ∷ term 6 (0 ∷ 0 ∷ 0 ∷ []) ∷ []

-- a^2 - 1, where y stands above a
abbrev pub a_squared_less_one : List Term
a_squared_less_one = term 1 (0 ∷ 0 ∷ 2 ∷ []) ∷ term 6 (0 ∷ 0 ∷ 0 ∷ []) ∷ []

-- x^20000 and y^20000, of which the lcm has the degree 40000
abbrev pub high_x : List Term
high_x = term 1 (20000 ∷ 0 ∷ []) ∷ []

abbrev pub high_y : List Term
high_y = term 1 (0 ∷ 20000 ∷ []) ∷ []

-- x^20000*y and x*y^20000, of which the lcm has the same degree
abbrev pub steep : List (List Term)
steep = (term 1 (20000 ∷ 1 ∷ []) ∷ []) ∷ (term 1 (1 ∷ 20000 ∷ []) ∷ []) ∷ []

-- a*y, a*x and x*y
abbrev pub products : List (List Term)
products = (term 1 (0 ∷ 1 ∷ 1 ∷ []) ∷ []) ∷ (term 1 (1 ∷ 0 ∷ 1 ∷ []) ∷ []) ∷ (term 1 (1 ∷ 1 ∷ 0 ∷ []) ∷ []) ∷ []

-- modulo 32003 in x and y with the parameters a and r
abbrev pub circles_ring : Ring
circles_ring = record { modulus = 32003; variables = 2; parameters = 2; kind = Lex }

-- x^2 + y^2 - 1 and x^2 - 2*a*x + a^2 + y^2 - r: a circle, and one of the squared radius r with its centre moved by a
abbrev pub unit_circle : List Term
unit_circle = term 1 (2 ∷ 0 ∷ 0 ∷ 0 ∷ []) ∷ term 1 (0 ∷ 2 ∷ 0 ∷ 0 ∷ []) ∷ term 32002 (0 ∷ 0 ∷ 0 ∷ 0 ∷ []) ∷ []

abbrev pub moved_circle : List Term
moved_circle =
    term 1 (2 ∷ 0 ∷ 0 ∷ 0 ∷ []) ∷ term 32001 (1 ∷ 0 ∷ 1 ∷ 0 ∷ []) ∷ term 1 (0 ∷ 2 ∷ 0 ∷ 0 ∷ [])
    ∷ term 1 (0 ∷ 0 ∷ 2 ∷ 0 ∷ []) ∷ term 32002 (0 ∷ 0 ∷ 0 ∷ 1 ∷ []) ∷ []

-- with c for r - a^2 - 1, and 16002 and 8001 for the inverses of 2 and 4: a^2*y^2 + c^2/4 - a^2, (r-1)*x - 2*a*y^2 + a*c/2 + 2*a, a*x + c/2
abbrev pub without_x : List Term
without_x =
    term 1 (0 ∷ 2 ∷ 2 ∷ 0 ∷ []) ∷ term 8001 (0 ∷ 0 ∷ 4 ∷ 0 ∷ []) ∷ term 16001 (0 ∷ 0 ∷ 2 ∷ 1 ∷ []) ∷ term 16001 (0 ∷ 0 ∷ 2 ∷ 0 ∷ [])
    ∷ term 8001 (0 ∷ 0 ∷ 0 ∷ 2 ∷ []) ∷ term 16001 (0 ∷ 0 ∷ 0 ∷ 1 ∷ []) ∷ term 8001 (0 ∷ 0 ∷ 0 ∷ 0 ∷ []) ∷ []

abbrev pub with_radius : List Term
with_radius =
    term 1 (1 ∷ 0 ∷ 0 ∷ 1 ∷ []) ∷ term 32002 (1 ∷ 0 ∷ 0 ∷ 0 ∷ []) ∷ term 32001 (0 ∷ 2 ∷ 1 ∷ 0 ∷ [])
    ∷ term 16001 (0 ∷ 0 ∷ 3 ∷ 0 ∷ []) ∷ term 16002 (0 ∷ 0 ∷ 1 ∷ 1 ∷ []) ∷ term 16003 (0 ∷ 0 ∷ 1 ∷ 0 ∷ []) ∷ []

abbrev pub with_centre : List Term
with_centre = term 1 (1 ∷ 0 ∷ 1 ∷ 0 ∷ []) ∷ term 16001 (0 ∷ 0 ∷ 2 ∷ 0 ∷ []) ∷ term 16002 (0 ∷ 0 ∷ 0 ∷ 1 ∷ []) ∷ term 16001 (0 ∷ 0 ∷ 0 ∷ 0 ∷ []) ∷ []

-- a run needs so many units exactly: it ends with none left, and with one fewer it ends before
abbrev pub Needs : Ring → List (List Term) → ℕ → List (List Term) → Type 0
Needs ring F units R = (basis_run ring F units ≡ ended R 0) × (basis_run ring F (units - 1) ≡ out_of_budget 0)

-- x^2 + a and x*y + 1 need 16 units; with one unit the run takes their pair and no more
abbrev pub ParametricRuns : Type 0
ParametricRuns = Needs three generators 16 reduced × (basis_run three generators 1 ≡ out_of_budget 0)

-- x^2 - 1 and x*y - 1 need 16 units: 12 for the completion, which appends two remainders, and 4 for the autoreduction
abbrev pub PlainRuns : Type 0
PlainRuns =
    (completion plain.seven plain.generators 12 ≡ ended (plain.x_squared_less_one ∷ plain.xy_less_one ∷ plain.x_less_y ∷ plain.y_squared_less_one ∷ []) 0)
    × Needs plain.seven plain.generators 16 plain.basis

-- one polynomial needs as many units as it has terms, and 0 and a double of it change nothing. So do two whose leads are coprime: their pair is passed.
-- a*x + 6 and a become 1: their pair costs 1, and its remainder and the last member cost 1 each
abbrev pub ShortRuns : Type 0
ShortRuns =
    (basis_run two [] 0 ≡ ended [] 0)
    × Needs two (ax_less_one ∷ []) 2 (ax_less_one ∷ [])
    × Needs two (doubled ∷ nothing ∷ ax_less_one ∷ []) 2 (ax_less_one ∷ [])
    × Needs two (ax_less_one ∷ a ∷ []) 3 (one ∷ [])
    × Needs two (a ∷ x ∷ []) 2 (a ∷ x ∷ [])

-- y stands above the rest
abbrev pub RunsWithY : Type 0
RunsWithY =
    Needs with_y (y_less_one ∷ []) 2 (y_less_one ∷ [])
    × Needs with_y (only_a ∷ []) 1 (only_a ∷ [])
    × Needs with_y (only_a ∷ y_less_one ∷ []) 3 (only_a ∷ y_less_one ∷ [])
    × Needs with_y (a_squared_less_one ∷ y_less_one ∷ []) 4 (a_squared_less_one ∷ y_less_one ∷ [])

-- a pair whose multiples have a degree above the limit ends the run once it has paid its unit, unless it is passed
abbrev pub SteepRuns : Type 0
SteepRuns =
    Needs plain.seven (high_x ∷ high_y ∷ []) 2 (high_y ∷ high_x ∷ [])
    × (basis_run plain.seven steep 3 ≡ out_of_degree 2)
    × (basis_run plain.seven steep 0 ≡ out_of_budget 0)

-- of three pairs with one lcm the third is passed: the other two, which were taken before, are those of the third place
abbrev pub ThirdPlaces : Type 0
ThirdPlaces = Needs three products 5 products

-- the two circles need 107 units
abbrev pub CircleRuns : Type 0
CircleRuns = Needs circles_ring (unit_circle ∷ moved_circle ∷ []) 107 (without_x ∷ with_radius ∷ with_centre ∷ unit_circle ∷ [])

abbrev pub BasisExamples : Type 0
BasisExamples = ParametricRuns × PlainRuns × ShortRuns × RunsWithY × SteepRuns × ThirdPlaces × CircleRuns
