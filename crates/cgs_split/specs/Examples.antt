-- Worked trees, modulo 7 in x with the parameter a under the order lex, and children that no node has.
use Rattle.std.specs.Prelude.{ℕ, ◌≡◌, false, List, [], ◌∷◌, map}
use Rattle.cgs_order.specs.declared.kind.Kind.TheVariants.{Lex}
use Rattle.cgs_poly.specs.Ring.{Ring}
use Rattle.cgs_poly.specs.Polynomial.{Term, term}
use Rattle.cgs_entry.specs.declared.entry.Cause.{Cause}
use Rattle.cgs_entry.specs.declared.entry.Cause.TheVariants.{Budget, Degree, Depth}
use Rattle.cgs_entry.specs.declared.entry.Entry.{Entry}
use Rattle.cgs_entry.specs.declared.entry.EntryKind.TheVariants.{Solved, Refused}
use Rattle.cgs_entry.specs.Examples.{seven, only_a, only_x, one, line, solved}
use Rattle.cgs_board.specs.Tree.{entries_of}
use Rattle.cgs_split.specs.declared.kind.BranchKind.TheVariants.{Split, Main}
use Rattle.cgs_split.specs.declared.kind.BranchKind.TheVariants.{Unit as UnitKind}
use Rattle.cgs_split.specs.Cases.{Case, case_like}
use Rattle.cgs_split.specs.Trees.{root_case, IsSoundNode}
use Rattle.cgs_split.specs.NodeRun.{node_of, height_of}

-- the list of polynomials under conditions, with so many units a branch and up to a depth
abbrev pub list_of : ℕ → ℕ → List (List Term) → List (List Term) → List (List Term) → List Entry
list_of budget depth zero nonzero polys =
    map (λ found. found.1) (entries_of node_of height_of (root_case seven (record { budget = budget; depth = depth }) zero nonzero polys) [])

abbrev pub refused : List ℕ → List (List Term) → List (List Term) → Cause → Entry
refused path zero nonzero cause = record { path = path; conditions = record { zero = zero; nonzero = nonzero }; kind = Refused cause }

-- a*x - 1 has the basis a*x - 1 where a is not 0, and 1 where a is 0. The last branch needs 7 units, the root 4.
abbrev pub LineExamples : Type 0
LineExamples =
    (list_of 7 64 [] [] (line ∷ []) ≡ solved 0 [] (only_a ∷ []) (line ∷ []) ∷ solved 1 (only_a ∷ []) [] (one ∷ []) ∷ [])
    × (list_of 6 64 [] [] (line ∷ []) ≡ solved 0 [] (only_a ∷ []) (line ∷ []) ∷ refused (1 ∷ []) (only_a ∷ []) [] Budget ∷ [])
    × (list_of 3 64 [] [] (line ∷ []) ≡ refused [] [] [] Budget ∷ [])
    × (list_of 7 0 [] [] (line ∷ []) ≡ solved 0 [] (only_a ∷ []) (line ∷ []) ∷ refused (1 ∷ []) (only_a ∷ []) [] Depth ∷ [])

-- where a is given not to be 0 the other branch is empty
abbrev pub GivenConditionExample : Type 0
GivenConditionExample = list_of 100 64 [] (only_a ∷ []) (line ∷ []) ≡ solved 0 [] (only_a ∷ []) (line ∷ []) ∷ []

-- a and x have the basis 1 where a is not 0, and x where it is. All branches need 4 units.
abbrev pub TwoMembersExample : Type 0
TwoMembersExample =
    (list_of 4 64 [] [] (only_a ∷ only_x ∷ []) ≡ solved 0 [] (only_a ∷ []) (one ∷ []) ∷ solved 1 (only_a ∷ []) [] (only_x ∷ []) ∷ [])
    × (list_of 3 64 [] [] (only_a ∷ only_x ∷ []) ≡ refused [] [] [] Budget ∷ [])

-- a^2 - 1
abbrev pub square_less_one : List Term
square_less_one = term 1 (0 ∷ 2 ∷ []) ∷ term 6 (0 ∷ 0 ∷ []) ∷ []

-- an entry whose region may be empty
abbrev pub untested : ℕ → List (List Term) → List (List Term) → List (List Term) → Entry
untested n zero nonzero basis = record { path = n ∷ []; conditions = record { zero = zero; nonzero = nonzero }; kind = Solved basis false }

-- a^2 - 1 has the basis 1 where it is not 0, and the empty basis where it is. That the regions are not empty takes 7 and 6 units to find, the root 4.
abbrev pub UnitExample : Type 0
UnitExample =
    (list_of 7 64 [] [] (square_less_one ∷ [])
    ≡ solved 0 [] (square_less_one ∷ []) (one ∷ []) ∷ solved 1 (square_less_one ∷ []) [] [] ∷ [])
    × (list_of 6 64 [] [] (square_less_one ∷ [])
    ≡ untested 0 [] (square_less_one ∷ []) (one ∷ []) ∷ solved 1 (square_less_one ∷ []) [] [] ∷ [])

-- nothing has the empty basis everywhere, which takes 2 units to find
abbrev pub NothingExample : Type 0
NothingExample = (list_of 2 64 [] [] [] ≡ solved 0 [] [] [] ∷ []) × (list_of 1 64 [] [] [] ≡ refused [] [] [] Budget ∷ [])

-- where 1 is to be 0 there is nothing
abbrev pub ContradictionExample : Type 0
ContradictionExample = list_of 100 64 (one ∷ []) [] (only_x ∷ []) ≡ []

-- x and y with the parameters a and b
abbrev pub plane : Ring
plane = record { modulus = 7; variables = 2; parameters = 2; kind = Lex }

-- a, b, a*x and b*y
abbrev pub plane_a : List Term
plane_a = term 1 (0 ∷ 0 ∷ 1 ∷ 0 ∷ []) ∷ []

abbrev pub plane_b : List Term
plane_b = term 1 (0 ∷ 0 ∷ 0 ∷ 1 ∷ []) ∷ []

abbrev pub a_times_x : List Term
a_times_x = term 1 (1 ∷ 0 ∷ 1 ∷ 0 ∷ []) ∷ []

abbrev pub b_times_y : List Term
b_times_y = term 1 (0 ∷ 1 ∷ 0 ∷ 1 ∷ []) ∷ []

-- two powers without parameters, whose leads have an lcm of degree 40000: the pair of x^20000 and y^20000 is passed, that of x^20000*y and x*y^20000 not
abbrev pub high : ℕ → ℕ → List Term
high i j = term 1 (i ∷ j ∷ []) ∷ []

abbrev pub high_list : List (List Term) → List Entry
high_list polys =
    map (λ found. found.1)
    (entries_of node_of height_of (root_case (record plane { parameters = 0 }) (record { budget = 100; depth = 64 }) [] [] polys) [])

abbrev pub HighDegreeExample : Type 0
HighDegreeExample =
    (high_list (high 20000 0 ∷ high 0 20000 ∷ []) ≡ solved 0 [] [] (high 0 20000 ∷ high 20000 0 ∷ []) ∷ [])
    × (high_list (high 20000 1 ∷ high 1 20000 ∷ []) ≡ refused [] [] [] Degree ∷ [])

-- the branch of some polynomials under no condition
abbrev pub free : Ring → List (List Term) → Case
free ring polys = root_case ring (record { budget = 100; depth = 64 }) [] [] polys

-- the branch of a*x and b*y, and its children if the last is without b ≠ 0: the last two have the point where a and b are 0
abbrev pub crossing : Case
crossing = free plane (b_times_y ∷ a_times_x ∷ [])

abbrev pub OverlapIsRefused : Type 0
OverlapIsRefused =
    ¬ (IsSoundNode plane crossing []
    (case_like crossing Main [] (plane_b ∷ plane_a ∷ []) crossing.polys
    ∷ case_like crossing Split (plane_b ∷ []) [] crossing.polys
    ∷ case_like crossing Split (plane_a ∷ []) [] crossing.polys
    ∷ []))

-- the branch of a and x, and its children if the second has no a = 0: the first has the points where a is not 0
abbrev pub two_members : Case
two_members = free seven (only_a ∷ only_x ∷ [])

abbrev pub OldZerosAreRefused : Type 0
OldZerosAreRefused =
    ¬ (IsSoundNode seven two_members []
    (case_like two_members UnitKind [] (only_a ∷ []) (one ∷ []) ∷ case_like two_members Main [] [] (only_x ∷ []) ∷ []))

-- the branch of a*x - 1, and its children if the first is without a ≠ 0: both have the point where a is 0
abbrev pub line_branch : Case
line_branch = free seven (line ∷ [])

abbrev pub MissingCoefficientIsRefused : Type 0
MissingCoefficientIsRefused =
    ¬ (IsSoundNode seven line_branch []
    (case_like line_branch Main [] [] (line ∷ []) ∷ case_like line_branch Split (only_a ∷ []) [] (line ∷ []) ∷ []))

-- the branch of a*x and x^2, and its children if the first keeps both: they become x and x^2 where a is 1, and x divides x^2
abbrev pub squares : Case
squares = free seven ((term 1 (1 ∷ 1 ∷ []) ∷ []) ∷ (term 1 (2 ∷ 0 ∷ []) ∷ []) ∷ [])

abbrev pub NotMinimalIsRefused : Type 0
NotMinimalIsRefused =
    ¬ (IsSoundNode seven squares []
    (case_like squares Main [] (only_a ∷ []) squares.polys ∷ case_like squares Split (only_a ∷ []) [] squares.polys ∷ []))
