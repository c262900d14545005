-- The problem that a number generates, by a linear congruential generator (Knuth, The Art of Computer Programming, section 3.2.1).
use Rattle.std.specs.Prelude.{ℕ, ◌≡◌, ◌+◌, ◌*◌, ◌/◌, ◌%◌, ◌==◌, cond, zero, suc, None, List, [], ◌∷◌, ◌++◌, replicate, slice_set}
use Rattle.cgs_order.specs.declared.kind.Kind.TheVariants.{Lex}
use Rattle.cgs_poly.specs.Ring.{Ring}
use Rattle.cgs_poly.specs.Polynomial.{Term, term, canonical}
use Rattle.cgs_problem.specs.declared.problem.Problem.{Problem}

-- the number of states
abbrev pub states : ℕ
states = 4294967296

-- the next state
abbrev pub next : ℕ → ℕ
next s = (1664525 * s + 1013904223) % states

-- the number below m that a state gives
abbrev pub drawn : ℕ → ℕ → ℕ
drawn m s = (s / 65536) % m

-- how many links the problem has, each with a variable and two parameters
abbrev pub links : ℕ → ℕ
links k = 2 + k % 3

-- x1 to xn, with the parameters p1, q1, .., pn, qn
abbrev pub ring_of : ℕ → Ring
ring_of n = record { modulus = 101; variables = n; parameters = 2 * n; kind = Lex }

-- a letter and a digit
abbrev pub name : ℕ → ℕ → List ℕ
name letter i = letter ∷ (48 + i) ∷ []

-- x1 to xn
abbrev pub variable_names : ℕ → List (List ℕ)
variable_names zero = []
variable_names (suc n) = variable_names n ++ name 120 (n + 1) ∷ []

-- p1, q1 and so on
abbrev pub parameter_names : ℕ → List (List ℕ)
parameter_names zero = []
parameter_names (suc n) = parameter_names n ++ name 112 (n + 1) ∷ name 113 (n + 1) ∷ []

-- the monomial of 3*n places with a power of one variable and a parameter, by their places
abbrev pub powers : ℕ → ℕ → ℕ → ℕ → List ℕ
powers n i e j = slice_set (slice_set (replicate (3 * n) 0) i e) j 1

-- the exponent of the next variable in the link at place i, from a state; the last link has none
abbrev pub next_exponent : ℕ → ℕ → ℕ → ℕ
next_exponent n i s = cond (i + 1 == n) 0 (1 + drawn 2 (next (next (next s))))

-- the two terms of the link at place i: c*p*x, and d*q*y^e with the next variable y
abbrev pub own_term : ℕ → ℕ → ℕ → Term
own_term n i s = term (1 + drawn 100 (next s)) (powers n i 1 (n + 2 * i))

abbrev pub next_term : ℕ → ℕ → ℕ → Term
next_term n i s = term (1 + drawn 100 (next (next s))) (powers n (i + 1) (next_exponent n i s) (n + 2 * i + 1))

abbrev pub link : ℕ → ℕ → ℕ → List Term
link n i s = canonical (ring_of n) (own_term n i s ∷ next_term n i s ∷ [])

-- the state before the link at place i
abbrev pub state_at : ℕ → ℕ → ℕ
state_at k zero = k
state_at k (suc i) = next (next (next (state_at k i)))

-- the first i links
abbrev pub first_links : ℕ → ℕ → ℕ → List (List Term)
first_links n k zero = []
first_links n k (suc i) = first_links n k i ++ link n i (state_at k i) ∷ []

-- the problem of a number, without conditions, thesis and points
abbrev pub problem_of : ℕ → Problem
problem_of k = record {
  ring = ring_of (links k);
  names = variable_names (links k) ++ parameter_names (links k);
  zero = [];
  nonzero = [];
  polys = first_links (links k) k (links k);
  thesis = None;
  points = [];
}

-- the problem of 0 has 71*p1*x1 + 57*q1*x2 and 70*p2*x2 + 71*q2
abbrev pub first_link : List Term
first_link = term 71 (1 ∷ 0 ∷ 1 ∷ 0 ∷ 0 ∷ 0 ∷ []) ∷ term 57 (0 ∷ 1 ∷ 0 ∷ 1 ∷ 0 ∷ 0 ∷ []) ∷ []

abbrev pub last_link : List Term
last_link = term 70 (0 ∷ 1 ∷ 0 ∷ 0 ∷ 1 ∷ 0 ∷ []) ∷ term 71 (0 ∷ 0 ∷ 0 ∷ 0 ∷ 0 ∷ 1 ∷ []) ∷ []

abbrev pub FirstProblem : Type 0
FirstProblem = (problem_of 0).polys ≡ first_link ∷ last_link ∷ []
