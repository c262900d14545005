-- A grid: the divisors of a monomial, numbered, and a cell for each. A divisor's exponents are the digits of its number, the first place's the highest.
use Rattle.std.specs.Prelude.{ℕ, suc, ◌≡◌, ◌+◌, ◌*◌, ◌/◌, ◌%◌, ◌^◌, ◌<◌, ◌≤◌, true, List, [], ◌∷◌, length, get_or, set}
use Rattle.std.specs.List.{AllByRecursion}
use Rattle.cgs_exps.specs.Monomial.{degree, divides}
use Rattle.cgs_poly.specs.Polynomial.{Term, term, greatest_degree}
use Rattle.cgs_poly.specs.Product.{all_products}

-- the number of divisors of a monomial
abbrev pub count_divisors : List ℕ → ℕ
count_divisors [] = 1
count_divisors (x ∷ m) = count_divisors m * (x + 1)

-- what one more at each place adds to the number of a divisor
abbrev pub strides : List ℕ → List ℕ
strides [] = []
strides (x ∷ m) = count_divisors m ∷ strides m

-- the number of a divisor
abbrev pub number_of : List ℕ → List ℕ → ℕ
number_of [] n = 0
number_of (s ∷ ss) [] = 0
number_of (s ∷ ss) (x ∷ n) = x * s + number_of ss n

-- the divisor with a number
abbrev pub divisor_at : List ℕ → ℕ → List ℕ
divisor_at [] i = []
divisor_at (s ∷ ss) i = i / s ∷ divisor_at ss (i % s)

-- the numbers of all monomials
abbrev pub numbers_of : List ℕ → List Term → List ℕ
numbers_of ss [] = []
numbers_of ss (x ∷ f) = number_of ss x.exponents ∷ numbers_of ss f

-- the terms that cells stand for, from a number on
abbrev pub terms_at : List ℕ → ℕ → List ℕ → List Term
terms_at ss i [] = []
terms_at ss i (c ∷ cells) = term c (divisor_at ss i) ∷ terms_at ss (suc i) cells

-- the cells with v added to one
abbrev pub with_added : ℕ → ℕ → List ℕ → List ℕ
with_added i v cells = set cells i (get_or cells i 0 + v)

-- the cells with c times each coefficient added to the cell with its number, counted from a cell on
abbrev pub with_multiple : ℕ → ℕ → List ℕ → List ℕ → List ℕ → List ℕ
with_multiple c from [] numbers cells = cells
with_multiple c from (d ∷ ds) [] cells = cells
with_multiple c from (d ∷ ds) (n ∷ numbers) cells = with_multiple c from ds numbers (with_added (from + n) (c * d) cells)

-- so many products of two coefficients can be added to any cell
abbrev pub HasRoom : ℕ → List ℕ → Type 0
HasRoom n cells = AllByRecursion (λ x. x + n * 2 ^ 32 < 2 ^ 64) cells

pub record IsDivisor (m : List ℕ) (x : Term) : Type 0 where
  pub places : length x.exponents ≡ length m
  pub divides : divides x.exponents m ≡ true

-- all monomials of two polynomials and of their product divide the corner
pub record IsCorner (corner : List ℕ) (f g : List Term) : Type 0 where
  pub first : AllByRecursion (IsDivisor corner) f
  pub second : AllByRecursion (IsDivisor corner) g
  pub products : AllByRecursion (IsDivisor corner) (all_products f g)

-- the numbers below n are those of the divisors of a monomial of a low degree with so many places
pub record AreNumbered (k : ℕ) (ss : List ℕ) (n : ℕ) : Type 0 where
  pub corner : List ℕ
  pub places : length corner ≡ k
  pub low : degree corner ≤ greatest_degree
  pub strides : ss ≡ strides corner
  pub count : n ≡ count_divisors corner

-- a grid on which the product of two polynomials can be made
pub record IsGrid (k : ℕ) (ss : List ℕ) (n : ℕ) (f g : List Term) : Type 0 where
  pub numbered : AreNumbered k ss n
  pub corner : IsCorner numbered.corner f g
  pub few : n ≤ length f * length g
  pub small : length f * length g < 2 ^ 32
