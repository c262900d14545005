-- Monomials as lists of exponents, the variables' before the parameters' (Cox, Little, O'Shea, chapter 2, section 2).
use Rattle.std.specs.Prelude.{ℕ, ◌+◌, ◌-◌, Bool, true, ◌&&◌, ◌||◌, ◌==◌, List, [], ◌∷◌, nat_le, max, sum}

-- the sum of all exponents
abbrev pub degree : List ℕ → ℕ
degree a = sum a

-- the product: the sum at each place
abbrev pub product : List ℕ → List ℕ → List ℕ
product [] b = []
product (x ∷ a) [] = []
product (x ∷ a) (y ∷ b) = (x + y) ∷ product a b

-- no exponent of the first is greater than that of the second
abbrev pub divides : List ℕ → List ℕ → Bool
divides [] b = true
divides (x ∷ a) [] = true
divides (x ∷ a) (y ∷ b) = nat_le x y && divides a b

-- no variable or parameter stands in both
abbrev pub coprime : List ℕ → List ℕ → Bool
coprime [] b = true
coprime (x ∷ a) [] = true
coprime (x ∷ a) (y ∷ b) = (x == 0 || y == 0) && coprime a b

-- the quotient of the first by the second, which divides it
abbrev pub quotient : List ℕ → List ℕ → List ℕ
quotient [] b = []
quotient (x ∷ a) [] = []
quotient (x ∷ a) (y ∷ b) = (x - y) ∷ quotient a b

-- the least common multiple: the maximum at each place
abbrev pub lcm : List ℕ → List ℕ → List ℕ
lcm [] b = []
lcm (x ∷ a) [] = []
lcm (x ∷ a) (y ∷ b) = max x y ∷ lcm a b
