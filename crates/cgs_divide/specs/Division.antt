-- What a division of a polynomial by a list of polynomials finds (Cox, Little, O'Shea, chapter 2, section 3, theorem 3).
use Rattle.std.specs.Prelude.{ℕ, ◌≡◌, List, [], ◌∷◌, ◌++◌, length}
use Rattle.std.specs.List.{AllByRecursion}
use Rattle.std.specs.declared.cmp.Ordering.TheVariants.{Less}
use Rattle.cgs_exps.specs.Monomial.{product}
use Rattle.cgs_order.specs.TermOrder.{compared}
use Rattle.cgs_poly.specs.Ring.{Ring}
use Rattle.cgs_poly.specs.Polynomial.{Term, order_of, IsCanonical, StartsBelow, SameCoefficients, HasLowDegrees}
use Rattle.cgs_poly.specs.Product.{all_products, leading_monomial}
use Rattle.cgs_algebra.specs.Groebner.{DividesNone}

-- the terms of the sum of quotients times divisors
abbrev pub products : List (List Term) → List (List Term) → List Term
products [] G = []
products (q ∷ quotients) [] = []
products (q ∷ quotients) (g ∷ G) = all_products q g ++ products quotients G

-- each term of q times l is below m
abbrev pub TermsBelow : Ring → List ℕ → List ℕ → List Term → Type 0
TermsBelow ring m l [] = Unit {0}
TermsBelow ring m l (x ∷ q) = (compared (order_of ring) (product x.exponents l) m ≡ Less) × TermsBelow ring m l q

-- the multiples of the divisors by the quotients' terms have their leads below m
abbrev pub MultiplesBelow : Ring → List ℕ → List (List Term) → List (List Term) → Type 0
MultiplesBelow ring m [] G = Unit {0}
MultiplesBelow ring m (q ∷ quotients) [] = Unit {0}
MultiplesBelow ring m (q ∷ quotients) (g ∷ G) = TermsBelow ring m (leading_monomial g) q × MultiplesBelow ring m quotients G

-- f is the sum of quotients times divisors plus the remainder, no monomial of the remainder is divisible by a lead,
-- and whatever f is below, the remainder and the leads of all multiples are below too
pub record HasDivided (ring : Ring) (G : List (List Term)) (f remainder : List Term) (quotients : List (List Term)) : Type 0 where
  pub places : length quotients ≡ length G
  pub sum : SameCoefficients ring.modulus f (products quotients G ++ remainder)
  pub undivided : AllByRecursion (λ g. DividesNone (leading_monomial g) remainder) G
  pub below : (m : List ℕ) → StartsBelow ring m f → MultiplesBelow ring m quotients G × StartsBelow ring m remainder
  pub canonical_remainder : IsCanonical ring remainder
  pub canonical_quotients : AllByRecursion (IsCanonical ring) quotients
  pub low_remainder : HasLowDegrees f → HasLowDegrees remainder
  pub low_quotients : HasLowDegrees f → AllByRecursion HasLowDegrees quotients

-- a division of f by G finds this remainder, and some quotients
pub record IsRemainder (ring : Ring) (G : List (List Term)) (f remainder : List Term) : Type 0 where
  pub quotients : List (List Term)
  pub divided : HasDivided ring G f remainder quotients
