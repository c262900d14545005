-- Combinations of a list of polynomials, and the ideal that it generates (Cox, Little, O'Shea, chapter 1, section 4).
use Rattle.std.specs.Prelude.{ℕ, ◌≡◌, ◌<◌, List, [], ◌∷◌, ◌++◌, length, slice_index_or}
use Rattle.cgs_poly.specs.Ring.{Ring}
use Rattle.cgs_poly.specs.Polynomial.{Term, places, SameCoefficients}
use Rattle.cgs_poly.specs.Product.{multiple}

-- c*t times the polynomial at a place of a list
pub record Summand : Type 0 where
  pub coefficient : ℕ
  pub monomial : List ℕ
  pub place : ℕ

abbrev pub summand : ℕ → List ℕ → ℕ → Summand
summand c t i = record { coefficient = c; monomial = t; place = i }

-- the terms of the sum of the c*t*F[i]
abbrev pub combined : List (List Term) → List Summand → List Term
combined F [] = []
combined F (k ∷ ks) = multiple k.coefficient k.monomial (slice_index_or F k.place []) ++ combined F ks

-- each summand has a monomial of the ring and a place of F
abbrev pub IsCombination : Ring → List (List Term) → List Summand → Type 0
IsCombination ring F [] = Unit {0}
IsCombination ring F (k ∷ ks) = (length k.monomial ≡ places ring) × (k.place < length F) × IsCombination ring F ks

-- f is in the ideal of F: some combination of F has it as its sum
pub record IsMember (ring : Ring) (F : List (List Term)) (f : List Term) : Type 0 where
  pub summands : List Summand
  pub combination : IsCombination ring F summands
  pub sum : SameCoefficients ring.modulus f (combined F summands)

-- two lists generate one ideal
pub record SameIdeal (ring : Ring) (F G : List (List Term)) : Type 0 where
  pub first : (f : List Term) → IsMember ring F f → IsMember ring G f
  pub second : (f : List Term) → IsMember ring G f → IsMember ring F f
