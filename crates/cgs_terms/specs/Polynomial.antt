-- Polynomials as lists of terms (Cox, Little, O'Shea, chapter 1, section 1; the canonical list of chapter 2, section 2).
-- Any list of terms stands for their sum. The polynomial itself is the one list for it that is canonical: coefficients 1 to p-1, and
-- monomials that strictly fall.
use Rattle.std.specs.Prelude.{ℕ, ◌≡◌, ◌+◌, ◌*◌, ◌%◌, ◌<◌, ◌≤◌, cond, ◌==◌, List, [], ◌∷◌, length, replicate}
use Rattle.std.specs.List.{AllByRecursion}
use Rattle.std.specs.declared.cmp.Ordering.TheVariants.{Less, Equal, Greater}
use Rattle.std.specs.Ordering.{is_eq, nat_cmp}
use Rattle.std.specs.Cmp.Lexicographic.{slice_cmp}
use Rattle.cgs_field.specs.Prime.{IsModulus}
use Rattle.cgs_exps.specs.Monomial.{degree}
use Rattle.cgs_order.specs.declared.block.BlockOrder.{BlockOrder}
use Rattle.cgs_order.specs.TermOrder.{compared}
use Rattle.cgs_terms.specs.declared.ring.Ring.{Ring}

-- a number times a monomial
pub record Term : Type 0 where
  pub coefficient : ℕ
  pub exponents : List ℕ

-- c * m
abbrev pub term : ℕ → List ℕ → Term
term c m = record { coefficient = c; exponents = m }

-- what a ring may be
pub record IsRing (ring : Ring) : Type 0 where
  pub modulus : IsModulus ring.modulus
  pub some : 1 ≤ ring.variables
  pub variables : ring.variables ≤ 9
  pub parameters : ring.parameters ≤ 8

-- the length of a monomial's list of exponents
abbrev pub places : Ring → ℕ
places ring = ring.variables + ring.parameters

-- the polynomial 1
abbrev pub one : Ring → List Term
one ring = term 1 (replicate (places ring) 0) ∷ []

abbrev pub order_of : Ring → BlockOrder
order_of ring = record { kind = ring.kind; head = ring.variables; tail = ring.parameters }

-- the ring of the variables alone
abbrev pub variables_ring : Ring → Ring
variables_ring ring = record { modulus = ring.modulus; variables = ring.variables; parameters = 0; kind = ring.kind }

-- the sum of c * w(m) over the terms c*m
abbrev pub total : (List ℕ → ℕ) → List Term → ℕ
total w [] = 0
total w (x ∷ f) = x.coefficient * w x.exponents + total w f

-- 1 at m, and 0 at any other monomial
abbrev pub indicator : List ℕ → List ℕ → ℕ
indicator m n = cond (is_eq (slice_cmp nat_cmp m n)) 1 0

-- what the terms at m add up to, modulo p
abbrev pub coefficient : ℕ → List Term → List ℕ → ℕ
coefficient p f m = total (indicator m) f % p

-- two lists of terms have the same coefficient at each monomial, so they stand for one sum
pub record SameCoefficients (p : ℕ) (f g : List Term) : Type 0 where
  pub at : (m : List ℕ) → coefficient p f m ≡ coefficient p g m

-- each monomial is of the ring
abbrev pub IsOfRing : Ring → List Term → Type 0
IsOfRing ring f = AllByRecursion (λ x. length x.exponents ≡ places ring) f

-- the first monomial of f is below m
abbrev pub StartsBelow : Ring → List ℕ → List Term → Type 0
StartsBelow ring m [] = Unit {0}
StartsBelow ring m (x ∷ f) = compared (order_of ring) x.exponents m ≡ Less

-- coefficients 1 to p-1, and monomials of the ring that strictly fall
abbrev pub IsCanonical : Ring → List Term → Type 0
IsCanonical ring [] = Unit {0}
IsCanonical ring (x ∷ f) =
    (0 < x.coefficient) × (x.coefficient < ring.modulus) × (length x.exponents ≡ places ring) × StartsBelow ring x.exponents f × IsCanonical ring f

-- the greatest degree of a monomial in a program's polynomial
abbrev pub greatest_degree : ℕ
greatest_degree = 32767

-- each monomial has a degree of at most that
abbrev pub HasLowDegrees : List Term → Type 0
HasLowDegrees f = AllByRecursion (λ x. degree x.exponents ≤ greatest_degree) f

-- a term that a sum in the ring may have
pub record IsTerm (ring : Ring) (x : Term) : Type 0 where
  pub below : x.coefficient < ring.modulus
  pub places : length x.exponents ≡ places ring
  pub low : degree x.exponents ≤ greatest_degree

-- a polynomial of the ring, as a program keeps it
pub record IsPoly (ring : Ring) (f : List Term) : Type 0 where
  pub canonical : IsCanonical ring f
  pub low : HasLowDegrees f

-- each of them is a polynomial of the ring
abbrev pub ArePolys : Ring → List (List Term) → Type 0
ArePolys ring G = AllByRecursion (IsPoly ring) G

-- the term c*m before f, unless c is 0 modulo p
abbrev pub kept : Ring → ℕ → List ℕ → List Term → List Term
kept ring c m f = cond (c % ring.modulus == 0) f (term (c % ring.modulus) m ∷ f)

-- the canonical list f with the term c*m added
abbrev pub inserted : Ring → ℕ → List ℕ → List Term → List Term
inserted ring c m [] = kept ring c m []
inserted ring c m (y ∷ f) =
    elim (compared (order_of ring) m y.exponents)
    [ Less ↦ y ∷ inserted ring c m f | Equal ↦ kept ring (c + y.coefficient) m f | Greater ↦ kept ring c m (y ∷ f) ]

-- the canonical list of the sum of the terms
abbrev pub canonical : Ring → List Term → List Term
canonical ring [] = []
canonical ring (x ∷ f) = inserted ring x.coefficient x.exponents (canonical ring f)
