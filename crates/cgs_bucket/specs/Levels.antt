-- The levels of a sum.
use Rattle.std.specs.Prelude.{ℕ, ◌≡◌, ◌<◌, ◌≤◌, List, [], ◌∷◌, ◌++◌, length, slice_index_or}
use Rattle.cgs_field.specs.Prime.{IsModulus}
use Rattle.cgs_order.specs.declared.block.BlockOrder.{BlockOrder}
use Rattle.cgs_terms.specs.declared.ring.Ring.{Ring}
use Rattle.cgs_terms.specs.Polynomial.{Term, StartsBelow, ArePolys, places, canonical}
use Rattle.cgs_terms.specs.Product.{leading_monomial}
use Rattle.cgs_bucket.specs.declared.front.Front.{Front}
use Rattle.cgs_bucket.specs.declared.front.Front.TheVariants.{Nothing, One, Two}

-- polynomials modulo p under an order
abbrev pub ring_of : ℕ → BlockOrder → Ring
ring_of p order = record { modulus = p; variables = order.head; parameters = order.tail; kind = order.kind }

-- a sum: what it is taken in, and its canonical list of terms
pub record Contents : Type 0 where
  pub ring : Ring
  pub terms : List Term

-- the terms of all levels
abbrev pub all_terms : List (List Term) → List Term
all_terms [] = []
all_terms (f ∷ levels) = f ++ all_terms levels

-- the level at a place has a term, and all others start below it
pub record IsFront (ring : Ring) (levels : List (List Term)) (k : ℕ) : Type 0 where
  pub within : k < length levels
  pub some : 0 < length (slice_index_or levels k [])
  pub others : (i : ℕ) → i < length levels → ¬ (i ≡ k) → StartsBelow ring (leading_monomial (slice_index_or levels k [])) (slice_index_or levels i [])

-- two levels start with one monomial
pub record IsTie (levels : List (List Term)) (a b : ℕ) : Type 0 where
  pub rising : a < b
  pub within : b < length levels
  pub first : 0 < length (slice_index_or levels a [])
  pub second : 0 < length (slice_index_or levels b [])
  pub same : leading_monomial (slice_index_or levels a []) ≡ leading_monomial (slice_index_or levels b [])

-- what is found at the front of the levels
abbrev pub IsFound : Ring → List (List Term) → Front → Type 0
IsFound ring levels Nothing = (i : ℕ) → i < length levels → slice_index_or levels i [] ≡ []
IsFound ring levels (One k) = IsFront ring levels k
IsFound ring levels (Two a b) = IsTie levels a b

-- the levels after a change come to the same sum
pub record SameSum (ring : Ring) (first second : List (List Term)) : Type 0 where
  pub polys : ArePolys ring second
  pub sum : canonical ring (all_terms second) ≡ canonical ring (all_terms first)

-- what a sum's levels are
pub record IsBucket (ring : Ring) (levels : List (List Term)) : Type 0 where
  pub few : places ring ≤ 17
  pub modulus : IsModulus ring.modulus
  pub polys : ArePolys ring levels

-- the levels after a list of terms was added to their sum
pub record IsAdded (ring : Ring) (first : List (List Term)) (f : List Term) (second : List (List Term)) : Type 0 where
  pub polys : ArePolys ring second
  pub sum : canonical ring (all_terms second) ≡ canonical ring (canonical ring (all_terms first) ++ f)
