-- What is left of a polynomial f in a division: a sum, and terms of f itself.
use Rattle.std.specs.Prelude.{ℕ, ◌≡◌, ◌≤◌, List, [], ◌∷◌, ◌++◌, length, drop}
use Rattle.std.specs.declared.cmp.Ordering.{Ordering}
use Rattle.std.specs.declared.cmp.Ordering.TheVariants.{Greater}
use Rattle.cgs_order.specs.TermOrder.{compared}
use Rattle.cgs_poly.specs.Ring.{Ring}
use Rattle.cgs_poly.specs.Polynomial.{Term, IsPoly, order_of, canonical}
use Rattle.cgs_divide.specs.declared.rest.Rest.{Rest}

-- its terms: those of the sum and those of f from a place on, put together
abbrev pub left : Ring → Rest → List Term → List Term
left ring rest f = canonical ring (rest.sum.terms ++ drop rest.from f)

-- how m compares to the first monomial; it is greater where there is none
abbrev pub against : Ring → List ℕ → List Term → Ordering
against ring m [] = Greater
against ring m (x ∷ f) = compared (order_of ring) m x.exponents

-- the sum is a polynomial of the ring, and the place is within f
pub record IsRest (ring : Ring) (f : List Term) (rest : Rest) : Type 0 where
  pub same : rest.sum.ring ≡ ring
  pub sum : IsPoly ring rest.sum.terms
  pub from : rest.from ≤ length f
