-- S-polynomials and their lcm representations (Cox, Little, O'Shea, chapter 2, sections 6 and 9; Becker, Weispfenning, section 5.3).
use Rattle.std.specs.Prelude.{ℕ, ◌≡◌, ◌-◌, List, [], ◌∷◌, ◌++◌, slice_index_or}
use Rattle.std.specs.declared.cmp.Ordering.TheVariants.{Less}
use Rattle.cgs_exps.specs.Monomial.{product, quotient, lcm}
use Rattle.cgs_order.specs.TermOrder.{compared}
use Rattle.cgs_poly.specs.Ring.{Ring}
use Rattle.cgs_poly.specs.Polynomial.{Term, order_of, SameCoefficients}
use Rattle.cgs_poly.specs.Product.{multiple, leading_monomial}
use Rattle.cgs_algebra.specs.Combination.{Summand, combined, IsCombination}
use Rattle.cgs_algebra.specs.Groebner.{leading_monomial_at}

-- the least common multiple of the leads of a pair
abbrev pub pair_lcm : List Term → List Term → List ℕ
pair_lcm f g = lcm (leading_monomial f) (leading_monomial g)

-- the terms of t*f - s*g
abbrev pub difference : Ring → List ℕ → List Term → List ℕ → List Term → List Term
difference ring t f s g = multiple 1 t f ++ multiple (ring.modulus - 1) s g

-- the terms of the S-polynomial of two monic polynomials
abbrev pub s_terms : Ring → List Term → List Term → List Term
s_terms ring f g = difference ring (quotient (pair_lcm f g) (leading_monomial f)) f (quotient (pair_lcm f g) (leading_monomial g)) g

-- the multiples that a combination sums have their leads below m
abbrev pub LeadsBelow : Ring → List (List Term) → List ℕ → List Summand → Type 0
LeadsBelow ring G m [] = Unit {0}
LeadsBelow ring G m (k ∷ ks) = (compared (order_of ring) (product k.monomial (leading_monomial_at G k.place)) m ≡ Less) × LeadsBelow ring G m ks

-- the S-polynomial of a pair is a combination of G whose multiples have their leads below the pair's lcm
pub record HasLcmRepresentation (ring : Ring) (G : List (List Term)) (i j : ℕ) : Type 0 where
  pub summands : List Summand
  pub combination : IsCombination ring G summands
  pub below : LeadsBelow ring G (pair_lcm (slice_index_or G i []) (slice_index_or G j [])) summands
  pub sum : SameCoefficients ring.modulus (s_terms ring (slice_index_or G i []) (slice_index_or G j [])) (combined G summands)
