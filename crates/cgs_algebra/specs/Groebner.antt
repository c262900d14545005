-- Gröbner bases, minimal and reduced ones (Cox, Little, O'Shea, chapter 2, sections 5 and 7; Becker, Weispfenning, section 5.2).
use Rattle.std.specs.Prelude.{ℕ, ◌≡◌, List, [], ◌∷◌, slice_index_or, Any, AllPairs, IsTrue}
use Rattle.std.specs.List.{AllByRecursion}
use Rattle.std.specs.declared.cmp.Ordering.TheVariants.{Less}
use Rattle.cgs_exps.specs.Monomial.{divides}
use Rattle.cgs_order.specs.TermOrder.{compared}
use Rattle.cgs_poly.specs.Ring.{Ring}
use Rattle.cgs_poly.specs.Polynomial.{Term, order_of, IsCanonical}
use Rattle.cgs_poly.specs.Product.{leading_monomial, leading_coefficient}
use Rattle.cgs_algebra.specs.Combination.{IsMember}

-- the lead of the polynomial at a place of a list
abbrev pub leading_monomial_at : List (List Term) → ℕ → List ℕ
leading_monomial_at G i = leading_monomial (slice_index_or G i [])

-- the lead of a member of G divides m
abbrev pub SomeLeadDivides : List (List Term) → List ℕ → Type 0
SomeLeadDivides G m = Any (λ g. IsTrue (divides (leading_monomial g) m)) G

-- G is a Gröbner basis of the ideal of F: polynomials of that ideal, none of them 0, such that each lead in the ideal is divided by one of theirs
pub record IsGroebnerBasis (ring : Ring) (G F : List (List Term)) : Type 0 where
  pub canonical : AllByRecursion (IsCanonical ring) G
  pub members : AllByRecursion (IsMember ring F) G
  pub not_zero : AllByRecursion (λ g. ¬ (g ≡ [])) G
  pub leads : (f : List Term) → IsCanonical ring f → IsMember ring F f → ¬ (f ≡ []) → SomeLeadDivides G (leading_monomial f)

-- polynomials of the ring with the leading coefficient 1
pub record AreMonic (ring : Ring) (G : List (List Term)) : Type 0 where
  pub canonical : AllByRecursion (IsCanonical ring) G
  pub monic : AllByRecursion (λ g. leading_coefficient g ≡ 1) G

-- neither lead divides the other
abbrev pub HaveLeadsApart : List Term → List Term → Type 0
HaveLeadsApart f g = ¬ IsTrue (divides (leading_monomial f) (leading_monomial g)) × ¬ IsTrue (divides (leading_monomial g) (leading_monomial f))

-- one where no lead divides another
pub record IsMinimal (ring : Ring) (G F : List (List Term)) : Type 0 where
  pub groebner : IsGroebnerBasis ring G F
  pub apart : AllPairs HaveLeadsApart G

-- m divides no monomial of f
abbrev pub DividesNone : List ℕ → List Term → Type 0
DividesNone m [] = Unit {0}
DividesNone m (x ∷ f) = ¬ IsTrue (divides m x.exponents) × DividesNone m f

-- the lead of neither divides a monomial of the other
abbrev pub AreReducedByEachOther : List Term → List Term → Type 0
AreReducedByEachOther f g = DividesNone (leading_monomial f) g × DividesNone (leading_monomial g) f

-- a minimal one of monic members, where no lead divides a monomial of another member
pub record IsReduced (ring : Ring) (G F : List (List Term)) : Type 0 where
  pub minimal : IsMinimal ring G F
  pub monic : AreMonic ring G
  pub reduced : AllPairs AreReducedByEachOther G

-- the leads strictly ascend
abbrev pub IsAscending : Ring → List (List Term) → Type 0
IsAscending ring [] = Unit {0}
IsAscending ring (f ∷ []) = Unit {0}
IsAscending ring (f ∷ g ∷ G) = (compared (order_of ring) (leading_monomial f) (leading_monomial g) ≡ Less) × IsAscending ring (g ∷ G)
