-- The laws of ideals and Gröbner bases, as facts.
use Rattle.std.specs.Prelude.{ℕ, ◌≡◌, ◌<◌, ◌↔◌, ◌⊎◌, List, [], ◌∷◌, ◌++◌, length, slice_index_or, Contains, IsTrue}
use Rattle.std.specs.List.{AllByRecursion}
use Rattle.cgs_exps.specs.Monomial.{divides, coprime}
use Rattle.cgs_poly.specs.Ring.{Ring}
use Rattle.cgs_poly.specs.Polynomial.{Term, places, IsOfRing, StartsBelow, IsCanonical, canonical, one}
use Rattle.cgs_poly.specs.Product.{multiple, all_products, leading_coefficient}
use Rattle.cgs_algebra.specs.Combination.{IsMember, SameIdeal}
use Rattle.cgs_algebra.specs.Groebner.{AreMonic, IsGroebnerBasis, IsMinimal, IsReduced, IsAscending, leading_monomial_at}
use Rattle.cgs_algebra.specs.SPolynomial.{HasLcmRepresentation, pair_lcm, s_terms}

-- a sum of members is a member
abbrev pub SumIsMember : Type 0
SumIsMember = (ring : Ring) (F : List (List Term)) (f g : List Term) → 0 < ring.modulus → IsMember ring F f → IsMember ring F g → IsMember ring F (f ++ g)

-- a term times a member is a member
abbrev pub MultipleIsMember : Type 0
MultipleIsMember =
    (ring : Ring) (F : List (List Term)) (c : ℕ) (t : List ℕ) (f : List Term) → 0 < ring.modulus → length t ≡ places ring → IsMember ring F f
    → IsMember ring F (multiple c t f)

-- a polynomial times a member is a member, and so is a member times a polynomial
abbrev pub ProductIsMember : Type 0
ProductIsMember =
    (ring : Ring) (F : List (List Term)) (f g : List Term) → 0 < ring.modulus → IsOfRing ring f → IsMember ring F g
    → IsMember ring F (all_products f g) × IsMember ring F (all_products g f)

-- each generator is a member
abbrev pub GeneratorIsMember : Type 0
GeneratorIsMember =
    (ring : Ring) (F : List (List Term)) (f : List Term) → 0 < ring.modulus → Contains F f → IsOfRing ring f → IsMember ring F f

-- where each generator of one ideal is a member of another, so is each member
abbrev pub IdealOfMembers : Type 0
IdealOfMembers =
    (ring : Ring) (F G : List (List Term)) (f : List Term) → 0 < ring.modulus → AllByRecursion (IsMember ring G) F → IsMember ring F f → IsMember ring G f

-- a member stays one where a list is appended to the generators
abbrev pub MoreGeneratorsKeepMembers : Type 0
MoreGeneratorsKeepMembers = (ring : Ring) (F H : List (List Term)) (f : List Term) → IsMember ring F f → IsMember ring (F ++ H) f

-- the pair of two members keeps its lcm representation where a list is appended to the members
abbrev pub MoreMembersKeepRepresentations : Type 0
MoreMembersKeepRepresentations =
    (ring : Ring) (G H : List (List Term)) (i j : ℕ) → i < length G → j < length G → HasLcmRepresentation ring G i j → HasLcmRepresentation ring (G ++ H) i j

-- the S-polynomial of two monic polynomials starts below the lcm of their leads
abbrev pub SPolynomialStartsBelow : Type 0
SPolynomialStartsBelow =
    (ring : Ring) (f g : List Term) → 0 < ring.modulus → IsCanonical ring f → IsCanonical ring g → leading_coefficient f ≡ 1 → leading_coefficient g ≡ 1
    → StartsBelow ring (pair_lcm f g) (canonical ring (s_terms ring f g))

-- Buchberger's criterion, for monic lists
abbrev pub BuchbergersCriterion : Type 0
BuchbergersCriterion =
    (ring : Ring) (G : List (List Term)) → 0 < ring.modulus → AreMonic ring G
    → ((i j : ℕ) → i < j → j < length G → HasLcmRepresentation ring G i j) → IsGroebnerBasis ring G G

-- a monic list that generates the ideal of F, and meets the criterion, is a Gröbner basis of that ideal
abbrev pub CompleteIsGroebner : Type 0
CompleteIsGroebner =
    (ring : Ring) (G F : List (List Term)) → 0 < ring.modulus → AreMonic ring G
    → AllByRecursion (IsMember ring F) G → AllByRecursion (IsMember ring G) F
    → ((i j : ℕ) → i < j → j < length G → HasLcmRepresentation ring G i j) → IsGroebnerBasis ring G F

-- an ideal has at most one reduced Gröbner basis with ascending leads
abbrev pub ReducedIsUnique : Type 0
ReducedIsUnique =
    (ring : Ring) (F G H : List (List Term)) → 0 < ring.modulus → IsReduced ring G F → IsReduced ring H F → IsAscending ring G → IsAscending ring H → G ≡ H

-- lists that generate one ideal have the same Gröbner bases, the same minimal and the same reduced ones
abbrev pub SameIdealSharesBases : Type 0
SameIdealSharesBases =
    (ring : Ring) (F H G : List (List Term)) → SameIdeal ring F H
    → (IsGroebnerBasis ring G F ↔ IsGroebnerBasis ring G H) × (IsMinimal ring G F ↔ IsMinimal ring G H) × (IsReduced ring G F ↔ IsReduced ring G H)

-- 1 is in an ideal exactly where a reduced Gröbner basis of it is the list of 1 alone
abbrev pub OneIsMember : Type 0
OneIsMember = (ring : Ring) (F G : List (List Term)) → 1 < ring.modulus → IsReduced ring G F → IsMember ring F (one ring) ↔ (G ≡ one ring ∷ [])

-- 1 is in an ideal exactly where the list of 1 alone is a reduced Gröbner basis of it
abbrev pub OneIsReduced : Type 0
OneIsReduced = (ring : Ring) (F : List (List Term)) → 1 < ring.modulus → IsMember ring F (one ring) ↔ IsReduced ring (one ring ∷ []) F

-- the pair of two members of a monic list whose leads are coprime
abbrev pub CoprimeCriterion : Type 0
CoprimeCriterion =
    (ring : Ring) (G : List (List Term)) (i j : ℕ) → 0 < ring.modulus → AreMonic ring G → i < length G → j < length G
    → IsTrue (coprime (leading_monomial_at G i) (leading_monomial_at G j)) → HasLcmRepresentation ring G i j

-- the pair of two members of a monic list where the lead of a third divides the lcm
abbrev pub ChainCriterion : Type 0
ChainCriterion =
    (ring : Ring) (G : List (List Term)) (i j k : ℕ) → 0 < ring.modulus → AreMonic ring G → i < length G → j < length G → k < length G
    → IsTrue (divides (leading_monomial_at G k) (pair_lcm (slice_index_or G i []) (slice_index_or G j [])))
    → (HasLcmRepresentation ring G i k ⊎ HasLcmRepresentation ring G k i)
    → (HasLcmRepresentation ring G k j ⊎ HasLcmRepresentation ring G j k) → HasLcmRepresentation ring G i j
