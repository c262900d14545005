-- When a list is a Gröbner basis of an ideal.
use Rattle.std.proofs.Common.{ℕ, ◌≡◌, ◌<◌, List, [], length}
use Rattle.std.specs.List.{AllByRecursion}
use Rattle.cgs_list.proofs.ListLemmas.{all_weaker}
use Rattle.cgs_poly.specs.Ring.{Ring}
use Rattle.cgs_poly.specs.Polynomial.{Term, IsOfRing, IsCanonical}
use Rattle.cgs_poly.specs.Product.{leading_coefficient}
use Rattle.cgs_poly.proofs.CanonicalLemmas.{canonical_of_ring}
use Rattle.cgs_poly.proofs.MultipleLemmas.{monic_not_empty}
use Rattle.cgs_algebra.specs.Combination.{IsMember}
use Rattle.cgs_algebra.specs.Groebner.{AreMonic, IsGroebnerBasis}
use Rattle.cgs_algebra.specs.SPolynomial.{HasLcmRepresentation}
use Rattle.cgs_algebra.proofs.MemberLemmas.{generators_inside, member_of_members}
use Rattle.cgs_algebra.proofs.BuchbergerLemmas.{buchberger}

-- a list that generates the ideal of F, and whose pairs have lcm representations
pub complete_groebner : (ring : Ring) (G F : List (List Term)) → 0 < ring.modulus → AreMonic ring G
    → AllByRecursion (IsMember ring F) G → AllByRecursion (IsMember ring G) F
    → ((i j : ℕ) → i < j → j < length G → HasLcmRepresentation ring G i j) → IsGroebnerBasis ring G F
complete_groebner ring G F pos ok g_inside f_inside pairs = record {
  canonical = ok.canonical;
  members = g_inside;
  not_zero = all_weaker (λ g. leading_coefficient g ≡ 1) (λ g. ¬ (g ≡ [])) G ok.monic monic_not_empty;
  leads = λ f k member some. buchberger ring G pos ok pairs f k (member_of_members ring F G pos f_inside f member) some;
}

-- each member of a monic list is in its ideal
pub monic_inside : (ring : Ring) (G : List (List Term)) → 0 < ring.modulus → AreMonic ring G → AllByRecursion (IsMember ring G) G
monic_inside ring G pos ok = generators_inside ring G pos (all_weaker (IsCanonical ring) (IsOfRing ring) G ok.canonical (canonical_of_ring ring))

pub criterion : (ring : Ring) (G : List (List Term)) → 0 < ring.modulus → AreMonic ring G → ((i j : ℕ) → i < j → j < length G → HasLcmRepresentation ring G i j)
    → IsGroebnerBasis ring G G
criterion ring G pos ok pairs = complete_groebner ring G G pos ok (monic_inside ring G pos ok) (monic_inside ring G pos ok) pairs
