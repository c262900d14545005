-- A polynomial that is not 0 is a minimal Gröbner basis of its own ideal.
use Rattle.std.proofs.Common.{◌≡◌, List, [], ◌∷◌, subst, IsTrue, arith}
use Rattle.cgs_exps.specs.Monomial.{divides}
use Rattle.cgs_poly.specs.Ring.{Ring}
use Rattle.cgs_poly.specs.Polynomial.{Term, IsRing, IsCanonical}
use Rattle.cgs_poly.specs.Product.{leading_monomial, leading_coefficient}
use Rattle.cgs_poly.specs.Monic.{monic_of}
use Rattle.cgs_poly.proofs.CanonicalLemmas.{canonical_of_ring}
use Rattle.cgs_poly.proofs.MonicLemmas.{monic_canonical, monic_lead, monic_leading, monic_back}
use Rattle.cgs_poly.proofs.RingLemmas.{ring_positive}
use Rattle.cgs_algebra.specs.Combination.{IsMember}
use Rattle.cgs_algebra.specs.Groebner.{SomeLeadDivides, IsGroebnerBasis, AreMonic, IsMinimal}
use Rattle.cgs_algebra.proofs.MemberLemmas.{scaled_member, generator_member, member_of_members}
use Rattle.cgs_algebra.proofs.GroebnerLemmas.{criterion}
use Rattle.cgs_algebra.proofs.PlaceLemmas.{lead_at_place, only_lead}

module _ (ring : Ring) (r : IsRing ring) (g : List Term) (h : IsCanonical ring g) (some : ¬ (g ≡ [])) where
  abbrev unit : List Term
  unit = monic_of ring g

  unit_monic : AreMonic ring (unit ∷ [])
  unit_monic = record {
    canonical = (monic_canonical ring r g h, tt);
    monic = (monic_leading ring r g h some, tt);
  }

  unit_groebner : IsGroebnerBasis ring (unit ∷ []) (unit ∷ [])
  unit_groebner = criterion ring (unit ∷ []) (ring_positive ring r) unit_monic (λ i j l k. absurd (omega (arith, l, k)))

  g_member : IsMember ring (unit ∷ []) g
  g_member =
      scaled_member ring (unit ∷ []) (ring_positive ring r) (leading_coefficient g) unit g (monic_back ring r g h)
      (generator_member ring (unit ∷ []) (ring_positive ring r) 0 (omega arith) (canonical_of_ring ring unit (monic_canonical ring r g h)))

  leads_at : (f : List Term) → SomeLeadDivides (unit ∷ []) (leading_monomial f) → SomeLeadDivides (g ∷ []) (leading_monomial f)
  leads_at f d =
      lead_at_place (g ∷ []) (leading_monomial f) 0 (omega arith)
      (subst (λ m. IsTrue (divides m (leading_monomial f))) (monic_lead ring r g h) (only_lead unit (leading_monomial f) d))

  single_groebner : IsGroebnerBasis ring (g ∷ []) (g ∷ [])
  single_groebner = record {
    canonical = (h, tt);
    members = (generator_member ring (g ∷ []) (ring_positive ring r) 0 (omega arith) (canonical_of_ring ring g h), tt);
    not_zero = (some, tt);
    leads = λ f k m not_nil.
        leads_at f
        (unit_groebner.leads f k
        (member_of_members ring (g ∷ []) (unit ∷ []) (ring_positive ring r) (g_member, tt) f m)
        not_nil);
  }

  pub single_minimal : IsMinimal ring (g ∷ []) (g ∷ [])
  single_minimal = record {
    groebner = single_groebner;
    apart = λ i j d l k. absurd (omega (arith, l, k));
  }
