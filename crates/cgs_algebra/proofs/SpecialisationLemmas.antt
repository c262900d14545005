-- What sums, multiples, products and members of ideals become at a point of the parameters.
use Rattle.std.proofs.Common.{ℕ, ◌<◌, List, [], ◌++◌, sym, ◌∙◌, subst, arith}
use Rattle.std.proofs.lemmas.List.{append-nil}
use Rattle.std.specs.List.{AllByRecursion}
use Rattle.cgs_poly.specs.Ring.{Ring}
use Rattle.cgs_poly.specs.Polynomial.{Term, IsOfRing, IsCanonical, canonical}
use Rattle.cgs_poly.specs.Parameters.{variables_ring, specialised}
use Rattle.cgs_poly.proofs.SumLemmas.{Alike, coefficients_from_alike}
use Rattle.cgs_poly.proofs.CanonicalLemmas.{canonical_of_ring, canonical_alike, is_canonical}
use Rattle.cgs_poly.proofs.SpecialisedLemmas.{at_point}
use Rattle.cgs_algebra.specs.Combination.{IsMember}
use Rattle.cgs_algebra.specs.Specialisation.{specialised_list, HasLift}
use Rattle.cgs_algebra.proofs.PlaceLemmas.{of_ring_at}
use Rattle.cgs_algebra.proofs.MemberLemmas.{same_member}
use Rattle.cgs_algebra.proofs.PointLemmas.{total_specialised}
use Rattle.cgs_algebra.proofs.SpecialisedIdealLemmas.{specialised_member, lifted_member}

module _ (ring : Ring) (a : List ℕ) (pos : 0 < ring.modulus) where
  module _ (F : List (List Term)) (ok : AllByRecursion (IsCanonical ring) F) where
    -- a member of an ideal becomes a member
    pub member_specialises : (f : List Term) → IsOfRing ring f → IsMember ring F f
        → IsMember (variables_ring ring) (specialised_list ring a F) (specialised ring a f)
    member_specialises f h m =
        specialised_member ring a pos F [] (of_ring_at ring F ok) (λ i l. absurd (omega arith)) (λ i l. absurd (omega arith)) f h
        (subst (λ G. IsMember ring G f) (sym (append-nil F)) m)

    -- and each member of what the ideal becomes comes from one
    pub member_lifts : (g : List Term) → IsMember (variables_ring ring) (specialised_list ring a F) g → HasLift ring a F g
    member_lifts g m =
        let l = lifted_member ring a pos F [] (of_ring_at ring F ok) (λ i l. absurd (omega arith)) (λ i l. absurd (omega arith)) g m in
        let c : Alike ring.modulus (canonical ring l.0) l.0 = canonical_alike ring l.0 pos l.1 in
        let can : IsCanonical ring (canonical ring l.0) = is_canonical ring l.0 pos l.1 in
        record {
          lift = canonical ring l.0;
          canonical = can;
          member = subst (λ G. IsMember ring G (canonical ring l.0)) (append-nil F) (same_member ring (F ++ []) pos c l.2);
          same = coefficients_from_alike
              (record {
                under = λ w. total_specialised ring a w (canonical ring l.0) pos (canonical_of_ring ring (canonical ring l.0) can)
                    ∙ (c.under (at_point ring a w) ∙ l.3 w);
              });
        }
