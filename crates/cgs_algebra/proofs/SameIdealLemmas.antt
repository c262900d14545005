-- Lists that generate one ideal, and what they share.
use Rattle.std.proofs.Common.{List, ◌↔◌}
use Rattle.cgs_poly.specs.Ring.{Ring}
use Rattle.cgs_poly.specs.Polynomial.{Term}
use Rattle.cgs_algebra.specs.Groebner.{IsGroebnerBasis, IsMinimal, IsReduced}
use Rattle.cgs_algebra.specs.Combination.{IsMember, SameIdeal}
use Rattle.cgs_list.proofs.ListLemmas.{all_weaker}

pub same_ideal_back : (ring : Ring) (F G : List (List Term)) → SameIdeal ring F G → SameIdeal ring G F
same_ideal_back ring F G s = record { first = s.second; second = s.first }

pub same_ideal_trans : (ring : Ring) (F G H : List (List Term)) → SameIdeal ring F G → SameIdeal ring G H → SameIdeal ring F H
same_ideal_trans ring F G H s t = record { first = λ f m. t.first f (s.first f m); second = λ f m. s.second f (t.second f m) }

module _ (ring : Ring) (F H G : List (List Term)) (same : SameIdeal ring F H) where
  groebner_of_same : IsGroebnerBasis ring G F → IsGroebnerBasis ring G H
  groebner_of_same h = record {
    canonical = h.canonical;
    members = all_weaker (IsMember ring F) (IsMember ring H) G h.members same.first;
    not_zero = h.not_zero;
    leads = λ f k m some. h.leads f k (same.second f m) some;
  }

  pub minimal_of_same : IsMinimal ring G F → IsMinimal ring G H
  minimal_of_same h = record { groebner = groebner_of_same h.groebner; apart = h.apart }

  reduced_of_same : IsReduced ring G F → IsReduced ring G H
  reduced_of_same h = record { minimal = minimal_of_same h.minimal; monic = h.monic; reduced = h.reduced }

pub same_ideal_bases : (ring : Ring) (F H G : List (List Term)) → SameIdeal ring F H
    → (IsGroebnerBasis ring G F ↔ IsGroebnerBasis ring G H) × (IsMinimal ring G F ↔ IsMinimal ring G H) × (IsReduced ring G F ↔ IsReduced ring G H)
same_ideal_bases ring F H G s =
    let t : SameIdeal ring H F = same_ideal_back ring F H s in (
      (groebner_of_same ring F H G s, groebner_of_same ring H F G t),
      (minimal_of_same ring F H G s, minimal_of_same ring H F G t),
      (reduced_of_same ring F H G s, reduced_of_same ring H F G t),
    )
