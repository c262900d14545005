-- Pairs that were taken have lcm representations, also by longer lists.
use Rattle.std.proofs.Common.{ℕ, ◌≡◌, ◌<◌, ◌⊎◌, inl, inr, true, List, ◌++◌, length, subst, arith}
use Rattle.std.proofs.lemmas.List.{length-append}
use Rattle.cgs_poly.specs.Ring.{Ring}
use Rattle.cgs_poly.specs.Polynomial.{Term}
use Rattle.cgs_algebra.specs.SPolynomial.{HasLcmRepresentation}
use Rattle.cgs_algebra.proofs.GrowthLemmas.{representation_more}
use Rattle.cgs_pairs.specs.declared.pair.Pair.{Pair}
use Rattle.cgs_pairs.specs.Passed.{has_pair, AreRepresented}
use Rattle.cgs_pairs.proofs.PassedLemmas.{noted_from}
use Rattle.cgs_basis.specs.BasisRun.{with_taken}

pub still_within : (G H : List (List Term)) (i : ℕ) → i < length G → i < length (G ++ H)
still_within G H i l = omega (arith, length-append G H)

pub represented_more : (ring : Ring) (G H : List (List Term)) (taken : List (ℕ × ℕ)) → AreRepresented ring G taken → AreRepresented ring (G ++ H) taken
represented_more ring G H taken h = record {
  at = λ larger smaller e.
      let k = h.at larger smaller e in
      (still_within G H smaller k.0, still_within G H larger k.1, representation_more ring G H smaller larger k.0 k.1 k.2);
}

-- with a pair that is taken
pub represented_with : (ring : Ring) (G : List (List Term)) (taken : List (ℕ × ℕ)) (q : Pair) → AreRepresented ring G taken
    → q.smaller < length G → q.larger < length G → HasLcmRepresentation ring G q.smaller q.larger → AreRepresented ring G (with_taken taken q)
represented_with ring G taken q h ls ll r =
    record { at = λ larger smaller e. by_case larger smaller (noted_from larger smaller taken (q.larger, q.smaller) e) }
  where
    by_case : (larger smaller : ℕ) → (has_pair larger smaller taken ≡ true) ⊎ ((q.larger ≡ larger) × (q.smaller ≡ smaller))
        → (smaller < length G) × (larger < length G) × HasLcmRepresentation ring G smaller larger
    by_case larger smaller (inl e) = h.at larger smaller e
    by_case larger smaller (inr e) = (
      subst (λ n. n < length G) e.1 ls,
      subst (λ n. n < length G) e.0 ll,
      subst (λ n. HasLcmRepresentation ring G n larger) e.1 (subst (λ n. HasLcmRepresentation ring G q.smaller n) e.0 r),
    )
