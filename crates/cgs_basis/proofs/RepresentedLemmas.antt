-- A pair that was taken has an lcm representation by the list with the remainder of its S-polynomial.
use Rattle.std.proofs.Common.{ℕ, ◌≡◌, ◌*◌, ◌%◌, ◌<◌, List, [], ◌∷◌, ◌++◌, length, get_or, replicate, sym, ap, ◌∙◌, subst, arith}
use Rattle.std.proofs.Math.Seq.{get_or-append_seam}
use Rattle.std.proofs.lemmas.List.{length-append, length-replicate, append-nil, get_or_append_left}
use Rattle.std.specs.declared.cmp.Ordering.TheVariants.{Less}
use Rattle.cgs_exps.specs.Monomial.{product}
use Rattle.cgs_exps.proofs.MonomialLemmas.{one_product}
use Rattle.cgs_order.specs.TermOrder.{compared}
use Rattle.cgs_poly.specs.Ring.{Ring}
use Rattle.cgs_poly.specs.Polynomial.{Term, places, order_of, total, IsRing, IsOfRing, IsCanonical, StartsBelow, canonical}
use Rattle.cgs_poly.specs.Product.{multiple, leading_monomial}
use Rattle.cgs_poly.proofs.RingLemmas.{ring_positive}
use Rattle.cgs_poly.proofs.SumLemmas.{Alike, alike_same, alike_back, alike_trans, alike_append, coefficients_from_alike}
use Rattle.cgs_poly.proofs.CanonicalLemmas.{canonical_of_ring, canonical_alike, is_canonical}
use Rattle.cgs_poly.proofs.MultipleLemmas.{multiple_one}
use Rattle.cgs_poly.proofs.ProductLemmas.{total_multiple}
use Rattle.cgs_algebra.specs.Combination.{Summand, summand, combined, IsCombination}
use Rattle.cgs_algebra.specs.Groebner.{AreMonic}
use Rattle.cgs_algebra.specs.SPolynomial.{pair_lcm, s_terms, HasLcmRepresentation}
use Rattle.cgs_algebra.proofs.CombinationLemmas.{combined_append, combination_append, leads_append}
use Rattle.cgs_divide.specs.Division.{HasDivided}
use Rattle.cgs_poly.specs.Monic.{monic_of}
use Rattle.cgs_divide.proofs.QuotientCombinationLemmas.{summands_of, division_combination, division_sum, division_below}
use Rattle.cgs_divide.proofs.MonicLemmas.{monic_canonical, monic_back, monic_lead_same}
use Rattle.cgs_algebra.proofs.SPolynomialLemmas.{s_terms_of_ring, s_terms_below}
use Rattle.cgs_algebra.proofs.GrowthLemmas.{combined_more, combination_more, leads_more}
use Rattle.cgs_algebra.proofs.PlaceLemmas.{canonical_at, monic_at}

module _ (ring : Ring) (r : IsRing ring) (G : List (List Term)) (ok : AreMonic ring G) (i j : ℕ) (hi : i < length G) (hj : j < length G) where
  pos : 0 < ring.modulus
  pos = ring_positive ring r

  abbrev f : List Term
  f = get_or G i []

  abbrev g : List Term
  g = get_or G j []

  -- the S-polynomial of the members at two places
  abbrev pub pair_polynomial : List Term
  pair_polynomial = canonical ring (s_terms ring (get_or G i []) (get_or G j []))

  of_ring : IsOfRing ring (s_terms ring f g)
  of_ring = s_terms_of_ring ring pos f g (canonical_at ring G ok.canonical i hi) (canonical_at ring G ok.canonical j hj)
      (monic_at G ok.monic i hi) (monic_at G ok.monic j hj)

  pub pair_canonical : IsCanonical ring pair_polynomial
  pair_canonical = is_canonical ring (s_terms ring f g) pos of_ring

  pub pair_alike : Alike ring.modulus pair_polynomial (s_terms ring f g)
  pair_alike = canonical_alike ring (s_terms ring f g) pos of_ring

  starts : StartsBelow ring (pair_lcm f g) pair_polynomial
  starts = s_terms_below ring pos f g (canonical_at ring G ok.canonical i hi) (canonical_at ring G ok.canonical j hj)
      (monic_at G ok.monic i hi) (monic_at G ok.monic j hj)

  -- no remainder is left
  pub represented_by_division : (quotients : List (List Term)) → HasDivided ring G pair_polynomial [] quotients → HasLcmRepresentation ring G i j
  represented_by_division quotients d =
      let ks : List Summand = summands_of quotients in
      let s : Alike ring.modulus pair_polynomial (combined G ks ++ []) = division_sum ring G pair_polynomial [] quotients d pos in
      record {
        summands = ks;
        combination = division_combination ring G pair_polynomial [] quotients d;
        below = division_below ring G pair_polynomial [] quotients d (pair_lcm f g) starts;
        sum = coefficients_from_alike (alike_trans (alike_back pair_alike) (subst (λ h. Alike ring.modulus pair_polynomial h) (append-nil (combined G ks)) s));
      }

  module _ (x : Term) (remainder : List Term) (quotients : List (List Term)) (d : HasDivided ring G pair_polynomial (x ∷ remainder) quotients) where
    abbrev h : List Term
    h = monic_of ring (x ∷ remainder)

    abbrev one : List ℕ
    one = replicate {A = ℕ} (places ring) 0

    -- the remainder is its leading coefficient times the new member
    remainder_multiple : Alike ring.modulus (x ∷ remainder) (multiple x.coefficient one h)
    remainder_multiple = record {
      under = λ w.
          let k : IsOfRing ring h = canonical_of_ring ring h (monic_canonical ring r x remainder d.canonical_remainder) in
          let a : total w (multiple 1 one h) ≡ 1 * total (λ m. w (product one m)) h = total_multiple w 1 one h in
          let b : total w (multiple 1 one h) ≡ total w h = ap (total w) (multiple_one ring h k) in
          let e : total (λ m. w (product one m)) h ≡ total w h = omega arith in
          let t : total w (multiple x.coefficient one h) ≡ x.coefficient * total w h = total_multiple w x.coefficient one h ∙ ap (λ n. x.coefficient * n) e in
          monic_back ring r x remainder d.canonical_remainder w ∙ ap (λ n. n % ring.modulus) (sym t);
    }

    -- with the new member at the end
    pub represented_with_remainder : HasLcmRepresentation ring (G ++ h ∷ []) i j
    represented_with_remainder =
        let ks : List Summand = summands_of quotients in
        let c : IsCombination ring G ks = division_combination ring G pair_polynomial (x ∷ remainder) quotients d in
        let last : Summand = summand x.coefficient one (length G) in
        let at : get_or (G ++ h ∷ []) (length G) [] ≡ h = get_or-append_seam G h [] [] in
        let a : get_or (G ++ h ∷ []) i [] ≡ get_or G i [] = get_or_append_left G (h ∷ []) [] i hi in
        let b : get_or (G ++ h ∷ []) j [] ≡ get_or G j [] = get_or_append_left G (h ∷ []) [] j hj in
        let within : length G < length (G ++ h ∷ []) = omega (arith, length-append G (h ∷ [])) in
        let long : length one ≡ places ring = length-replicate {A = ℕ} (places ring) 0 in
        let low : compared (order_of ring) (product one (leading_monomial h)) (pair_lcm f g) ≡ Less =
        subst (λ m. compared (order_of ring) (product one m) (pair_lcm f g) ≡ Less) (sym (monic_lead_same ring r x remainder d.canonical_remainder))
        (subst (λ m. compared (order_of ring) m (pair_lcm f g) ≡ Less)
        (sym (one_product (places ring) x.exponents d.canonical_remainder.2)) (d.below (pair_lcm f g) starts).1) in
        record {
          summands = ks ++ last ∷ [];
          combination = combination_append ring (G ++ h ∷ []) ks (last ∷ []) (combination_more ring G (h ∷ []) ks c) (long, within, tt);
          below = rw (a, b) (leads_append ring (G ++ h ∷ []) (pair_lcm f g) ks (last ∷ [])
              (leads_more ring G (h ∷ []) (pair_lcm f g) ks c (division_below ring G pair_polynomial (x ∷ remainder) quotients d (pair_lcm f g) starts))
              (subst (λ q. compared (order_of ring) (product one (leading_monomial q)) (pair_lcm f g) ≡ Less) (sym at) low, tt));
          sum = rw (a, b)
              (coefficients_from_alike (alike_trans (alike_back pair_alike) (alike_trans (division_sum ring G pair_polynomial (x ∷ remainder) quotients d pos)
              (rw (combined_append (G ++ h ∷ []) ks (last ∷ []), combined_more ring G (h ∷ []) ks c, at, append-nil (multiple x.coefficient one h))
              (alike_append (alike_same ring.modulus (combined G ks)) remainder_multiple)))));
        }
