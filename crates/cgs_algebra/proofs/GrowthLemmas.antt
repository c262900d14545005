-- What stays when a list of polynomials gets further members: combinations, members of its ideal and lcm representations.
use Rattle.std.proofs.Common.{ℕ, ◌≡◌, ◌<◌, List, [], ◌∷◌, ◌++◌, length, get_or, refl, sym, ap, subst, arith}
use Rattle.std.proofs.Math.Seq.{get_or-append_seam}
use Rattle.std.proofs.lemmas.List.{length-append, get_or_append_left}
use Rattle.std.specs.List.{AllByRecursion}
use Rattle.std.specs.declared.cmp.Ordering.TheVariants.{Less}
use Rattle.cgs_list.proofs.ListLemmas.{all_push}
use Rattle.cgs_exps.specs.Monomial.{product}
use Rattle.cgs_order.specs.TermOrder.{compared}
use Rattle.cgs_poly.specs.Ring.{Ring}
use Rattle.cgs_poly.specs.Polynomial.{Term, order_of, SameCoefficients, IsOfRing}
use Rattle.cgs_poly.specs.Product.{multiple, leading_monomial}
use Rattle.cgs_algebra.specs.Combination.{Summand, combined, IsCombination, IsMember}
use Rattle.cgs_algebra.specs.SPolynomial.{pair_lcm, LeadsBelow, HasLcmRepresentation}
use Rattle.cgs_algebra.proofs.MemberLemmas.{generator_member, member_of_members}

module _ (ring : Ring) (G H : List (List Term)) where
  still_within : (i : ℕ) → i < length G → i < length (G ++ H)
  still_within i l = omega (arith, length-append G H)

  pub combined_more : (ks : List Summand) → IsCombination ring G ks → combined (G ++ H) ks ≡ combined G ks
  combined_more [] h = refl
  combined_more (k ∷ ks) h =
      rw (get_or_append_left G H [] k.place h.1) (ap (λ f. multiple k.coefficient k.monomial (get_or G k.place []) ++ f) (combined_more ks h.2))

  pub combination_more : (ks : List Summand) → IsCombination ring G ks → IsCombination ring (G ++ H) ks
  combination_more [] h = tt
  combination_more (k ∷ ks) h = (h.0, still_within k.place h.1, combination_more ks h.2)

  pub leads_more : (m : List ℕ) (ks : List Summand) → IsCombination ring G ks → LeadsBelow ring G m ks → LeadsBelow ring (G ++ H) m ks
  leads_more m [] h b = tt
  leads_more m (k ∷ ks) h b = (
    subst (λ g. compared (order_of ring) (product k.monomial (leading_monomial g)) m ≡ Less) (sym (get_or_append_left G H [] k.place h.1)) b.0,
    leads_more m ks h.2 b.1,
  )

  pub member_more : (f : List Term) → IsMember ring G f → IsMember ring (G ++ H) f
  member_more f h = record {
    summands = h.summands;
    combination = combination_more h.summands h.combination;
    sum = subst (λ g. SameCoefficients ring.modulus f g) (sym (combined_more h.summands h.combination)) h.sum;
  }

  pub representation_more : (i j : ℕ) → i < length G → j < length G → HasLcmRepresentation ring G i j → HasLcmRepresentation ring (G ++ H) i j
  representation_more i j hi hj h =
      let a : get_or (G ++ H) i [] ≡ get_or G i [] = get_or_append_left G H [] i hi in
      let b : get_or (G ++ H) j [] ≡ get_or G j [] = get_or_append_left G H [] j hj in
      record {
        summands = h.summands;
        combination = combination_more h.summands h.combination;
        below = rw (a, b) (leads_more (pair_lcm (get_or G i []) (get_or G j [])) h.summands h.combination h.below);
        sum = rw (a, b, combined_more h.summands h.combination) h.sum;
      }

-- one polynomial more

module _ (ring : Ring) (F : List (List Term)) (h : List Term) (pos : 0 < ring.modulus) where
  pub last_member : IsOfRing ring h → IsMember ring (F ++ h ∷ []) h
  last_member hk =
      let e : get_or (F ++ h ∷ []) (length F) [] ≡ h = get_or-append_seam F h [] [] in
      let g = generator_member ring (F ++ h ∷ []) pos (length F) (omega (arith, length-append F (h ∷ []))) (subst (λ g. IsOfRing ring g) (sym e) hk) in
      subst (λ g. IsMember ring (F ++ h ∷ []) g) e g

  -- where all of F and h are members, all of both are
  pub members_of_more : (K : List (List Term)) → AllByRecursion (IsMember ring K) F → IsMember ring K h
      → (f : List Term) → IsMember ring (F ++ h ∷ []) f → IsMember ring K f
  members_of_more K inside last f m = member_of_members ring (F ++ h ∷ []) K pos (all_push (IsMember ring K) F h inside last) f m
