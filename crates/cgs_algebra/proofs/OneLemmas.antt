-- The polynomial 1, and the ideals that have it as a member.
use Rattle.std.proofs.Common.{ℕ, zero, suc, ◌≡◌, ◌*◌, ◌+◌, ◌%◌, ◌<◌, ◌↔◌, Bool, true, false, IsTrue, List, [], ◌∷◌, length, get_or, replicate, eqb, refl, sym}
use Rattle.std.proofs.Common.{ap, ◌∙◌, subst, arith}
use Rattle.std.specs.declared.cmp.Ordering.TheVariants.{Less}
use Rattle.std.proofs.Math.Nat.{mul-one}
use Rattle.std.proofs.lemmas.Bool.{eqb-true, eqb-false, le-leb, and_from}
use Rattle.cgs_exps.specs.Monomial.{product, divides}
use Rattle.cgs_exps.proofs.MonomialLemmas.{product_comm, divides_zeros, one_product}
use Rattle.cgs_order.specs.TermOrder.{compared}
use Rattle.cgs_poly.specs.Ring.{Ring}
use Rattle.cgs_poly.specs.Polynomial.{Term, term, order_of, places, total, IsOfRing, IsCanonical, one}
use Rattle.cgs_poly.specs.Product.{multiple, leading_monomial, leading_coefficient}
use Rattle.cgs_poly.proofs.OneLemmas.{one_canonical}
use Rattle.cgs_poly.proofs.CanonicalLemmas.{same_term}
use Rattle.cgs_poly.proofs.ProductOrderLemmas.{one_least}
use Rattle.cgs_poly.proofs.MultipleLemmas.{lead_length}
use Rattle.cgs_algebra.specs.Combination.{IsMember}
use Rattle.cgs_algebra.specs.Groebner.{leading_monomial_at, IsReduced}
use Rattle.cgs_algebra.proofs.MemberLemmas.{same_member, zero_member, sum_member, multiple_member}
use Rattle.std.specs.List.{AllByRecursion}
use Rattle.cgs_algebra.proofs.PlaceLemmas.{canonical_at, monic_at, not_zero_at, lead_place, lead_at_place, leads_apart}

pub divides_by_one : (n : ℕ) (m : List ℕ) → divides (replicate n 0) m ≡ true
divides_by_one zero m = refl
divides_by_one (suc n) [] = refl
divides_by_one (suc n) (x ∷ m) = and_from _ _ (le-leb 0 x (omega arith)) (divides_by_one n m)

-- a monic polynomial with the lead 1 is 1
monic_one : (ring : Ring) (f : List Term) → IsCanonical ring f → leading_coefficient f ≡ 1 → leading_monomial f ≡ replicate (places ring) 0 → f ≡ one ring
monic_one ring [] h c m = absurd (omega arith)
monic_one ring (x ∷ []) h c m = ap (λ y. y ∷ []) (same_term x (term 1 (replicate (places ring) 0)) c m)
monic_one ring (x ∷ y ∷ f) h c m =
    let e : x.exponents ≡ replicate (length y.exponents) 0 = m ∙ ap (λ n. replicate n 0) (sym h.4.2) in
    absurd (one_least (order_of ring) y.exponents (subst (λ n. compared (order_of ring) y.exponents n ≡ Less) e h.3))

-- each polynomial is a member of an ideal that has 1
pub all_members : (ring : Ring) → 0 < ring.modulus → (F : List (List Term)) (f : List Term) → IsOfRing ring f → IsMember ring F (one ring) → IsMember ring F f
all_members ring pos F [] h m = zero_member ring F pos
all_members ring pos F (x ∷ f) h m =
    let zeros : List ℕ = replicate {A = ℕ} (places ring) 0 in
    let t : List Term = multiple x.coefficient x.exponents (one ring) in
    let m_one : List ℕ = product x.exponents zeros in
    let e : product x.exponents zeros ≡ x.exponents = product_comm x.exponents zeros ∙ one_product (places ring) x.exponents h.0 in
    same_member ring F pos
    (record {
      under = λ w.
          ap (λ n. (x.coefficient * n + total w f) % ring.modulus) (ap w (sym e))
          ∙ ap (λ n. (n * w m_one + total w f) % ring.modulus) (sym (mul-one x.coefficient));
    })
    (sum_member ring F pos t f (multiple_member ring F pos x.coefficient x.exponents (one ring) h.0 m) (all_members ring pos F f h.1 m))

module _ (ring : Ring) (two : 1 < ring.modulus) (F : List (List Term)) where
  module _ (G : List (List Term)) (reduced : IsReduced ring G F) where
    long : (i : ℕ) → i < length G → length (leading_monomial_at G i) ≡ places ring
    long i l = lead_length ring (get_or G i []) (canonical_at ring G reduced.monic.canonical i l) (not_zero_at G reduced.minimal.groebner.not_zero i l)

    -- the member whose lead is 1 is alone
    alone_at : (i : ℕ) → i < length G → leading_monomial_at G i ≡ replicate (places ring) 0 → G ≡ one ring ∷ []
    alone_at i l e =
        by_list G (λ j k. same j k (eqb i j) refl) i l
        (monic_one ring (get_or G i []) (canonical_at ring G reduced.monic.canonical i l) (monic_at G reduced.monic.monic i l) e)
      where
        same : (j : ℕ) → j < length G → (b : Bool) → eqb i j ≡ b → i ≡ j
        same j k true q = eqb-true i j q
        same j k false q =
            let d : IsTrue (divides (leading_monomial_at G i) (leading_monomial_at G j)) =
            subst (λ m. IsTrue (divides m (leading_monomial_at G j))) (sym e) (divides_by_one (places ring) (leading_monomial_at G j)) in
            absurd (leads_apart G reduced.minimal.apart i j l k (eqb-false i j q) d)

        by_list : (H : List (List Term)) → ((j : ℕ) → j < length H → i ≡ j) → (n : ℕ) → n < length H → get_or H n [] ≡ one ring → H ≡ one ring ∷ []
        by_list [] s n k q = absurd (omega arith)
        by_list (g ∷ []) s zero k q = ap (λ h. h ∷ []) q
        by_list (g ∷ []) s (suc n) k q = absurd (omega arith)
        by_list (g ∷ h ∷ H) s n k q =
            let a : i ≡ 0 = s 0 (omega arith) in
            let b : i ≡ 1 = s 1 (omega arith) in
            absurd (omega arith)

    one_from_member : IsMember ring F (one ring) → G ≡ one ring ∷ []
    one_from_member m =
        let d = lead_place G (replicate (places ring) 0) (reduced.minimal.groebner.leads (one ring) (one_canonical ring two) m (λ z. cc)) in
        alone_at d.0 d.1 (divides_zeros (places ring) (leading_monomial_at G d.0) (long d.0 d.1) d.2)

    member_from_one : G ≡ one ring ∷ [] → IsMember ring F (one ring)
    member_from_one e =
        (subst (λ H. AllByRecursion (IsMember ring F) H) e reduced.minimal.groebner.members).0

    -- 1 is a member exactly where the reduced basis is the list of 1 alone
    pub one_is_member : IsMember ring F (one ring) ↔ (G ≡ one ring ∷ [])
    one_is_member = (one_from_member, member_from_one)

  one_reduced : IsMember ring F (one ring) → IsReduced ring (one ring ∷ []) F
  one_reduced m = record {
    minimal = record {
      groebner = record {
        canonical = (one_canonical ring two, tt);
        members = (m, tt);
        not_zero = (λ e. cc, tt);
        leads = λ f k h some. lead_at_place (one ring ∷ []) (leading_monomial f) 0 (omega arith) (divides_by_one (places ring) (leading_monomial f));
      };
      apart = λ i j d l h. absurd (omega (arith, l, h));
    };
    monic = record {
      canonical = (one_canonical ring two, tt);
      monic = (refl, tt);
    };
    reduced = λ i j d l h. absurd (omega (arith, l, h));
  }

  -- 1 is a member exactly where the list of 1 alone is a reduced basis
  pub one_is_reduced : IsMember ring F (one ring) ↔ IsReduced ring (one ring ∷ []) F
  one_is_reduced = (one_reduced, λ r. r.minimal.groebner.members.0)
