-- An ideal has at most one reduced Gröbner basis with ascending leads (Cox, Little, O'Shea, chapter 2, section 7, theorem 5).
use Rattle.std.proofs.Common.{ℕ, ◌≡◌, ◌+◌, ◌-◌, ◌*◌, ◌%◌, ◌<◌, ◌⊎◌, inl, inr, true, List, [], ◌∷◌, ◌++◌, length, get_or, replicate, refl, sym, ap, ◌∙◌, subst}
use Rattle.std.proofs.Common.{arith}
use Rattle.std.proofs.Math.Nat.{zero-mod}
use Rattle.std.proofs.lemmas.Bool.{cases_eq}
use Rattle.std.proofs.lemmas.List.{length-replicate}
use Rattle.cgs_exps.specs.Monomial.{product, divides, quotient}
use Rattle.cgs_exps.proofs.MonomialLemmas.{quotient_product, quotient_length, divides_trans, divides_both}
use Rattle.cgs_order.specs.TermOrder.{compared}
use Rattle.cgs_poly.specs.Ring.{Ring}
use Rattle.cgs_poly.specs.Polynomial.{Term, places, order_of, total, indicator, IsOfRing, IsCanonical, canonical}
use Rattle.cgs_poly.specs.Product.{multiple, leading_monomial, leading_coefficient}
use Rattle.cgs_poly.proofs.SumLemmas.{Alike, only_other, total_append}
use Rattle.cgs_poly.proofs.CanonicalLemmas.{all_below_canonical, AllBelow, lead_not_zero, same_canonical, canonical_of_ring, is_canonical, canonical_alike}
use Rattle.cgs_poly.proofs.CanonicalLemmas.{append_of_ring}
use Rattle.cgs_poly.proofs.MultipleLemmas.{multiple_one, lead_length}
use Rattle.cgs_poly.proofs.ProductOrderLemmas.{compared_grown}
use Rattle.cgs_algebra.specs.Combination.{IsMember}
use Rattle.cgs_algebra.specs.Groebner.{leading_monomial_at, IsReduced, DividesNone, IsAscending}
use Rattle.cgs_algebra.proofs.AscendingLemmas.{same_ascending}
use Rattle.cgs_algebra.proofs.MemberLemmas.{same_member, sum_member, multiple_member}
use Rattle.cgs_poly.proofs.ProductLemmas.{multiple_of_ring, total_multiple}
use Rattle.cgs_field.proofs.ModularLemmas.{mod_opposite, mod_cancel}
use Rattle.cgs_algebra.proofs.PlaceLemmas.{canonical_at, monic_at, member_at, not_zero_at, lead_place, leads_apart, two_places}

-- a monomial divides none that is below it
pub divides_none_below : (ring : Ring) (l : List ℕ) (f : List Term) → length l ≡ places ring → IsOfRing ring f → AllBelow ring l f → DividesNone l f
divides_none_below ring l [] ll h b = tt
divides_none_below ring l (x ∷ f) ll h b = (
  λ d.
      let n : List ℕ = x.exponents in
      compared_grown (order_of ring) (quotient n l) l (quotient_length n l (places ring) h.0 ll ∙ sym ll)
      (ap (λ k. compared (order_of ring) k l) (quotient_product n l (h.0 ∙ sym ll) d) ∙ b.0),
  divides_none_below ring l f ll h.1 b.1,
)

-- f has the coefficient 0 at each multiple of a monomial that divides none of its own
divided_zero : (l m : List ℕ) (f : List Term) → DividesNone l f → divides l m ≡ true → total (indicator m) f ≡ 0
divided_zero l m [] h d = refl
divided_zero l m (x ∷ f) h d =
    let z : indicator m x.exponents ≡ 0 = only_other m x.exponents (λ e. h.0 (subst (λ k. divides l k ≡ true) e d)) in
    rw (z, divided_zero l m f h.1 d) (omega arith)

module _ (ring : Ring) (pos : 0 < ring.modulus) (F : List (List Term)) where
  abbrev at : List (List Term) → ℕ → List Term
  at G i = get_or G i []

  reduced_lead_length : (G : List (List Term)) → IsReduced ring G F → (i : ℕ) → i < length G → length (leading_monomial_at G i) ≡ places ring
  reduced_lead_length G g i h = lead_length ring (at G i) (canonical_at ring G g.monic.canonical i h) (not_zero_at G g.minimal.groebner.not_zero i h)

  -- at a multiple of some lead of a reduced basis, a member has its leading coefficient 1 or the coefficient 0
  at_divided : (G : List (List Term)) → IsReduced ring G F → (i k : ℕ) → i < length G → k < length G → (m : List ℕ) → divides (leading_monomial_at G k) m ≡ true
      → (f : List Term) → f ≡ at G i → total (indicator m) f ≡ indicator m (leading_monomial f)
  at_divided G g i k hi hk m d [] e = absurd (not_zero_at G g.minimal.groebner.not_zero i hi (sym e))
  at_divided G g i k hi hk m d (x ∷ f) e =
      let can : IsCanonical ring (x ∷ f) = subst (λ q. IsCanonical ring q) (sym e) (canonical_at ring G g.monic.canonical i hi) in
      let one : leading_coefficient (x ∷ f) ≡ 1 = subst (λ q. leading_coefficient q ≡ 1) (sym e) (monic_at G g.monic.monic i hi) in
      let z : total (indicator m) f ≡ 0 = divided_zero (leading_monomial_at G k) m f (tail_clear can (cases_eq k i)) d in
      rw (z, one) (omega arith)
    where
      tail_clear : IsCanonical ring (x ∷ f) → (k ≡ i) ⊎ (k ≡ i → ⊥) → DividesNone (leading_monomial_at G k) f
      tail_clear can (inl q) =
          let s : x.exponents ≡ leading_monomial_at G k = ap leading_monomial e ∙ ap (leading_monomial_at G) (sym q) in
          subst (λ l. DividesNone l f) s
          (divides_none_below ring x.exponents f can.2 (canonical_of_ring ring f can.4) (all_below_canonical ring x.exponents f can.4 can.3))
      tail_clear can (inr q) =
          let none = two_places (λ f g. DividesNone (leading_monomial f) g) G g.reduced k i hk hi q in
          (subst (λ p. DividesNone (leading_monomial_at G k) p) (sym e) none).1

  -- a lead of one basis divides each lead of the other
  divisor_of_lead : (G H : List (List Term)) → IsReduced ring G F → IsReduced ring H F → (i : ℕ)
      → i < length H → (j : ℕ) × (j < length G) × (divides (leading_monomial_at G j) (leading_monomial_at H i) ≡ true)
  divisor_of_lead G H g h i l =
      lead_place G (leading_monomial_at H i)
      (g.minimal.groebner.leads (at H i) (canonical_at ring H h.monic.canonical i l) (member_at ring F H h.minimal.groebner.members i l)
      (not_zero_at H h.minimal.groebner.not_zero i l))

  -- each lead of one basis is a lead of the other
  lead_there : (G H : List (List Term)) → IsReduced ring G F → IsReduced ring H F → (i : ℕ)
      → i < length G → (j : ℕ) × (j < length H) × (leading_monomial_at H j ≡ leading_monomial_at G i)
  lead_there G H g h i l =
      let j = divisor_of_lead H G h g i l in
      let k = divisor_of_lead G H g h j.0 j.1 in
      let lj = reduced_lead_length H h j.0 j.1 in
      let li = reduced_lead_length G g i l in
      let lk = reduced_lead_length G g k.0 k.1 in
      let d : divides (leading_monomial_at G k.0) (leading_monomial_at G i) ≡ true =
      divides_trans (leading_monomial_at G k.0) (leading_monomial_at H j.0) (leading_monomial_at G i) (lk ∙ sym lj) k.2 j.2 in (
        j.0,
        j.1,
        divides_both (leading_monomial_at H j.0) (leading_monomial_at G i) (lj ∙ sym li) j.2
            (same k.0 k.1 d (cases_eq k.0 i) (leading_monomial_at H j.0) k.2),
      )
    where
      same : (k : ℕ) → k < length G → divides (leading_monomial_at G k) (leading_monomial_at G i) ≡ true → (k ≡ i) ⊎ (k ≡ i → ⊥) → (m : List ℕ)
          → divides (leading_monomial_at G k) m ≡ true
          → divides (leading_monomial_at G i) m ≡ true
      same k hk d (inl e) m q = subst (λ n. divides (leading_monomial_at G n) m ≡ true) e q
      same k hk d (inr e) m q = absurd (leads_apart G g.minimal.apart k i hk l e d)

  -- f - g
  abbrev less : List Term → List Term → List Term
  less f g = f ++ multiple (ring.modulus - 1) (replicate (places ring) 0) g

  total_less : (w : List ℕ → ℕ) (f g : List Term) → IsOfRing ring g → total w (less f g) ≡ total w f + (ring.modulus - 1) * total w g
  total_less w f g h =
      let one : List ℕ = replicate {A = ℕ} (places ring) 0 in
      let a : total w (multiple 1 one g) ≡ 1 * total (λ m. w (product one m)) g = total_multiple w 1 one g in
      let b : total w (multiple 1 one g) ≡ total w g = ap (total w) (multiple_one ring g h) in
      let e : total (λ m. w (product one m)) g ≡ total w g = omega arith in
      total_append w f (multiple (ring.modulus - 1) one g) ∙ cc (total_multiple w (ring.modulus - 1) one g, e)

  -- members with one lead are equal: their difference has no lead
  same_by_lead : (G H : List (List Term)) → IsReduced ring G F → IsReduced ring H F → (i j : ℕ)
      → i < length G → j < length H → leading_monomial_at H j ≡ leading_monomial_at G i → at H j ≡ at G i
  same_by_lead G H g h i j hi hj e =
      by_difference (canonical ring (less (at G i) (at H j))) (is_canonical ring (less (at G i) (at H j)) pos of_ring)
      (canonical_alike ring (less (at G i) (at H j)) pos of_ring)
    where
      one_length : length (replicate {A = ℕ} (places ring) 0) ≡ places ring
      one_length = length-replicate {A = ℕ} (places ring) 0

      second : IsOfRing ring (at H j)
      second = canonical_of_ring ring (at H j) (canonical_at ring H h.monic.canonical j hj)

      of_ring : IsOfRing ring (less (at G i) (at H j))
      of_ring =
          append_of_ring ring (at G i) (multiple (ring.modulus - 1) (replicate (places ring) 0) (at H j))
          (canonical_of_ring ring (at G i) (canonical_at ring G g.monic.canonical i hi))
          (multiple_of_ring ring (ring.modulus - 1) (replicate (places ring) 0) (at H j) one_length second)

      total_d : (w : List ℕ → ℕ) → total w (less (at G i) (at H j)) ≡ total w (at G i) + (ring.modulus - 1) * total w (at H j)
      total_d w = total_less w (at G i) (at H j) second

      member : IsMember ring F (less (at G i) (at H j))
      member =
          sum_member ring F pos (at G i) (multiple (ring.modulus - 1) (replicate (places ring) 0) (at H j)) (member_at ring F G g.minimal.groebner.members i hi)
          (multiple_member ring F pos (ring.modulus - 1) (replicate (places ring) 0) (at H j) one_length (member_at ring F H h.minimal.groebner.members j hj))

      by_difference : (q : List Term) → IsCanonical ring q → Alike ring.modulus q (less (at G i) (at H j)) → at H j ≡ at G i
      by_difference [] k a =
          same_canonical ring (at H j) (at G i) (canonical_at ring H h.monic.canonical j hj) (canonical_at ring G g.monic.canonical i hi) (record {
            under = λ w.
                let z : (total w (at G i) + (ring.modulus - 1) * total w (at H j)) % ring.modulus ≡ 0 =
                ap (λ n. n % ring.modulus) (sym (total_d w)) ∙ (sym (a.under w) ∙ zero-mod ring.modulus) in
                sym (mod_cancel ring.modulus (total w (at G i)) (total w (at H j)) ((ring.modulus - 1) * total w (at H j))
                pos (z ∙ sym (mod_opposite ring.modulus (total w (at H j)) pos)));
          })
      by_difference (y ∷ q) k a =
          let m : List ℕ = y.exponents in
          let s = lead_place G m (g.minimal.groebner.leads (y ∷ q) k (same_member ring F pos a member) (λ z. cc)) in
          let t = lead_there G H g h s.0 s.1 in
          let tg : total (indicator m) (at G i) ≡ indicator m (leading_monomial (at G i)) = at_divided G g i s.0 hi s.1 m s.2 (at G i) refl in
          let th : total (indicator m) (at H j) ≡ indicator m (leading_monomial (at H j)) =
          at_divided H h j t.0 hj t.1 m (subst (λ n. divides n m ≡ true) (sym t.2) s.2) (at H j) refl in
          let c : ℕ = indicator m (leading_monomial (at G i)) in
          let eq : total (indicator m) (less (at G i) (at H j)) ≡ c + (ring.modulus - 1) * c = total_d (indicator m) ∙ cc (tg, th, e) in
          absurd (lead_not_zero ring y q k (a.under (indicator m) ∙ (ap (λ n. n % ring.modulus) eq ∙ mod_opposite ring.modulus c pos)))

  -- each member of one basis is a member of the other
  found_there : (G H : List (List Term)) → IsReduced ring G F → IsReduced ring H F → (i : ℕ) → i < length G → (j : ℕ) × (j < length H) × (at H j ≡ at G i)
  found_there G H g h i l = let j = lead_there G H g h i l in (j.0, j.1, same_by_lead G H g h i j.0 l j.1 j.2)

pub reduced_unique : (ring : Ring) (F G H : List (List Term)) → 0 < ring.modulus → IsReduced ring G F
    → IsReduced ring H F → IsAscending ring G → IsAscending ring H → G ≡ H
reduced_unique ring F G H pos g h a b = same_ascending ring G H a b (found_there ring pos F G H g h) (found_there ring pos F H G h g)
