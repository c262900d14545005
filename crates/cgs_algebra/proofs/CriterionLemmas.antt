-- The two criteria by which a pair is passed over (Cox, Little, O'Shea, chapter 2, section 10; Becker, Weispfenning, section 5.5).
use Rattle.std.proofs.Common.{ℕ, ◌≡◌, ◌+◌, ◌-◌, ◌*◌, ◌%◌, ◌<◌, ◌⊎◌, List, [], ◌∷◌, ◌++◌, length, get_or, refl, sym, ap, ◌∙◌, subst, arith, IsTrue}
use Rattle.std.proofs.Math.Nat.{zero-mod, add-zero, one-mul}
use Rattle.cgs_exps.specs.Monomial.{product, divides, quotient, lcm, coprime}
use Rattle.cgs_exps.proofs.MonomialLemmas.{product_comm, quotient_product, quotient_length, lcm_length}
use Rattle.cgs_poly.specs.Ring.{Ring}
use Rattle.cgs_poly.specs.Polynomial.{Term, places, order_of, total, IsCanonical}
use Rattle.cgs_poly.specs.Product.{multiple, all_products, leading_monomial, leading_coefficient}
use Rattle.cgs_poly.proofs.SumLemmas.{Alike, coefficients_from_alike, total_append}
use Rattle.cgs_poly.proofs.CanonicalLemmas.{all_below_canonical, AllBelow}
use Rattle.cgs_poly.proofs.MultipleLemmas.{total_products_comm, monic_not_empty}
use Rattle.cgs_poly.proofs.ProductOrderLemmas.{compared_shift}
use Rattle.cgs_algebra.specs.Combination.{Summand, summand, combined, IsCombination}
use Rattle.cgs_algebra.specs.Groebner.{AreMonic, leading_monomial_at}
use Rattle.cgs_algebra.specs.SPolynomial.{LeadsBelow, HasLcmRepresentation, difference, s_terms, pair_lcm}
use Rattle.cgs_algebra.proofs.CombinationLemmas.{combined_append, combination_append, leads_append}
use Rattle.cgs_algebra.proofs.LcmLemmas.{lcm_quotient_left, lcm_quotient_right, same_factor, coprime_lcm}
use Rattle.cgs_algebra.proofs.RepresentationLemmas.{IsRepresentedBelow, represented_append, represented_alike, total_difference, lead_at_length}
use Rattle.cgs_algebra.proofs.RepresentationLemmas.{either_represented}
use Rattle.cgs_poly.proofs.ProductLemmas.{total_multiple}
use Rattle.cgs_field.proofs.ModularLemmas.{mod_add, mod_cancel, mod_opposite}
use Rattle.cgs_algebra.proofs.PlaceLemmas.{canonical_at, monic_at}

-- the chain criterion

-- t*f - s*g is (t*f - o*h) + (o*h - s*g)
difference_joined : (ring : Ring) (t : List ℕ) (f : List Term) (s : List ℕ) (g : List Term) (o : List ℕ) (h : List Term) → 0 < ring.modulus
    → Alike ring.modulus (difference ring t f s g) (difference ring t f o h ++ difference ring o h s g)
difference_joined ring t f s g o h pos = record {
  under = λ w.
      let p : ℕ = ring.modulus in
      let x : ℕ = total (λ m. w (product t m)) f in
      let y : ℕ = total (λ m. w (product s m)) g in
      let z : ℕ = total (λ m. w (product o m)) h in
      let right : total w (difference ring t f o h ++ difference ring o h s g) ≡ (x + (p - 1) * y) + (z + (p - 1) * z) =
      total_append w (difference ring t f o h) (difference ring o h s g)
      ∙ (cc (total_difference w ring t f o h, total_difference w ring o h s g) ∙ regroup x y z (p - 1)) in
      let e = mod_add p (x + (p - 1) * y) (x + (p - 1) * y) (z + (p - 1) * z) 0 refl (mod_opposite p z pos ∙ sym (zero-mod p)) in
      ap (λ n. n % p) (total_difference w ring t f s g) ∙ (ap (λ n. n % p) (sym (add-zero (x + (p - 1) * y))) ∙ (sym e ∙ ap (λ n. n % p) (sym right)));
}
  where
    regroup : (x y z q : ℕ) → (x + q * z) + (z + q * y) ≡ (x + q * y) + (z + q * z)
    regroup x y z q = omega arith

pub chain_criterion : (ring : Ring) (G : List (List Term)) (i j k : ℕ) → 0 < ring.modulus → AreMonic ring G → i < length G → j < length G → k < length G
    → IsTrue (divides (leading_monomial_at G k) (pair_lcm (get_or G i []) (get_or G j [])))
    → (HasLcmRepresentation ring G i k ⊎ HasLcmRepresentation ring G k i)
    → (HasLcmRepresentation ring G k j ⊎ HasLcmRepresentation ring G j k) → HasLcmRepresentation ring G i j
chain_criterion ring G i j k pos ok hi hj hk d first second =
    let n : ℕ = places ring in
    let a : List ℕ = leading_monomial_at G i in
    let b : List ℕ = leading_monomial_at G j in
    let c : List ℕ = leading_monomial_at G k in
    let la : length a ≡ n = lead_at_length ring G pos ok i hi in
    let lb : length b ≡ n = lead_at_length ring G pos ok j hj in
    let lc : length c ≡ n = lead_at_length ring G pos ok k hk in
    let m : List ℕ = lcm a b in
    let lm : length m ≡ n = lcm_length a b n la lb in
    let tc : product (quotient m c) c ≡ m = quotient_product m c (lm ∙ sym lc) d in
    let u = either_represented ring G pos ok i k (quotient m a) (quotient m c) m hi hk first
    (quotient_length m a n lm la) (quotient_length m c n lm lc) (lcm_quotient_left a b n la lb) tc in
    let v = either_represented ring G pos ok k j (quotient m c) (quotient m b) m hk hj second
    (quotient_length m c n lm lc) (quotient_length m b n lm lb) tc (lcm_quotient_right a b n la lb) in
    let both : IsRepresentedBelow ring G m (s_terms ring (get_or G i []) (get_or G j [])) =
    represented_alike (difference_joined ring (quotient m a) (get_or G i []) (quotient m b) (get_or G j []) (quotient m c) (get_or G k []) pos)
    (represented_append u v) in
    record { summands = both.summands; combination = both.combination; below = both.below; sum = coefficients_from_alike both.sum }

-- the coprime criterion

-- c*f*F[j]
abbrev product_summands : ℕ → List Term → ℕ → List Summand
product_summands c [] j = []
product_summands c (x ∷ f) j = summand (c * x.coefficient) x.exponents j ∷ product_summands c f j

total_product_summands : (w : List ℕ → ℕ) (G : List (List Term)) (c : ℕ) (f : List Term) (j : ℕ)
    → total w (combined G (product_summands c f j)) ≡ c * total w (all_products f (get_or G j []))
total_product_summands w G c [] j = omega arith
total_product_summands w G c (x ∷ f) j =
    let g : List Term = get_or G j [] in
    let T : ℕ = total (λ m. w (product x.exponents m)) g in
    let left = total_append w (multiple (c * x.coefficient) x.exponents g) (combined G (product_summands c f j)) in
    let right : total w (all_products (x ∷ f) g) ≡ x.coefficient * T + total w (all_products f g) =
    total_append w (multiple x.coefficient x.exponents g) (all_products f g) ∙ cc (total_multiple w x.coefficient x.exponents g) in
    left ∙ (cc (total_multiple w (c * x.coefficient) x.exponents g, total_product_summands w G c f j)
    ∙ (spread_out c x.coefficient T (total w (all_products f g)) ∙ ap (λ n. c * n) (sym right)))
  where
    spread_out : (c d t r : ℕ) → (c * d) * t + c * r ≡ c * (d * t + r)
    spread_out c d t r = omega arith

product_combination : (ring : Ring) (G : List (List Term)) (c : ℕ) (f : List Term) (j : ℕ)
    → IsCanonical ring f → j < length G → IsCombination ring G (product_summands c f j)
product_combination ring G c [] j h l = tt
product_combination ring G c (x ∷ f) j h l = (h.2, l, product_combination ring G c f j h.4 l)

product_below : (ring : Ring) (G : List (List Term)) (c : ℕ) (f : List Term) (a : List ℕ) (j : ℕ) → length (leading_monomial_at G j) ≡ places ring
    → length a ≡ places ring
    → IsCanonical ring f → AllBelow ring a f
    → LeadsBelow ring G (product (leading_monomial_at G j) a) (product_summands c f j)
product_below ring G c [] a j lg la h b = tt
product_below ring G c (x ∷ f) a j lg la h b =
    let g : List ℕ = leading_monomial_at G j in
    let s = compared_shift (order_of ring) g x.exponents a (lg ∙ sym h.2) (lg ∙ sym la) in
    (rw (product_comm x.exponents g) (s ∙ b.0), product_below ring G c f a j lg la h.4 b.1)

-- from A + P = B + Q follows B - A = P - Q
mod_turned : (p A B P Q : ℕ) → 0 < p → A + P ≡ B + Q → (B + (p - 1) * A) % p ≡ (P + (p - 1) * Q) % p
mod_turned p A B P Q h e =
    let l : ((B + P) + (A + (p - 1) * A)) % p ≡ ((B + P) + 0) % p = mod_add p (B + P) (B + P) _ 0 refl (mod_opposite p A h ∙ sym (zero-mod p)) in
    let k : ((B + P) + (Q + (p - 1) * Q)) % p ≡ ((B + P) + 0) % p = mod_add p (B + P) (B + P) _ 0 refl (mod_opposite p Q h ∙ sym (zero-mod p)) in
    let x : (B + (p - 1) * A) + (A + P) ≡ (B + P) + (A + (p - 1) * A) = left A B P ((p - 1) * A) in
    let y : (P + (p - 1) * Q) + (A + P) ≡ (B + P) + (Q + (p - 1) * Q) = right A B P Q ((p - 1) * Q) e in
    mod_cancel p (B + (p - 1) * A) (P + (p - 1) * Q) (A + P) h (ap (λ n. n % p) x ∙ (l ∙ (sym k ∙ ap (λ n. n % p) (sym y))))
  where
    left : (A B P q : ℕ) → (B + q) + (A + P) ≡ (B + P) + (A + q)
    left A B P q = omega arith

    right : (A B P Q q : ℕ) → A + P ≡ B + Q → (P + q) + (A + P) ≡ (B + P) + (Q + q)
    right A B P Q q e = omega arith

-- with f = x + f' and g = y + g', both monic: y*f - x*g = f'*g - g'*f
tails_difference : (w : List ℕ → ℕ) (ring : Ring) (x y : Term) (f g : List Term) → 0 < ring.modulus → x.coefficient ≡ 1 → y.coefficient ≡ 1
    → total w (difference ring y.exponents (x ∷ f) x.exponents (y ∷ g)) % ring.modulus
    ≡ (total w (all_products f (y ∷ g)) + (ring.modulus - 1) * total w (all_products g (x ∷ f))) % ring.modulus
tails_difference w ring x y f g pos cx cy =
    let A : ℕ = total (λ m. w (product x.exponents m)) (y ∷ g) in
    let B : ℕ = total (λ m. w (product y.exponents m)) (x ∷ f) in
    let P : ℕ = total w (all_products f (y ∷ g)) in
    let Q : ℕ = total w (all_products g (x ∷ f)) in
    let first : total w (all_products (x ∷ f) (y ∷ g)) ≡ A + P = first_product x f (y ∷ g) cx in
    let second : total w (all_products (y ∷ g) (x ∷ f)) ≡ B + Q = first_product y g (x ∷ f) cy in
    let turn : A + P ≡ B + Q = sym first ∙ (total_products_comm w (x ∷ f) (y ∷ g) ∙ second) in
    ap (λ n. n % ring.modulus) (total_difference w ring y.exponents (x ∷ f) x.exponents (y ∷ g)) ∙ mod_turned ring.modulus A B P Q pos turn
  where
    first_product : (x : Term) (f g : List Term) → x.coefficient ≡ 1
        → total w (all_products (x ∷ f) g) ≡ total (λ m. w (product x.exponents m)) g + total w (all_products f g)
    first_product x f g e =
        let T : ℕ = total (λ m. w (product x.exponents m)) g in
        total_append w (multiple x.coefficient x.exponents g) (all_products f g) ∙ cc (total_multiple w x.coefficient x.exponents g, e, one-mul T)

module _ (ring : Ring) (G : List (List Term)) (i j : ℕ) (pos : 0 < ring.modulus) (ok : AreMonic ring G) (hi : i < length G) (hj : j < length G) where
  abbrev left : List Term
  left = get_or G i []

  abbrev right : List Term
  right = get_or G j []

  coprime_quotients : (x y : Term) → length x.exponents ≡ places ring → length y.exponents ≡ places ring
      → lcm x.exponents y.exponents ≡ product x.exponents y.exponents
      → (quotient (lcm x.exponents y.exponents) x.exponents ≡ y.exponents) × (quotient (lcm x.exponents y.exponents) y.exponents ≡ x.exponents)
  coprime_quotients x y lx ly e =
      let n : ℕ = places ring in
      let a : List ℕ = x.exponents in
      let b : List ℕ = y.exponents in
      let m : List ℕ = lcm a b in
      let lm : length m ≡ n = lcm_length a b n lx ly in (
        same_factor a (quotient m a) b n lx (quotient_length m a n lm lx) ly (lcm_quotient_left a b n lx ly ∙ (e ∙ product_comm a b)),
        same_factor b (quotient m b) a n ly (quotient_length m b n lm ly) lx (lcm_quotient_right a b n lx ly ∙ e),
      )

  from_tails : (x y : Term) (f g : List Term) → x ∷ f ≡ left → y ∷ g ≡ right
      → lcm x.exponents y.exponents ≡ product x.exponents y.exponents → HasLcmRepresentation ring G i j
  from_tails x y f g ef eg e =
      let cf : IsCanonical ring (x ∷ f) = subst (λ q. IsCanonical ring q) (sym ef) (canonical_at ring G ok.canonical i hi) in
      let cg : IsCanonical ring (y ∷ g) = subst (λ q. IsCanonical ring q) (sym eg) (canonical_at ring G ok.canonical j hj) in
      let ks : List Summand = product_summands 1 f j in
      let ls : List Summand = product_summands (ring.modulus - 1) g i in
      let a : x.exponents ≡ leading_monomial_at G i = ap leading_monomial ef in
      let b : y.exponents ≡ leading_monomial_at G j = ap leading_monomial eg in
      let m : List ℕ = pair_lcm left right in
      let here : lcm x.exponents y.exponents ≡ m = cc in
      let mk : product (leading_monomial_at G j) x.exponents ≡ m =
      ap (λ k. product k x.exponents) (sym b) ∙ (product_comm y.exponents x.exponents ∙ (sym e ∙ here)) in
      let ml : product (leading_monomial_at G i) y.exponents ≡ m = ap (λ k. product k y.exponents) (sym a) ∙ (sym e ∙ here) in
      let below_k = product_below ring G 1 f x.exponents j (ap length (sym b) ∙ cg.2) cf.2 cf.4 (all_below_canonical ring x.exponents f cf.4 cf.3) in
      let below_l =
      product_below ring G (ring.modulus - 1) g y.exponents i (ap length (sym a) ∙ cf.2) cg.2 cg.4 (all_below_canonical ring y.exponents g cg.4 cg.3) in
      record {
        summands = ks ++ ls;
        combination = combination_append ring G ks ls (product_combination ring G 1 f j cf.4 hj) (product_combination ring G (ring.modulus - 1) g i cg.4 hi);
        below = leads_append ring G m ks ls (subst (λ k. LeadsBelow ring G k ks) mk below_k) (subst (λ k. LeadsBelow ring G k ls) ml below_l);
        sum = coefficients_from_alike (record { under = λ w. comes_to w (coprime_quotients x y cf.2 cg.2 e) });
      }
    where
      coprime_s_terms : (quotient (lcm x.exponents y.exponents) x.exponents ≡ y.exponents) × (quotient (lcm x.exponents y.exponents) y.exponents ≡ x.exponents)
          → s_terms ring (x ∷ f) (y ∷ g) ≡ difference ring y.exponents (x ∷ f) x.exponents (y ∷ g)
      coprime_s_terms q =
          ap (λ k. difference ring k (x ∷ f) (quotient (lcm x.exponents y.exponents) y.exponents) (y ∷ g)) q.0
          ∙ ap (λ k. difference ring y.exponents (x ∷ f) k (y ∷ g)) q.1

      comes_to : (w : List ℕ → ℕ) → (quotient (lcm x.exponents y.exponents) x.exponents ≡ y.exponents)
          × (quotient (lcm x.exponents y.exponents) y.exponents ≡ x.exponents)
          → total w (s_terms ring left right) % ring.modulus
          ≡ total w (combined G (product_summands 1 f j ++ product_summands (ring.modulus - 1) g i)) % ring.modulus
      comes_to w q =
          let ks : List Summand = product_summands 1 f j in
          let ls : List Summand = product_summands (ring.modulus - 1) g i in
          let P : ℕ = total w (all_products f right) in
          let Q : ℕ = total w (all_products g left) in
          let s : total w (combined G (ks ++ ls)) ≡ P + (ring.modulus - 1) * Q =
          ap (total w) (combined_append G ks ls)
          ∙ (total_append w (combined G ks) (combined G ls)
          ∙ cc (total_product_summands w G 1 f j, one-mul P, total_product_summands w G (ring.modulus - 1) g i)) in
          let cx : x.coefficient ≡ 1 = ap leading_coefficient ef ∙ monic_at G ok.monic i hi in
          let cy : y.coefficient ≡ 1 = ap leading_coefficient eg ∙ monic_at G ok.monic j hj in
          let t = tails_difference w ring x y f g pos cx cy in
          let d : s_terms ring left right ≡ difference ring y.exponents (x ∷ f) x.exponents (y ∷ g) =
          subst (λ k. s_terms ring k right ≡ difference ring y.exponents (x ∷ f) x.exponents (y ∷ g)) ef
          (subst (λ k. s_terms ring (x ∷ f) k ≡ difference ring y.exponents (x ∷ f) x.exponents (y ∷ g)) eg (coprime_s_terms q)) in
          ap (λ n. total w n % ring.modulus) d ∙ (t ∙ (cc (ef, eg) ∙ ap (λ n. n % ring.modulus) (sym s)))

  pub coprime_criterion : IsTrue (coprime (leading_monomial_at G i) (leading_monomial_at G j)) → HasLcmRepresentation ring G i j
  coprime_criterion h = by_members left right refl refl (monic_at G ok.monic i hi) (monic_at G ok.monic j hj)
    where
      by_members : (f g : List Term) → f ≡ left → g ≡ right → leading_coefficient left ≡ 1 → leading_coefficient right ≡ 1 → HasLcmRepresentation ring G i j
      by_members [] g ef eg cf cg = absurd (monic_not_empty left cf (sym ef))
      by_members (x ∷ f) [] ef eg cf cg = absurd (monic_not_empty right cg (sym eg))
      by_members (x ∷ f) (y ∷ g) ef eg cf cg =
          from_tails x y f g ef eg
          (subst (λ k. lcm k y.exponents ≡ product k y.exponents) (ap leading_monomial (sym ef))
          (subst (λ k. lcm (leading_monomial_at G i) k ≡ product (leading_monomial_at G i) k) (ap leading_monomial (sym eg))
          (coprime_lcm (leading_monomial_at G i) (leading_monomial_at G j) h)))
