-- Representations with all leads below a monomial (Becker, Weispfenning, section 5.4), and the differences of two multiples with one lead.
use Rattle.std.proofs.Common.{ℕ, ◌≡◌, ◌+◌, ◌-◌, ◌*◌, ◌%◌, ◌<◌, ◌⊎◌, inl, inr, List, [], ◌∷◌, ◌++◌, length, get_or, refl, sym, ap, ◌∙◌, subst}
use Rattle.std.proofs.Math.Nat.{zero-mod, one-mul}
use Rattle.std.proofs.lemmas.List.{append-nil}
use Rattle.std.proofs.lemmas.Bool.{cases_order}
use Rattle.std.specs.declared.cmp.Ordering.TheVariants.{Less}
use Rattle.cgs_exps.specs.Monomial.{product, quotient, lcm}
use Rattle.cgs_exps.proofs.MonomialLemmas.{product_assoc, product_length, lcm_length}
use Rattle.cgs_order.specs.TermOrder.{compared}
use Rattle.cgs_poly.specs.Ring.{Ring}
use Rattle.cgs_poly.specs.Polynomial.{Term, places, order_of, total, indicator}
use Rattle.cgs_poly.specs.Product.{multiple}
use Rattle.cgs_poly.proofs.SumLemmas.{Alike, alike_same, alike_trans, alike_append, alike_from_coefficients, total_append}
use Rattle.cgs_poly.proofs.CanonicalLemmas.{AllBelow, all_below_append, all_below_zero}
use Rattle.cgs_poly.proofs.MultipleLemmas.{all_below_multiple, lead_length, monic_not_empty}
use Rattle.cgs_poly.proofs.ProductOrderLemmas.{compared_shift}
use Rattle.cgs_algebra.specs.Combination.{Summand, combined, IsCombination}
use Rattle.cgs_algebra.specs.Groebner.{AreMonic, leading_monomial_at}
use Rattle.cgs_algebra.specs.SPolynomial.{LeadsBelow, HasLcmRepresentation, difference}
use Rattle.cgs_algebra.proofs.CombinationLemmas.{combined_append, combination_append, leads_append, shifted_summands, combined_shifted, combination_shifted}
use Rattle.cgs_algebra.proofs.CombinationLemmas.{scaled_summands, total_scaled_summands, combination_scaled, leads_scaled}
use Rattle.cgs_algebra.proofs.LcmLemmas.{CommonMultiple, common_multiple, same_factor}
use Rattle.cgs_poly.proofs.ProductLemmas.{total_multiple, multiple_append, multiple_multiple, alike_multiple}
use Rattle.cgs_field.proofs.ModularLemmas.{mod_mul, mod_opposite, mod_twice}
use Rattle.cgs_algebra.proofs.PlaceLemmas.{canonical_at, monic_at}

-- f is a combination whose multiples have their leads below m
pub record IsRepresentedBelow (ring : Ring) (G : List (List Term)) (m : List ℕ) (f : List Term) : Type 0 where
  pub summands : List Summand
  pub combination : IsCombination ring G summands
  pub below : LeadsBelow ring G m summands
  pub sum : Alike ring.modulus f (combined G summands)

pub represented_zero : (ring : Ring) (G : List (List Term)) (m : List ℕ) → IsRepresentedBelow ring G m []
represented_zero ring G m = record { summands = []; combination = tt; below = tt; sum = alike_same ring.modulus [] }

pub represented_alike : {ring : Ring} {G : List (List Term)} {m : List ℕ} {f g : List Term}
    → Alike ring.modulus g f → IsRepresentedBelow ring G m f → IsRepresentedBelow ring G m g
represented_alike a h = record { summands = h.summands; combination = h.combination; below = h.below; sum = alike_trans a h.sum }

pub represented_append : {ring : Ring} {G : List (List Term)} {m : List ℕ} {f g : List Term} → IsRepresentedBelow ring G m f → IsRepresentedBelow ring G m g
    → IsRepresentedBelow ring G m (f ++ g)
represented_append {ring} {G} {m} {f} {g} h k = record {
  summands = h.summands ++ k.summands;
  combination = combination_append ring G h.summands k.summands h.combination k.combination;
  below = leads_append ring G m h.summands k.summands h.below k.below;
  sum = rw (combined_append G h.summands k.summands) (alike_append h.sum k.sum);
}

-- g comes to c times f
pub represented_scaled : {ring : Ring} {G : List (List Term)} {m : List ℕ} {f : List Term} → (c : ℕ) (g : List Term)
    → ((w : List ℕ → ℕ) → total w g % ring.modulus ≡ (c * total w f) % ring.modulus) → IsRepresentedBelow ring G m f → IsRepresentedBelow ring G m g
represented_scaled {ring} {G} {m} {f} c g e h = record {
  summands = scaled_summands c h.summands;
  combination = combination_scaled ring G c h.summands h.combination;
  below = leads_scaled ring G m c h.summands h.below;
  sum = record {
    under = λ w.
        e w ∙ (mod_mul ring.modulus c c (total w f) (total w (combined G h.summands)) refl (h.sum.under w)
        ∙ ap (λ n. n % ring.modulus) (sym (total_scaled_summands w G c h.summands)));
  };
}

-- a single multiple
pub represented_one : (ring : Ring) (G : List (List Term)) (m : List ℕ) (k : Summand) → length k.monomial ≡ places ring → k.place < length G
    → compared (order_of ring) (product k.monomial (leading_monomial_at G k.place)) m ≡ Less
    → IsRepresentedBelow ring G m (multiple k.coefficient k.monomial (get_or G k.place []))
represented_one ring G m k l h b = record {
  summands = k ∷ [];
  combination = (l, h, tt);
  below = (b, tt);
  sum = rw (append-nil (multiple k.coefficient k.monomial (get_or G k.place [])))
      (alike_same ring.modulus (multiple k.coefficient k.monomial (get_or G k.place [])));
}

-- differences of two multiples

pub total_difference : (w : List ℕ → ℕ) (ring : Ring) (t : List ℕ) (f : List Term) (s : List ℕ) (g : List Term)
    → total w (difference ring t f s g) ≡ total (λ m. w (product t m)) f + (ring.modulus - 1) * total (λ m. w (product s m)) g
total_difference w ring t f s g =
    total_append w (multiple 1 t f) (multiple (ring.modulus - 1) s g)
    ∙ cc (total_multiple w 1 t f, total_multiple w (ring.modulus - 1) s g, one-mul (total (λ m. w (product t m)) f))

difference_multiple : (ring : Ring) (u t : List ℕ) (f : List Term) (s : List ℕ) (g : List Term)
    → multiple 1 u (difference ring t f s g) ≡ difference ring (product u t) f (product u s) g
difference_multiple ring u t f s g =
    multiple_append 1 u (multiple 1 t f) (multiple (ring.modulus - 1) s g)
    ∙ cc (multiple_multiple 1 1 u t f, multiple_multiple 1 (ring.modulus - 1) u s g, one-mul (ring.modulus - 1))

-- t*f - t*f is 0
difference_same : (ring : Ring) (t : List ℕ) (f : List Term) → 0 < ring.modulus → Alike ring.modulus (difference ring t f t f) []
difference_same ring t f pos = record {
  under = λ w.
      ap (λ n. n % ring.modulus) (total_difference w ring t f t f)
      ∙ (mod_opposite ring.modulus (total (λ m. w (product t m)) f) pos ∙ sym (zero-mod ring.modulus));
}

-- t*f - s*g is -1 times s*g - t*f
difference_back : (w : List ℕ → ℕ) (ring : Ring) (t : List ℕ) (f : List Term) (s : List ℕ) (g : List Term) → 0 < ring.modulus
    → total w (difference ring t f s g) % ring.modulus ≡ ((ring.modulus - 1) * total w (difference ring s g t f)) % ring.modulus
difference_back w ring t f s g pos =
    ap (λ n. n % ring.modulus) (total_difference w ring t f s g)
    ∙ (mod_twice ring.modulus (total (λ m. w (product t m)) f) (total (λ m. w (product s m)) g) pos
    ∙ ap (λ n. ((ring.modulus - 1) * n) % ring.modulus) (sym (total_difference w ring s g t f)))

-- the representation of a difference, times a monomial

module _ (ring : Ring) (G : List (List Term)) (pos : 0 < ring.modulus) (ok : AreMonic ring G) where
  abbrev pub at : ℕ → List Term
  at i = get_or G i []

  pub lead_at_length : (i : ℕ) → i < length G → length (leading_monomial_at G i) ≡ places ring
  lead_at_length i h = lead_length ring (at i) (canonical_at ring G ok.canonical i h) (monic_not_empty (at i) (monic_at G ok.monic i h))

  leads_shifted : (c : ℕ) (t m : List ℕ) (ks : List Summand) → length t ≡ places ring
      → length m ≡ places ring → IsCombination ring G ks → LeadsBelow ring G m ks
      → LeadsBelow ring G (product t m) (shifted_summands c t ks)
  leads_shifted c t m [] l n h b = tt
  leads_shifted c t m (k ∷ ks) l n h b =
      let g : List ℕ = leading_monomial_at G k.place in
      let s : length (product k.monomial g) ≡ places ring = product_length k.monomial g (places ring) h.0 (lead_at_length k.place h.1) in
      let e = compared_shift (order_of ring) t (product k.monomial g) m (l ∙ sym s) (l ∙ sym n) in
      (rw (product_assoc t k.monomial g) (e ∙ b.0), leads_shifted c t m ks l n h.2 b.1)

  represented_multiple : (c : ℕ) (t m : List ℕ) (f : List Term) → length t ≡ places ring → length m ≡ places ring → IsRepresentedBelow ring G m f
      → IsRepresentedBelow ring G (product t m) (multiple c t f)
  represented_multiple c t m f l n h = record {
    summands = shifted_summands c t h.summands;
    combination = combination_shifted ring G c t h.summands l h.combination;
    below = leads_shifted c t m h.summands l n h.combination h.below;
    sum = rw (combined_shifted G c t h.summands) (alike_multiple c t h.sum);
  }

  -- two multiples with the lead m differ by what is represented below m, where the pair has an lcm representation
  pair_represented : (i j : ℕ) (t s m : List ℕ) → i < length G → j < length G
      → HasLcmRepresentation ring G i j → length t ≡ places ring → length s ≡ places ring
      → product t (leading_monomial_at G i) ≡ m → product s (leading_monomial_at G j) ≡ m → IsRepresentedBelow ring G m (difference ring t (at i) s (at j))
  pair_represented i j t s m hi hj pair lt ls et es =
      let a : List ℕ = leading_monomial_at G i in
      let b : List ℕ = leading_monomial_at G j in
      let la = lead_at_length i hi in
      let lb = lead_at_length j hj in
      let q : List ℕ = lcm a b in
      let common : CommonMultiple (places ring) a b t s m = common_multiple (places ring) a b t s m la lb lt ls et es in
      let low : IsRepresentedBelow ring G q (difference ring (quotient q a) (at i) (quotient q b) (at j)) =
      record { summands = pair.summands; combination = pair.combination; below = pair.below; sum = alike_from_coefficients pos pair.sum } in
      let up = represented_multiple 1 common.factor q _ common.long (lcm_length a b (places ring) la lb) low in
      subst (λ k. IsRepresentedBelow ring G k (difference ring t (at i) s (at j))) common.multiple
      (subst (λ f. IsRepresentedBelow ring G (product common.factor q) f)
      (difference_multiple ring common.factor (quotient q a) (at i) (quotient q b) (at j) ∙ cc (common.left, common.right)) up)

  -- the same from the pair in either order
  pub either_represented : (i j : ℕ) (t s m : List ℕ) → i < length G → j < length G
      → HasLcmRepresentation ring G i j ⊎ HasLcmRepresentation ring G j i → length t ≡ places ring
      → length s ≡ places ring
      → product t (leading_monomial_at G i) ≡ m → product s (leading_monomial_at G j) ≡ m → IsRepresentedBelow ring G m (difference ring t (at i) s (at j))
  either_represented i j t s m hi hj (inl pair) lt ls et es = pair_represented i j t s m hi hj pair lt ls et es
  either_represented i j t s m hi hj (inr pair) lt ls et es =
      represented_scaled (ring.modulus - 1) (difference ring t (at i) s (at j)) (λ w.
      difference_back w ring t (at i) s (at j) pos) (pair_represented j i s t m hj hi pair ls lt es et)

  -- each pair of places has an lcm representation
  abbrev pub PairsRepresented : Type 0
  PairsRepresented = (i j : ℕ) → i < j → j < length G → HasLcmRepresentation ring G i j

  -- the same for any two places, also where they are one
  pub places_represented : PairsRepresented → (i j : ℕ) (t s m : List ℕ) → i < length G → j < length G → length t ≡ places ring → length s ≡ places ring
      → product t (leading_monomial_at G i) ≡ m → product s (leading_monomial_at G j) ≡ m → IsRepresentedBelow ring G m (difference ring t (at i) s (at j))
  places_represented pairs i j t s m hi hj lt ls et es = by_places (cases_order i j)
    where
      by_places : (i ≡ j) ⊎ ((i < j) ⊎ (j < i)) → IsRepresentedBelow ring G m (difference ring t (at i) s (at j))
      by_places (inl e) =
          let es' : product s (leading_monomial_at G i) ≡ m = rw (← e) at es in
          let st : t ≡ s = same_factor (leading_monomial_at G i) t s (places ring) (lead_at_length i hi) lt ls (et ∙ sym es') in
          rw (← e, ← st) (represented_alike (difference_same ring t (at i) pos) (represented_zero ring G m))
      by_places (inr (inl l)) = pair_represented i j t s m hi hj (pairs i j l hj) lt ls et es
      by_places (inr (inr l)) = either_represented i j t s m hi hj (inr (pairs j i l hi)) lt ls et es

  -- what is represented below m has no monomial m

  pub all_below_combined : (m : List ℕ) (ks : List Summand) → IsCombination ring G ks → LeadsBelow ring G m ks → AllBelow ring m (combined G ks)
  all_below_combined m [] h b = tt
  all_below_combined m (k ∷ ks) h b =
      all_below_append ring m (multiple k.coefficient k.monomial (at k.place)) (combined G ks)
      (all_below_multiple ring m k.coefficient k.monomial (at k.place) h.0 (canonical_at ring G ok.canonical k.place h.1) b.0)
      (all_below_combined m ks h.2 b.1)

  pub represented_zero_at : (m : List ℕ) (f : List Term) → IsRepresentedBelow ring G m f → total (indicator m) f % ring.modulus ≡ 0
  represented_zero_at m f h =
      h.sum.under (indicator m) ∙ (ap (λ n. n % ring.modulus)
      (all_below_zero ring m (combined G h.summands) (all_below_combined m h.summands h.combination h.below))
      ∙ zero-mod ring.modulus)
