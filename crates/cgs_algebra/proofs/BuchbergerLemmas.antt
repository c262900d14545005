-- Buchberger's criterion (Cox, Little, O'Shea, chapter 2, section 6, theorem 6, with lcm representations as in section 9; Becker, Weispfenning,
-- theorem 5.64). A combination whose multiples have leads up to m is changed into one with leads below m, or into one multiple with the lead m
-- and such a rest. In the first case m falls. In the second m is the lead of the sum, unless the coefficient of that multiple is 0.
use Rattle.std.proofs.Common.{ℕ, ◌≡◌, ◌+◌, ◌-◌, ◌*◌, ◌%◌, ◌<◌, ◌⊎◌, inl, inr, Bool, true, false, List, [], ◌∷◌, ◌++◌, length, get_or, refl, sym, ap, ◌∙◌, subst}
use Rattle.std.proofs.Common.{arith, eqb}
use Rattle.std.proofs.Math.Nat.{zero-mod, zero-mul, zero-add, add-zero, mul-one}
use Rattle.std.proofs.lemmas.Bool.{eqb-true, eqb-false}
use Rattle.std.specs.declared.cmp.Ordering.{Ordering}
use Rattle.std.specs.declared.cmp.Ordering.TheVariants.{Less, Equal, Greater}
use Rattle.cgs_exps.specs.Monomial.{product, divides}
use Rattle.cgs_exps.proofs.MonomialLemmas.{product_length, divides_product}
use Rattle.cgs_order.specs.TermOrder.{compared}
use Rattle.cgs_order.proofs.OrderLemmas.{compared_equal, compared_trans, compared_back, compared_induction}
use Rattle.cgs_poly.specs.Ring.{Ring}
use Rattle.cgs_poly.specs.Polynomial.{Term, places, order_of, total, indicator, IsCanonical}
use Rattle.cgs_poly.specs.Product.{multiple, leading_monomial}
use Rattle.cgs_poly.proofs.SumLemmas.{Alike, alike_same, alike_trans, alike_append, alike_from_coefficients, total_append}
use Rattle.cgs_poly.proofs.CanonicalLemmas.{above_zero, all_below_zero, lead_not_zero, same_canonical}
use Rattle.cgs_poly.proofs.MultipleLemmas.{multiple_lead}
use Rattle.cgs_algebra.specs.Combination.{Summand, summand, combined, IsCombination, IsMember}
use Rattle.cgs_algebra.specs.Groebner.{AreMonic, leading_monomial_at, SomeLeadDivides}
use Rattle.cgs_algebra.specs.SPolynomial.{LeadsBelow, difference}
use Rattle.cgs_algebra.proofs.RepresentationLemmas.{IsRepresentedBelow, represented_zero, represented_alike, represented_append, represented_scaled}
use Rattle.cgs_algebra.proofs.RepresentationLemmas.{represented_one, total_difference, lead_at_length, PairsRepresented, places_represented, all_below_combined}
use Rattle.cgs_algebra.proofs.RepresentationLemmas.{represented_zero_at}
use Rattle.cgs_poly.proofs.ProductLemmas.{total_multiple}
use Rattle.cgs_field.proofs.ModularLemmas.{mod_add, mod_mul, mod_gather}
use Rattle.cgs_algebra.proofs.PlaceLemmas.{canonical_at, monic_at, lead_at_place}

-- sums in another order

alike_past : (p : ℕ) (f g h : List Term) → Alike p (f ++ (g ++ h)) (g ++ (f ++ h))
alike_past p f g h = record {
  under = λ w.
      let e : total w (f ++ (g ++ h)) ≡ total w (g ++ (f ++ h)) =
      omega (arith, total_append w f (g ++ h), total_append w g h, total_append w g (f ++ h), total_append w f h) in
      ap (λ n. n % p) e;
}

-- c times t*f - s*g
abbrev scaled_difference : Ring → ℕ → List ℕ → List Term → List ℕ → List Term → List Term
scaled_difference ring c t f s g = multiple c t f ++ multiple ((ring.modulus - 1) * c) s g

total_scaled_difference : (w : List ℕ → ℕ) (ring : Ring) (c : ℕ) (t : List ℕ) (f : List Term) (s : List ℕ) (g : List Term)
    → total w (scaled_difference ring c t f s g) ≡ c * total (λ m. w (product t m)) f + ((ring.modulus - 1) * c) * total (λ m. w (product s m)) g
total_scaled_difference w ring c t f s g =
    total_append w (multiple c t f) (multiple ((ring.modulus - 1) * c) s g) ∙ cc (total_multiple w c t f, total_multiple w ((ring.modulus - 1) * c) s g)

difference_scaled : (w : List ℕ → ℕ) (ring : Ring) (c : ℕ) (t : List ℕ) (f : List Term) (s : List ℕ) (g : List Term)
    → total w (scaled_difference ring c t f s g) ≡ c * total w (difference ring t f s g)
difference_scaled w ring c t f s g =
    total_scaled_difference w ring c t f s g
    ∙ (spread_out (ring.modulus - 1) c (total (λ m. w (product t m)) f) (total (λ m. w (product s m)) g)
    ∙ ap (λ n. c * n) (sym (total_difference w ring t f s g)))
  where
    spread_out : (q c x y : ℕ) → c * x + (q * c) * y ≡ c * (x + q * y)
    spread_out q c x y = omega arith

-- c*t*f + d*s*g is (c + d)*s*g and c times t*f - s*g
exchanged : (ring : Ring) (c d : ℕ) (t : List ℕ) (f : List Term) (s : List ℕ) (g h : List Term) → 0 < ring.modulus
    → Alike ring.modulus (multiple c t f ++ (multiple d s g ++ h)) (multiple (c + d) s g ++ (scaled_difference ring c t f s g ++ h))
exchanged ring c d t f s g h pos = record {
  under = λ w.
      let D : List Term = scaled_difference ring c t f s g in
      let x : ℕ = total (λ m. w (product t m)) f in
      let y : ℕ = total (λ m. w (product s m)) g in
      let left : total w (multiple c t f ++ (multiple d s g ++ h)) ≡ c * x + (d * y + total w h) =
      total_append w (multiple c t f) (multiple d s g ++ h) ∙ cc (total_multiple w c t f, total_append w (multiple d s g) h, total_multiple w d s g) in
      let right : total w (multiple (c + d) s g ++ (D ++ h)) ≡ (c + d) * y + ((c * x + ((ring.modulus - 1) * c) * y) + total w h) =
      total_append w (multiple (c + d) s g) (D ++ h) ∙ cc (total_multiple w (c + d) s g, total_append w D h, total_scaled_difference w ring c t f s g) in
      ap (λ n. n % ring.modulus) left ∙ (mod_gather ring.modulus c x y d (total w h) pos ∙ ap (λ n. n % ring.modulus) (sym right));
}

-- a multiple with a coefficient that is 0 modulo p
without_zero : (p c : ℕ) (t : List ℕ) (f g : List Term) → c % p ≡ 0 → Alike p (multiple c t f ++ g) g
without_zero p c t f g z = record {
  under = λ w.
      let x : ℕ = total (λ n. w (product t n)) f in
      let s : total w (multiple c t f ++ g) ≡ c * x + total w g = total_append w (multiple c t f) g ∙ cc (total_multiple w c t f) in
      let k : (c * x) % p ≡ 0 % p = mod_mul p c 0 x x (z ∙ sym (zero-mod p)) refl ∙ ap (λ n. n % p) (zero-mul x) in
      ap (λ n. n % p) s ∙ (mod_add p (c * x) 0 (total w g) (total w g) k refl ∙ ap (λ n. n % p) (zero-add (total w g)));
}

module _ (ring : Ring) (G : List (List Term)) (pos : 0 < ring.modulus) (ok : AreMonic ring G) where
  abbrev at : ℕ → List Term
  at i = get_or G i []

  abbrev multiple_of : Summand → List Term
  multiple_of k = multiple k.coefficient k.monomial (at k.place)

  abbrev lead_of : Summand → List ℕ
  lead_of k = product k.monomial (leading_monomial_at G k.place)

  lead_of_length : (k : Summand) → length k.monomial ≡ places ring → k.place < length G → length (lead_of k) ≡ places ring
  lead_of_length k l h = product_length k.monomial (leading_monomial_at G k.place) (places ring) l (lead_at_length ring G pos ok k.place h)

  -- one multiple with the lead m, and a rest that is represented below m
  record HasTop (m : List ℕ) (f : List Term) : Type 0 where
    top : Summand
    place : top.place < length G
    long : length top.monomial ≡ places ring
    leads : lead_of top ≡ m
    rest : List Term
    low : IsRepresentedBelow ring G m rest
    sum : Alike ring.modulus f (multiple_of top ++ rest)

  -- the multiples have leads up to m
  abbrev LeadsUpTo : List ℕ → List Summand → Type 0
  LeadsUpTo m [] = Unit {0}
  LeadsUpTo m (k ∷ ks) = ((compared (order_of ring) (lead_of k) m ≡ Less) ⊎ (lead_of k ≡ m)) × LeadsUpTo m ks

  -- two multiples with the lead m make one, and a rest
  two_tops : PairsRepresented ring G pos ok → (m : List ℕ) (k : Summand) (f : List Term)
      → length k.monomial ≡ places ring → k.place < length G → lead_of k ≡ m → HasTop m f
      → HasTop m (multiple_of k ++ f)
  two_tops pairs m k f l h e t =
      let D : List Term = scaled_difference ring k.coefficient k.monomial (at k.place) t.top.monomial (at t.top.place) in
      let d : IsRepresentedBelow ring G m (difference ring k.monomial (at k.place) t.top.monomial (at t.top.place)) =
      places_represented ring G pos ok pairs k.place t.top.place k.monomial t.top.monomial m h t.place l t.long e t.leads in
      record {
        top = summand (k.coefficient + t.top.coefficient) t.top.monomial t.top.place;
        place = t.place;
        long = t.long;
        leads = t.leads;
        rest = D ++ t.rest;
        low = represented_append
            (represented_scaled k.coefficient D (λ w.
            ap (λ n. n % ring.modulus) (difference_scaled w ring k.coefficient k.monomial (at k.place) t.top.monomial (at t.top.place))) d) t.low;
        sum = alike_trans (alike_append (alike_same ring.modulus (multiple_of k)) t.sum)
            (exchanged ring k.coefficient t.top.coefficient k.monomial (at k.place) t.top.monomial (at t.top.place) t.rest pos);
      }

  top_or_low : PairsRepresented ring G pos ok → (m : List ℕ) (ks : List Summand) → IsCombination ring G ks → LeadsUpTo m ks
      → IsRepresentedBelow ring G m (combined G ks) ⊎ HasTop m (combined G ks)
  top_or_low pairs m [] h u = inl (represented_zero ring G m)
  top_or_low pairs m (k ∷ ks) h u = by_lead u.0 (top_or_low pairs m ks h.2 u.1)
    where
      by_lead : (compared (order_of ring) (lead_of k) m ≡ Less) ⊎ (lead_of k ≡ m) → IsRepresentedBelow ring G m (combined G ks) ⊎ HasTop m (combined G ks)
          → IsRepresentedBelow ring G m (combined G (k ∷ ks)) ⊎ HasTop m (combined G (k ∷ ks))
      by_lead (inl b) (inl low) = inl (represented_append (represented_one ring G m k h.0 h.1 b) low)
      by_lead (inl b) (inr t) = inr (record {
        top = t.top;
        place = t.place;
        long = t.long;
        leads = t.leads;
        rest = multiple_of k ++ t.rest;
        low = represented_append (represented_one ring G m k h.0 h.1 b) t.low;
        sum = alike_trans (alike_append (alike_same ring.modulus (multiple_of k)) t.sum) (alike_past ring.modulus (multiple_of k) (multiple_of t.top) t.rest);
      })
      by_lead (inr e) (inl low) =
          inr (record { top = k; place = h.1; long = h.0; leads = e; rest = combined G ks; low = low; sum = alike_same ring.modulus (combined G (k ∷ ks)) })
      by_lead (inr e) (inr t) = inr (two_tops pairs m k (combined G ks) h.0 h.1 e t)

  below_higher : (m n : List ℕ) (ks : List Summand) → LeadsUpTo m ks → compared (order_of ring) m n ≡ Less → LeadsBelow ring G n ks
  below_higher m n [] u l = tt
  below_higher m n (k ∷ ks) u l = (higher u.0, below_higher m n ks u.1 l)
    where
      higher : (compared (order_of ring) (lead_of k) m ≡ Less) ⊎ (lead_of k ≡ m) → compared (order_of ring) (lead_of k) n ≡ Less
      higher (inl a) = compared_trans (order_of ring) (lead_of k) m n a l
      higher (inr e) = subst (λ x. compared (order_of ring) x n ≡ Less) (sym e) l

  up_to_from_below : (n : List ℕ) (ks : List Summand) → LeadsBelow ring G n ks → LeadsUpTo n ks
  up_to_from_below n [] b = tt
  up_to_from_below n (k ∷ ks) b = (inl b.0, up_to_from_below n ks b.1)

  -- the highest lead of the multiples
  record Highest (ks : List Summand) : Type 0 where
    bound : List ℕ
    long : length bound ≡ places ring
    holds : LeadsUpTo bound ks
    below : (m : List ℕ) → LeadsBelow ring G m ks → compared (order_of ring) bound m ≡ Less

  higher_of : (k : Summand) (ks : List Summand) → length (lead_of k) ≡ places ring → (h : Highest ks)
      → (o : Ordering) → compared (order_of ring) (lead_of k) h.bound ≡ o
      → Highest (k ∷ ks)
  higher_of k ks l h Less e = record { bound = h.bound; long = h.long; holds = (inl e, h.holds); below = λ m b. h.below m b.1 }
  higher_of k ks l h Equal e =
      record {
        bound = h.bound;
        long = h.long;
        holds =
            (inr (compared_equal (order_of ring) (lead_of k) h.bound (l ∙ sym h.long) e), h.holds);
        below = λ m b. h.below m b.1;
      }
  higher_of k ks l h Greater e = record {
    bound = lead_of k;
    long = l;
    holds = (inr refl, up_to_from_below (lead_of k) ks (below_higher h.bound (lead_of k) ks h.holds (compared_back (order_of ring) (lead_of k) h.bound e)));
    below = λ m b. b.0;
  }

  highest : (k : Summand) (ks : List Summand) → IsCombination ring G (k ∷ ks) → Highest (k ∷ ks)
  highest k [] h = record { bound = lead_of k; long = lead_of_length k h.0 h.1; holds = (inr refl, tt); below = λ m b. b.0 }
  highest k (l ∷ ks) h =
      let rest : Highest (l ∷ ks) = highest l ks h.2 in
      higher_of k (l ∷ ks) (lead_of_length k h.0 h.1) rest (compared (order_of ring) (lead_of k) rest.bound) refl

  -- a polynomial with a coefficient at m that is not 0, and equal to a combination with leads up to m, has the lead m
  lead_is : (m : List ℕ) (ks : List Summand) → length m ≡ places ring → IsCombination ring G ks → LeadsUpTo m ks
      → (f : List Term) → IsCanonical ring f → Alike ring.modulus f (combined G ks) → (total (indicator m) f % ring.modulus ≡ 0 → ⊥) → leading_monomial f ≡ m
  lead_is m ks lm h u [] k a some = absurd (some (zero-mod ring.modulus))
  lead_is m ks lm h u (x ∷ f) k a some = by_order (compared (order_of ring) x.exponents m) refl
    where
      by_order : (o : Ordering) → compared (order_of ring) x.exponents m ≡ o → x.exponents ≡ m
      by_order Equal e = compared_equal (order_of ring) x.exponents m (k.2 ∙ sym lm) e
      by_order Less e = absurd (some (ap (λ n. n % ring.modulus) (above_zero ring (x ∷ f) m k e) ∙ zero-mod ring.modulus))
      by_order Greater e =
          let n : List ℕ = x.exponents in
          let b = below_higher m n ks u (compared_back (order_of ring) n m e) in
          let z : total (indicator n) (combined G ks) ≡ 0 = all_below_zero ring n (combined G ks) (all_below_combined ring G pos ok n ks h b) in
          absurd (lead_not_zero ring x f k (a.under (indicator n) ∙ (ap (λ i. i % ring.modulus) z ∙ zero-mod ring.modulus)))

  -- the coefficient at m is that of the one multiple
  top_coefficient : (m : List ℕ) (f : List Term) → (t : HasTop m f) → total (indicator m) f % ring.modulus ≡ t.top.coefficient % ring.modulus
  top_coefficient m f t =
      let c : ℕ = t.top.coefficient in
      let one : total (indicator m) (multiple_of t.top) ≡ c =
      subst (λ n. total (indicator n) (multiple_of t.top) ≡ c) t.leads
      (multiple_lead ring c t.top.monomial (at t.top.place) t.long (canonical_at ring G ok.canonical t.top.place t.place)
      ∙ (ap (λ n. c * n) (monic_at G ok.monic t.top.place t.place) ∙ mul-one c)) in
      let s : total (indicator m) (multiple_of t.top ++ t.rest) ≡ c + total (indicator m) t.rest =
      total_append (indicator m) (multiple_of t.top) t.rest ∙ ap (λ n. n + total (indicator m) t.rest) one in
      let z : total (indicator m) t.rest % ring.modulus ≡ 0 % ring.modulus = represented_zero_at ring G pos ok m t.rest t.low ∙ sym (zero-mod ring.modulus) in
      t.sum.under (indicator m)
      ∙ (ap (λ n. n % ring.modulus) s ∙ (mod_add ring.modulus c c (total (indicator m) t.rest) 0 refl z ∙ ap (λ n. n % ring.modulus) (add-zero c)))

  -- each polynomial other than 0 that is a combination with leads up to m
  abbrev Claim : List ℕ → Type 0
  Claim m = (f : List Term) → IsCanonical ring f → (f ≡ [] → ⊥) → (ks : List Summand) → IsCombination ring G ks
      → LeadsUpTo m ks → Alike ring.modulus f (combined G ks) → SomeLeadDivides G (leading_monomial f)

  -- by the highest lead of a combination
  from_highest : (f : List Term) → IsCanonical ring f → (f ≡ [] → ⊥) → (ks : List Summand) → IsCombination ring G ks → Alike ring.modulus f (combined G ks)
      → ((n : List ℕ) → length n ≡ places ring → ((m : List ℕ) → LeadsBelow ring G m ks → compared (order_of ring) n m ≡ Less) → Claim n)
      → SomeLeadDivides G (leading_monomial f)
  from_highest f k some [] h a claim = absurd (some (same_canonical ring f [] k tt a))
  from_highest f k some (l ∷ ks) h a claim = let top = highest l ks h in claim top.bound top.long top.below f k some (l ∷ ks) h top.holds a

  claim_step : PairsRepresented ring G pos ok → (m : List ℕ) → length m ≡ places ring
      → ((n : List ℕ) → length n ≡ places ring → compared (order_of ring) n m ≡ Less → Claim n)
      → Claim m
  claim_step pairs m lm smaller f k some ks h u a = by_top (top_or_low pairs m ks h u)
    where
      down : IsRepresentedBelow ring G m f → SomeLeadDivides G (leading_monomial f)
      down low = from_highest f k some low.summands low.combination low.sum (λ n l b. smaller n l (b m low.below))

      by_coefficient : (t : HasTop m (combined G ks)) → (b : Bool) → eqb (t.top.coefficient % ring.modulus) 0 ≡ b → SomeLeadDivides G (leading_monomial f)
      by_coefficient t true e =
          let z = eqb-true (t.top.coefficient % ring.modulus) 0 e in
          down (represented_alike (alike_trans a (alike_trans t.sum (without_zero ring.modulus t.top.coefficient t.top.monomial (at t.top.place) t.rest z)))
          t.low)
      by_coefficient t false e =
          let nz = eqb-false (t.top.coefficient % ring.modulus) 0 e in
          let l : leading_monomial f ≡ m = lead_is m ks lm h u f k a (λ z. nz (sym (a.under (indicator m) ∙ top_coefficient m (combined G ks) t) ∙ z)) in
          lead_at_place G (leading_monomial f) t.top.place t.place
          (rw l (subst (λ n. divides (leading_monomial_at G t.top.place) n ≡ true) t.leads
          (divides_product t.top.monomial (leading_monomial_at G t.top.place))))

      by_top : IsRepresentedBelow ring G m (combined G ks) ⊎ HasTop m (combined G ks) → SomeLeadDivides G (leading_monomial f)
      by_top (inl low) = down (represented_alike a low)
      by_top (inr t) = by_coefficient t (eqb (t.top.coefficient % ring.modulus) 0) refl

  pub buchberger : PairsRepresented ring G pos ok → (f : List Term) → IsCanonical ring f → IsMember ring G f → (f ≡ [] → ⊥)
      → SomeLeadDivides G (leading_monomial f)
  buchberger pairs f k member some =
      from_highest f k some member.summands member.combination (alike_from_coefficients pos member.sum)
      (λ n l b. compared_induction (order_of ring) Claim (claim_step pairs) n l)
