-- A minimal Gröbner basis in ascending order, each member divided by the results before it, becomes the reduced one.
use Rattle.std.proofs.Common.{ℕ, zero, suc, ◌≡◌, ◌+◌, ◌-◌, ◌*◌, ◌%◌, ◌<◌, ◌⊎◌, inl, inr, true, IsTrue, List, [], ◌∷◌, ◌++◌, length, get_or, take, refl, sym, ap}
use Rattle.std.proofs.Common.{◌∙◌, subst, arith}
use Rattle.std.proofs.Math.Nat.{zero-mod, add-zero, zero-add, mod-eq_of_lt}
use Rattle.std.proofs.lemmas.Bool.{cases_order}
use Rattle.std.proofs.lemmas.List.{length-take, get_or-take}
use Rattle.std.specs.declared.cmp.Ordering.{Ordering}
use Rattle.std.specs.declared.cmp.Ordering.TheVariants.{Less, Equal, Greater}
use Rattle.cgs_field.proofs.ModularLemmas.{mod_add, mod_opposite}
use Rattle.cgs_exps.specs.Monomial.{product, divides}
use Rattle.cgs_exps.proofs.MonomialLemmas.{product_length, divides_product}
use Rattle.cgs_order.specs.TermOrder.{compared}
use Rattle.cgs_order.proofs.OrderLemmas.{compared_equal, compared_back, compared_not_self}
use Rattle.cgs_poly.specs.Ring.{Ring}
use Rattle.cgs_poly.specs.Polynomial.{Term, places, order_of, total, indicator, StartsBelow, IsCanonical}
use Rattle.cgs_poly.specs.Product.{leading_monomial, leading_coefficient}
use Rattle.cgs_poly.proofs.SumLemmas.{only_same, total_append}
use Rattle.cgs_poly.proofs.CanonicalLemmas.{above_zero, all_below_zero, all_below_canonical, canonical_of_ring}
use Rattle.cgs_poly.proofs.MultipleLemmas.{monic_not_empty}
use Rattle.cgs_algebra.specs.Combination.{Summand, combined, IsCombination, IsMember}
use Rattle.cgs_algebra.specs.Groebner.{AreMonic, IsMinimal, IsReduced, IsAscending, SomeLeadDivides, DividesNone, leading_monomial_at}
use Rattle.cgs_algebra.specs.SPolynomial.{LeadsBelow}
use Rattle.cgs_algebra.proofs.CombinationLemmas.{scaled_summands, total_scaled_summands}
use Rattle.cgs_algebra.proofs.MemberLemmas.{same_member, sum_member, scaled_member, combined_member}
use Rattle.cgs_algebra.proofs.RepresentationLemmas.{lead_at_length, all_below_combined}
use Rattle.cgs_algebra.proofs.AscendingLemmas.{ascending_at, ascending_by_leads}
use Rattle.cgs_algebra.proofs.UniquenessLemmas.{divides_none_below}
use Rattle.cgs_divide.specs.Division.{HasDivided}
use Rattle.cgs_divide.specs.Autoreduction.{IsDividedAt}
use Rattle.cgs_divide.proofs.QuotientCombinationLemmas.{summands_of, division_combination, division_sum, division_below}
use Rattle.std.specs.List.{AllByRecursion}
use Rattle.cgs_list.proofs.ListLemmas.{all_by_places, all_at_place, all_weaker}
use Rattle.cgs_algebra.proofs.PlaceLemmas.{canonical_at, member_at, not_zero_at, monic_at, lead_place, lead_at_place, leads_apart, of_two_places}

-- a monic polynomial with the lead m
pub record HasLead (m : List ℕ) (f : List Term) : Type 0 where
  pub lead_is : leading_monomial f ≡ m
  pub one : leading_coefficient f ≡ 1

-- a polynomial with the coefficient 1 at m that is below whatever is above m
lead_found : (ring : Ring) (m : List ℕ) (f : List Term) → 1 < ring.modulus → length m ≡ places ring → IsCanonical ring f
    → ((n : List ℕ) → compared (order_of ring) m n ≡ Less → StartsBelow ring n f)
    → total (indicator m) f % ring.modulus ≡ 1 → HasLead m f
lead_found ring m [] two lm h b v = let z : zero ≡ 1 = sym (zero-mod ring.modulus) ∙ v in absurd (omega arith)
lead_found ring m (y ∷ f) two lm h b v = by_order (compared (order_of ring) y.exponents m) refl
  where
    by_order : (o : Ordering) → compared (order_of ring) y.exponents m ≡ o → HasLead m (y ∷ f)
    by_order Greater e = absurd (compared_not_self (order_of ring) y.exponents (b y.exponents (compared_back (order_of ring) y.exponents m e)))
    by_order Less e =
        let z : zero ≡ 1 = sym (ap (λ n. n % ring.modulus) (above_zero ring (y ∷ f) m h e) ∙ zero-mod ring.modulus) ∙ v in
        absurd (omega arith)
    by_order Equal e =
        let s : y.exponents ≡ m = compared_equal (order_of ring) y.exponents m (h.2 ∙ sym lm) e in
        let a : total (indicator m) f ≡ 0 = above_zero ring f m h.4 (subst (λ n. StartsBelow ring n f) s h.3) in
        let c : total (indicator m) (y ∷ f) ≡ y.coefficient = rw (s, only_same m, a) (omega arith) in
        let w : y.coefficient % ring.modulus ≡ 1 = ap (λ n. n % ring.modulus) (sym c) ∙ v in
        record { lead_is = s; one = sym (mod-eq_of_lt h.1) ∙ w }

module _ (ring : Ring) (pos : 0 < ring.modulus) (D : List (List Term)) (ok : AreMonic ring D) where
  -- multiples of polynomials whose leads do not divide m have leads below m, if they are not above it
  multiples_below : (m : List ℕ) → length m ≡ places ring → ((j : ℕ) → j < length D → divides (leading_monomial_at D j) m ≡ true → ⊥)
      → (ks : List Summand) → IsCombination ring D ks → ((n : List ℕ) → compared (order_of ring) m n ≡ Less → LeadsBelow ring D n ks) → LeadsBelow ring D m ks
  multiples_below m lm none [] h b = tt
  multiples_below m lm none (k ∷ ks) h b =
      (by_order (compared (order_of ring) (product k.monomial (leading_monomial_at D k.place)) m) refl, multiples_below m lm none ks h.2 (λ n o. (b n o).1))
    where
      by_order : (o : Ordering) → compared (order_of ring) (product k.monomial (leading_monomial_at D k.place)) m ≡ o
          → compared (order_of ring) (product k.monomial (leading_monomial_at D k.place)) m ≡ Less
      by_order Less e = e
      by_order Equal e =
          let t : List ℕ = product k.monomial (leading_monomial_at D k.place) in
          let l : length t ≡ places ring = product_length k.monomial (leading_monomial_at D k.place) (places ring) h.0
          (lead_at_length ring D pos ok k.place h.1) in
          let s : t ≡ m = compared_equal (order_of ring) t m (l ∙ sym lm) e in
          absurd (none k.place h.1 (subst (λ n. divides (leading_monomial_at D k.place) n ≡ true) s
          (divides_product k.monomial (leading_monomial_at D k.place))))
      by_order Greater e =
          let t : List ℕ = product k.monomial (leading_monomial_at D k.place) in
          absurd (compared_not_self (order_of ring) t (b t (compared_back (order_of ring) t m e)).0)

  -- a division by polynomials whose leads do not divide the lead keeps it
  pub lead_kept : 1 < ring.modulus → (x : Term) (f remainder : List Term) (quotients : List (List Term)) → IsCanonical ring (x ∷ f) → x.coefficient ≡ 1
      → HasDivided ring D (x ∷ f) remainder quotients
      → ((j : ℕ) → j < length D → divides (leading_monomial_at D j) x.exponents ≡ true → ⊥) → HasLead x.exponents remainder
  lead_kept two x f remainder quotients h one d none =
      let m : List ℕ = x.exponents in
      let ks : List Summand = summands_of quotients in
      let fits = division_combination ring D (x ∷ f) remainder quotients d in
      let below = multiples_below m h.2 none ks fits (λ n o. division_below ring D (x ∷ f) remainder quotients d n o) in
      let z : total (indicator m) (combined D ks) ≡ 0 = all_below_zero ring m (combined D ks) (all_below_combined ring D pos ok m ks fits below) in
      let s : total (indicator m) (combined D ks ++ remainder) ≡ total (indicator m) remainder =
      total_append (indicator m) (combined D ks) remainder ∙ (ap (λ n. n + total (indicator m) remainder) z ∙ zero-add (total (indicator m) remainder)) in
      let a : total (indicator m) f ≡ 0 = above_zero ring f m h.4 h.3 in
      let t : total (indicator m) (x ∷ f) ≡ 1 = rw (one, only_same m, a) refl in
      let e = (division_sum ring D (x ∷ f) remainder quotients d pos).under (indicator m) in
      let v : total (indicator m) remainder % ring.modulus ≡ 1 =
      ap (λ n. n % ring.modulus) (sym s) ∙ (sym e ∙ (ap (λ n. n % ring.modulus) t ∙ mod-eq_of_lt two)) in
      lead_found ring m remainder two h.2 d.canonical_remainder (λ n o. (d.below n o).1) v

  pub division_keeps_lead : 1 < ring.modulus → (f remainder : List Term) (quotients : List (List Term)) → IsCanonical ring f → leading_coefficient f ≡ 1
      → HasDivided ring D f remainder quotients → ¬ SomeLeadDivides D (leading_monomial f)
      → (leading_monomial remainder ≡ leading_monomial f) × (leading_coefficient remainder ≡ 1)
  division_keeps_lead two [] remainder quotients h one d none = absurd (omega arith)
  division_keeps_lead two (x ∷ f) remainder quotients h one d none =
      let k = lead_kept two x f remainder quotients h one d (λ j l e. none (lead_at_place D x.exponents j l e)) in
      (k.lead_is, k.one)

  -- what is left of a member after a division by members is a member
  pub remainder_member : (F : List (List Term)) → AllByRecursion (IsMember ring F) D
      → (f remainder : List Term) (quotients : List (List Term))
      → HasDivided ring D f remainder quotients
      → IsMember ring F f → IsMember ring F remainder
  remainder_member F inside f remainder quotients d member =
      let p : ℕ = ring.modulus in
      let ks : List Summand = summands_of quotients in
      let S : List Term = combined D ks in
      let T : List Term = combined D (scaled_summands (p - 1) ks) in
      let sm : IsMember ring F S = combined_member ring D F pos inside ks (division_combination ring D f remainder quotients d) in
      let tm : IsMember ring F T = scaled_member ring F pos (p - 1) S T (λ w. ap (λ n. n % p) (total_scaled_summands w D (p - 1) ks)) sm in
      same_member ring F pos (record {
        under = λ w.
            let a : total w f % p ≡ (total w S + total w remainder) % p =
            (division_sum ring D f remainder quotients d pos).under w ∙ ap (λ n. n % p) (total_append w S remainder) in
            let b : total w (f ++ T) ≡ total w f + (p - 1) * total w S = total_append w f T ∙ ap (λ n. total w f + n) (total_scaled_summands w D (p - 1) ks) in
            sym (ap (λ n. n % p) b ∙ taken_away p (total w f) (total w S) (total w remainder) pos a);
      })
      (sum_member ring F pos f T member tm)
    where
      taken_away : (p f s r : ℕ) → 0 < p → f % p ≡ (s + r) % p → (f + (p - 1) * s) % p ≡ r % p
      taken_away p f s r h e =
          let c : (f + (p - 1) * s) % p ≡ ((s + r) + (p - 1) * s) % p = mod_add p f (s + r) ((p - 1) * s) ((p - 1) * s) e refl in
          let z : (r + (s + (p - 1) * s)) % p ≡ (r + 0) % p = mod_add p r r (s + (p - 1) * s) 0 refl (mod_opposite p s h ∙ sym (zero-mod p)) in
          c ∙ (ap (λ n. n % p) (regroup s r ((p - 1) * s)) ∙ (z ∙ ap (λ n. n % p) (add-zero r)))
        where
          regroup : (s t q : ℕ) → (s + t) + q ≡ t + (s + q)
          regroup s t q = omega arith

module _ (ring : Ring) (F K R : List (List Term)) (two : 1 < ring.modulus) (minimal : IsMinimal ring K F)
    (monic : AreMonic ring K) (ascending : IsAscending ring K) (long : length R ≡ length K)
    (steps : (i : ℕ) → i < length K → IsDividedAt ring K R i) where
  pos : 0 < ring.modulus
  pos = omega arith

  -- the result at a place has the lead of the member there, and is in the ideal
  abbrev Settled : ℕ → Type 0
  Settled i = HasLead (leading_monomial_at K i) (get_or R i []) × IsMember ring F (get_or R i [])

  before_length : (i : ℕ) → i < length K → length (take i R) ≡ i
  before_length i h = omega (arith, length-take i R)

  before_at : (i j : ℕ) → j < i → get_or (take i R) j [] ≡ get_or R j []
  before_at i j h = get_or-take i R j [] h

  all_before : (i : ℕ) → i < length K → (P : List Term → Type 0) → ((j : ℕ) → j < i → P (get_or R j [])) → AllByRecursion P (take i R)
  all_before i h P each = all_by_places P [] (take i R) (λ j l.
      let s : j < i = omega (arith, before_length i h) in
      subst P (sym (before_at i j s)) (each j s))

  before_monic : (i : ℕ) → i < length K → ((j : ℕ) → j < i → Settled j) → AreMonic ring (take i R)
  before_monic i h ih = record {
    canonical = all_before i h (IsCanonical ring) (λ j s. (steps j (omega arith)).divided.canonical_remainder);
    monic = all_before i h (λ q. leading_coefficient q ≡ 1) (λ j s. (ih j s).0.one);
  }

  settle : (i : ℕ) → i < length K → ((j : ℕ) → j < i → Settled j) → Settled i
  settle i h ih = by_member (get_or K i []) refl
    where
      by_member : (f : List Term) → f ≡ get_or K i [] → Settled i
      by_member [] e = absurd (not_zero_at K minimal.groebner.not_zero i h (sym e))
      by_member (x ∷ f) e =
          let q : List (List Term) = (steps i h).quotients in
          let d : HasDivided ring (take i R) (x ∷ f) (get_or R i []) q =
          subst (λ p. HasDivided ring (take i R) p (get_or R i []) q) (sym e) (steps i h).divided in
          let can : IsCanonical ring (x ∷ f) = subst (λ p. IsCanonical ring p) (sym e) (canonical_at ring K monic.canonical i h) in
          let one : x.coefficient ≡ 1 = ap leading_coefficient e ∙ monic_at K monic.monic i h in
          let kept = lead_kept ring pos (take i R) (before_monic i h ih) two x f (get_or R i []) q can one d (λ j l k. apart (ap leading_monomial e) j l k) in
          let member : IsMember ring F (x ∷ f) = subst (λ p. IsMember ring F p) (sym e) (member_at ring F K minimal.groebner.members i h) in (
            record { lead_is = kept.lead_is ∙ ap leading_monomial e; one = kept.one },
            remainder_member ring pos (take i R) (before_monic i h ih) F (all_before i h (IsMember ring F) (λ j s. (ih j s).1))
                (x ∷ f) (get_or R i []) q d member,
          )
        where
          apart : x.exponents ≡ leading_monomial_at K i → (j : ℕ) → j < length (take i R) → divides (leading_monomial_at (take i R) j) x.exponents ≡ true → ⊥
          apart at j l k =
              let s : j < i = omega (arith, before_length i h) in
              let t : leading_monomial_at (take i R) j ≡ leading_monomial_at K j = ap leading_monomial (before_at i j s) ∙ (ih j s).0.lead_is in
              leads_apart K minimal.apart j i (omega arith) h (λ z. omega arith)
              (subst (λ n. divides n (leading_monomial_at K i) ≡ true) t (subst (λ n. divides (leading_monomial_at (take i R) j) n ≡ true) at k))

  settled_below : (n i : ℕ) → i < n → i < length K → Settled i
  settled_below zero i l h = absurd (omega arith)
  settled_below (suc n) i l h = settle i h (λ j k. settled_below n j (omega arith) (omega arith))

  settled : (i : ℕ) → i < length K → Settled i
  settled i h = settled_below (suc i) i (omega arith) h

  within : (i : ℕ) → i < length R → i < length K
  within i h = omega (arith, long)

  lead_same : (i : ℕ) → i < length K → leading_monomial_at R i ≡ leading_monomial_at K i
  lead_same i h = (settled i h).0.lead_is

  result_ascending : IsAscending ring R
  result_ascending = ascending_by_leads ring K R long lead_same ascending

  result_monic : AreMonic ring R
  result_monic = record {
    canonical = all_by_places (IsCanonical ring) [] R (λ i h. (steps i (within i h)).divided.canonical_remainder);
    monic = all_by_places (λ g. leading_coefficient g ≡ 1) [] R (λ i h. (settled i (within i h)).0.one);
  }

  result_minimal : IsMinimal ring R F
  result_minimal = record {
    groebner = record {
      canonical = result_monic.canonical;
      members = all_by_places (IsMember ring F) [] R (λ i h. (settled i (within i h)).1);
      not_zero = all_weaker (λ g. leading_coefficient g ≡ 1) (λ g. ¬ (g ≡ [])) R result_monic.monic monic_not_empty;
      leads = λ f k member some.
          let i = lead_place K (leading_monomial f) (minimal.groebner.leads f k member some) in
          lead_at_place R (leading_monomial f) i.0 (omega (arith, long, i.1))
          (subst (λ n. divides n (leading_monomial f) ≡ true) (sym (lead_same i.0 i.1)) i.2);
    };
    apart = of_two_places (λ f g. ¬ IsTrue (divides (leading_monomial f) (leading_monomial g))) R (λ i j hi hj n d.
        let e : divides (leading_monomial_at R i) (leading_monomial_at K j) ≡ true =
        subst (λ q. divides (leading_monomial_at R i) q ≡ true) (lead_same j (within j hj)) d in
        leads_apart K minimal.apart i j (within i hi) (within j hj) n
        (subst (λ q. divides q (leading_monomial_at K j) ≡ true) (lead_same i (within i hi)) e));
  }

  -- an earlier lead divides no monomial of a remainder, and a later one is above all of them
  result_clear : (i j : ℕ) → i < length R → j < length R → (i ≡ j) ⊎ ((i < j) ⊎ (j < i)) → (i ≡ j → ⊥) → DividesNone (leading_monomial_at R i) (get_or R j [])
  result_clear i j hi hj (inl e) n = absurd (n e)
  result_clear i j hi hj (inr (inl l)) n =
      subst (λ q. DividesNone (leading_monomial q) (get_or R j [])) (before_at j i l)
      (all_at_place (λ g. DividesNone (leading_monomial g) (get_or R j [])) [] (take j R) (steps j (within j hj)).divided.undivided i
      (omega (arith, before_length j (within j hj))))
  result_clear i j hi hj (inr (inr l)) n =
      let g : List Term = get_or R j [] in
      let can : IsCanonical ring g = canonical_at ring R result_monic.canonical j hj in
      let o : compared (order_of ring) (leading_monomial_at R j) (leading_monomial_at R i) ≡ Less = ascending_at ring R result_ascending j i l hi in
      divides_none_below ring (leading_monomial_at R i) g (lead_at_length ring R pos result_monic i hi) (canonical_of_ring ring g can)
      (all_below_canonical ring (leading_monomial_at R i) g can (starts (leading_monomial_at R i) g o))
    where
      starts : (m : List ℕ) (f : List Term) → compared (order_of ring) (leading_monomial f) m ≡ Less → StartsBelow ring m f
      starts m [] o = tt
      starts m (x ∷ f) o = o

  pub autoreduced : IsReduced ring R F × IsAscending ring R
  autoreduced = (
    record {
      minimal = result_minimal;
      monic = result_monic;
      reduced = of_two_places (λ f g. DividesNone (leading_monomial f) g) R (λ i j hi hj n. result_clear i j hi hj (cases_order i j) n);
    },
    result_ascending,
  )
