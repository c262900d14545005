-- At each point where the basis serves, f is in the ideal exactly where all cases vanish.
use Rattle.std.proofs.Common.{ℕ, zero, suc, ◌≡◌, ◌+◌, ◌-◌, ◌*◌, ◌%◌, ◌<◌, ◌≤◌, ◌↔◌, Bool, true, false, cond, ltb, IsTrue, List, [], ◌∷◌, ◌++◌}
use Rattle.std.proofs.Common.{length, get_or, take, drop}
use Rattle.std.proofs.Common.{refl, sym, ap, ◌∙◌, subst, arith}
use Rattle.std.proofs.Math.Nat.{zero-mod, add-zero, mul-zero, one-mul, mod-eq_of_lt}
use Rattle.std.proofs.lemmas.Bool.{ltb-true, ltb-false}
use Rattle.std.proofs.lemmas.List.{length-map}
use Rattle.std.specs.List.{AllByRecursion}
use Rattle.cgs_list.proofs.ListLemmas.{all_at_place, all_by_places, all_weaker}
use Rattle.cgs_field.specs.Prime.{IsField}
use Rattle.cgs_field.proofs.PrimeLemmas.{modulus_field}
use Rattle.cgs_field.proofs.ModularLemmas.{mod_add, mod_mul, mod_opposite}
use Rattle.cgs_exps.specs.Monomial.{divides}
use Rattle.cgs_exps.proofs.MonomialLemmas.{product_length}
use Rattle.cgs_poly.specs.Ring.{Ring}
use Rattle.cgs_poly.specs.Polynomial.{Term, places, total, indicator, IsRing, IsOfRing, IsCanonical, IsPoly, ArePolys, canonical}
use Rattle.cgs_poly.specs.Product.{scaled, all_products, leading_monomial}
use Rattle.cgs_poly.specs.Parameters.{power_at, variables_ring, lead_x, lc_x, part_at, value_at, specialised}
use Rattle.cgs_poly.proofs.RingLemmas.{ring_positive}
use Rattle.cgs_poly.proofs.SumLemmas.{total_append, total_scaled, only_other, coefficients_from_alike}
use Rattle.cgs_poly.proofs.CanonicalLemmas.{canonical_of_ring, is_canonical, lead_not_zero}
use Rattle.cgs_poly.proofs.ProductLemmas.{products_of_ring}
use Rattle.cgs_poly.proofs.MultipleLemmas.{total_none}
use Rattle.cgs_poly.proofs.ParameterLemmas.{lc_x_canonical}
use Rattle.cgs_poly.proofs.SpecialisedLemmas.{at_point}
use Rattle.cgs_algebra.specs.Combination.{IsMember}
use Rattle.cgs_algebra.specs.Groebner.{leading_monomial_at}
use Rattle.cgs_algebra.specs.Specialisation.{specialised_list, AllVanish}
use Rattle.cgs_algebra.proofs.MemberLemmas.{same_member, zero_member, sum_member, scaled_member}
use Rattle.cgs_algebra.proofs.PlaceLemmas.{member_at, lead_place}
use Rattle.cgs_algebra.proofs.WeightLemmas.{Each, total_same, each_append}
use Rattle.cgs_algebra.proofs.PointLemmas.{total_specialised, get_specialised}
use Rattle.cgs_algebra.proofs.PartLemmas.{part_each}
use Rattle.cgs_algebra.proofs.SpecialisedBasisLemmas.{specialised_lead, leading_at}
use Rattle.cgs_divide.specs.Ending.{ended, out_of_budget, out_of_degree}
use Rattle.cgs_divide.proofs.EndingLemmas.{ended_same, past_budget, past_degree, has_followed}
use Rattle.cgs_entry.specs.Bases.{basis_of}
use Rattle.cgs_entry.specs.Entries.{IsBasisAt}
use Rattle.cgs_entry.proofs.BasisLemmas.{basis_polys, sound_at}
use Rattle.cgs_entry.specs.Conditions.{with_members}
use Rattle.cgs_member.specs.declared.reduction.Parts.{Parts}
use Rattle.cgs_member.specs.ReductionRun.{parts, lead_divides, first_divisor, others_at, cancelled, cancelling, moving}
use Rattle.cgs_member.specs.ReductionRun.{cancelling_cost, is_cancelling_too_high, step, reduction_in, reduction}
use Rattle.cgs_member.specs.Cases.{coefficients}
use Rattle.cgs_member.specs.Laws.{IsRemainderAt, ReductionReduces, CasesDecide}
use Rattle.cgs_member.proofs.PartLemmas.{others_canonical}
use Rattle.cgs_member.proofs.RunLemmas.{divisor_divides, none_divides, divisor_some}
use Rattle.cgs_member.proofs.EachLemmas.{each_canonical, Undivided, undivided_products, undivided_part, undivided_terms, undivided_of_ring}
use Rattle.cgs_member.proofs.CongruenceLemmas.{IsCongruent, congruent_first, congruent_moved, congruent_cancelled, leading_free, cancelled_of_ring}
use Rattle.cgs_member.proofs.VanishingLemmas.{special_canonical, cases_vanish}

-- the lead of a polynomial that is not 0
lead_is : (ring : Ring) (b : List Term) (m : List ℕ) → 0 < length b → lead_divides ring b m ≡ divides (lead_x ring b) m
lead_is ring [] m l = absurd (omega arith)
lead_is ring (y ∷ b) m l = refl

some_terms : (f : List Term) → ¬ (f ≡ []) → 0 < length f
some_terms [] n = absurd (n refl)
some_terms (x ∷ f) n = omega arith

-- what the steps keep

module _ (ring : Ring) (B P : List (List Term)) (r_ok : IsRing ring) (B_ok : AllByRecursion (IsCanonical ring) B) where
  pub pos : 0 < ring.modulus
  pos = ring_positive ring r_ok

  pub field : IsField ring.modulus
  field = modulus_field ring.modulus r_ok.modulus

  pub record IsKept (f g r : List Term) : Type 0 where
    pub rest : IsCanonical ring g
    pub remainder : IsCanonical ring r
    pub undivided : Each (Undivided ring B) r
    pub at : (a : List ℕ) → IsBasisAt ring a P B → IsCongruent ring a pos field P f g r

  kept_first : (f : List Term) → IsCanonical ring f → IsKept f f []
  kept_first f h = record { rest = h; remainder = tt; undivided = tt; at = λ a basis. congruent_first ring a pos field P f }

  kept_moved : (f g r : List Term) → length B ≤ first_divisor ring B (lead_x ring g) → IsKept f g r
      → IsKept f (others_at ring (lead_x ring g) g) (canonical ring (r ++ part_at ring (lead_x ring g) g))
  kept_moved f g r none k =
      let hg : IsOfRing ring g = canonical_of_ring ring g k.rest in
      let hr : IsOfRing ring r = canonical_of_ring ring r k.remainder in
      let x : List ℕ = lead_x ring g in
      let un : Each (Undivided ring B) (part_at ring x g) =
      undivided_part ring B x (part_at ring x g) (all_by_places (λ b. lead_divides ring b x ≡ false) [] B (λ i l. none_divides ring B x none i l))
      (part_each ring x g hg) in
      let both : Each (Undivided ring B) (r ++ part_at ring x g) = each_append (Undivided ring B) r (part_at ring x g) k.undivided un in
      record {
        rest = others_canonical ring x g k.rest;
        remainder = is_canonical ring (r ++ part_at ring x g) pos (undivided_of_ring ring B (r ++ part_at ring x g) both);
        undivided = each_canonical (Undivided ring B) ring (r ++ part_at ring x g) both;
        at = λ a basis. congruent_moved ring a pos field P f g r x hg hr (k.at a basis);
      }

  kept_cancelled : (f g r : List Term) (i : ℕ) → i < length B → 0 < length g → lead_divides ring (get_or B i []) (lead_x ring g) ≡ true → IsKept f g r
      → IsKept f (cancelled ring g (get_or B i [])) (canonical ring (all_products (lc_x ring (get_or B i [])) r))
  kept_cancelled f g r i l some d k =
      let b : List Term = get_or B i [] in
      let b_ok : IsCanonical ring b = all_at_place (IsCanonical ring) [] B B_ok i l in
      let hb : IsOfRing ring b = canonical_of_ring ring b b_ok in
      let hr : IsOfRing ring r = canonical_of_ring ring r k.remainder in
      let b_some : 0 < length b = divisor_some ring b (lead_x ring g) d in
      let hd : IsOfRing ring (lc_x ring b) = canonical_of_ring ring (lc_x ring b) (lc_x_canonical ring b b_ok) in
      let un : Each (Undivided ring B) (all_products (lc_x ring b) r) =
      undivided_products ring B (lc_x ring b) r (λ u m p q. product_length u m (places ring) p q) (leading_free ring b hb) k.undivided in
      record {
        rest = is_canonical ring _ pos (cancelled_of_ring ring g b k.rest b_ok some b_some);
        remainder = is_canonical ring (all_products (lc_x ring b) r) pos (products_of_ring ring (lc_x ring b) r hd hr);
        undivided = each_canonical (Undivided ring B) ring (all_products (lc_x ring b) r) un;
        at = λ a basis.
            let inside : IsMember (variables_ring ring) (specialised_list ring a P) (specialised ring a b) =
            subst (IsMember (variables_ring ring) (specialised_list ring a P)) (get_specialised ring a B i)
            (member_at (variables_ring ring) (specialised_list ring a P) (specialised_list ring a B) basis.minimal.groebner.members i
            (omega (arith, length-map B (specialised ring a), l))) in
            congruent_cancelled ring a pos field P f g r b k.rest b_ok hr some b_some (leading_at ring a B basis.leading i l) inside (k.at a basis);
      }

  -- a step that leaves something was one of the two

  step_kept : (f g r : List Term) (p : Parts) (units left : ℕ) → 0 < length g → step ring B units g r ≡ ended p left → IsKept f g r
      → IsKept f p.rest p.remainder
  step_kept f g r p units left some e k =
      by_test (ltb (first_divisor ring B (lead_x ring g)) (length B)) refl e
    where
      ran : (cost : ℕ) (t b : Bool) (q : Parts) → cond t (out_of_budget units) (cond b (out_of_degree (units - cost)) (ended q (units - cost))) ≡ ended p left
          → q ≡ p
      ran cost t b q e =
          (ended_same q p (units - cost) left (past_degree b (units - cost) (ended q (units - cost)) p left
          (past_budget t units (cond b (out_of_degree (units - cost)) (ended q (units - cost))) p left e))).0

      left_by : (q : Parts) → q ≡ p → IsKept f q.rest q.remainder → IsKept f p.rest p.remainder
      left_by q e k = subst (λ (o : Parts). IsKept f o.rest o.remainder) e k

      by_test : (t : Bool) → ltb (first_divisor ring B (lead_x ring g)) (length B) ≡ t
          → cond t (cancelling ring (get_or B (first_divisor ring B (lead_x ring g)) []) units g r) (moving ring units g r) ≡ ended p left
          → IsKept f p.rest p.remainder
      by_test true q e =
          let i : ℕ = first_divisor ring B (lead_x ring g) in
          let b : List Term = get_or B i [] in
          let l : i < length B = ltb-true i (length B) q in
          let o : Parts = parts (cancelled ring g b) (canonical ring (all_products (lc_x ring b) r)) in
          left_by o (ran (cancelling_cost ring g b r) (ltb units (cancelling_cost ring g b r)) (is_cancelling_too_high ring g b r) o e)
          (kept_cancelled f g r i l some (divisor_divides ring B (lead_x ring g) l) k)
      by_test false q e =
          let o : Parts = parts (others_at ring (lead_x ring g) g) (canonical ring (r ++ part_at ring (lead_x ring g) g)) in
          left_by o (ran (length (lc_x ring g)) (ltb units (length (lc_x ring g))) false o e)
          (kept_moved f g r (ltb-false (first_divisor ring B (lead_x ring g)) (length B) q) k)

  run_kept : (n units left : ℕ) (f g r s : List Term) → reduction_in n ring B units g r ≡ ended s left → IsKept f g r → IsKept f [] s
  run_kept zero units left f g r s e k = absurd (cc)
  run_kept (suc n) units left f [] r s e k = subst (λ q. IsKept f [] q) (ended_same r s units left e).0 k
  run_kept (suc n) units left f (x ∷ g) r s e k =
      let w = has_followed (step ring B units (x ∷ g) r) (λ p u. reduction_in n ring B u p.rest p.remainder) s left e in
      run_kept n w.units left f w.first.rest w.first.remainder s w.then (step_kept f (x ∷ g) r w.first units w.units (omega arith) w.ran k)

  pub reduction_kept : (units left : ℕ) (f s : List Term) → IsCanonical ring f → reduction ring B units f [] ≡ ended s left → IsKept f [] s
  unfolding reduction
  reduction_kept units left f s f_ok e = run_kept (suc units) units left f f [] s e (kept_first f f_ok)

  -- at a point, as the law says it

  module _ (f r : List Term) (f_ok : IsCanonical ring f) (k : IsKept f [] r) (a : List ℕ) (basis : IsBasisAt ring a P B) where
    abbrev I : List Term → Type 0
    I g = IsMember (variables_ring ring) (specialised_list ring a P) g

    d : IsCongruent ring a pos field P f [] r
    d = k.at a basis

    hf : IsOfRing ring f
    hf = canonical_of_ring ring f f_ok

    hr : IsOfRing ring r
    hr = canonical_of_ring ring r k.remainder

    -- a multiple of f is the remainder and the member
    sum_is : (w : List ℕ → ℕ) → (d.factor * total w (specialised ring a f)) % ring.modulus ≡ (total w (specialised ring a r) + total w d.rest) % ring.modulus
    sum_is w =
        let W : List ℕ → ℕ = at_point ring a w in
        let i = mod_mul ring.modulus d.factor d.factor (total w (specialised ring a f)) (total W f) refl (total_specialised ring a w f pos hf) in
        let j = mod_add ring.modulus (total W r) (total w (specialised ring a r)) (total w d.rest) (total w d.rest)
        (sym (total_specialised ring a w r pos hr)) refl in
        let z : total W [] + total W r + total w d.rest ≡ total W r + total w d.rest = omega arith in
        i ∙ (d.sum w ∙ (ap (λ n. n % ring.modulus) z ∙ j))

    pub remainder_at : IsRemainderAt ring a P f r
    remainder_at = record {
      factor = d.factor;
      some = d.some;
      rest = d.rest;
      member = d.member;
      sum = coefficients_from_alike (record {
        under = λ w. ap (λ n. n % ring.modulus) (total_scaled w d.factor (specialised ring a f))
            ∙ (sum_is w ∙ ap (λ n. n % ring.modulus) (sym (total_append w (specialised ring a r) d.rest)));
      });
    }

    -- f is in the ideal exactly where the remainder is

    member_forth : I (specialised ring a f) → I (specialised ring a r)
    member_forth h =
        let F : List Term = specialised ring a f in
        let p : ℕ = ring.modulus in
        same_member (variables_ring ring) (specialised_list ring a P) pos (record { under = λ w. sum w })
        (sum_member (variables_ring ring) (specialised_list ring a P) pos (scaled d.factor F) (scaled (ring.modulus - 1) d.rest)
        (scaled_member (variables_ring ring) (specialised_list ring a P) pos d.factor F (scaled d.factor F)
        (λ w. ap (λ n. n % p) (total_scaled w d.factor F)) h)
        (scaled_member (variables_ring ring) (specialised_list ring a P) pos (ring.modulus - 1) d.rest (scaled (ring.modulus - 1) d.rest)
        (λ w. ap (λ n. n % p) (total_scaled w (ring.modulus - 1) d.rest)) d.member))
      where
        sum : (w : List ℕ → ℕ) → total w (specialised ring a r) % ring.modulus
            ≡ total w (scaled d.factor (specialised ring a f) ++ scaled (ring.modulus - 1) d.rest) % ring.modulus
        sum w =
            let R : ℕ = total w (specialised ring a r) in
            let M : ℕ = total w d.rest in
            let i = total_append w (scaled d.factor (specialised ring a f)) (scaled (ring.modulus - 1) d.rest) in
            let j = total_scaled w d.factor (specialised ring a f) in
            let l = total_scaled w (ring.modulus - 1) d.rest in
            let e = mod_add ring.modulus (d.factor * total w (specialised ring a f)) (R + M) ((ring.modulus - 1) * M)
            ((ring.modulus - 1) * M) (sum_is w) refl in
            let o : (R + (M + (ring.modulus - 1) * M)) % ring.modulus ≡ (R + 0) % ring.modulus =
            mod_add ring.modulus R R (M + (ring.modulus - 1) * M) 0 refl (mod_opposite ring.modulus M pos ∙ sym (zero-mod ring.modulus)) in
            let q : (R + M) + (ring.modulus - 1) * M ≡ R + (M + (ring.modulus - 1) * M) = assoc R M ((ring.modulus - 1) * M) in
            sym (ap (λ n. n % ring.modulus) (i ∙ cc (j, l)) ∙ (e ∙ (ap (λ n. n % ring.modulus) q ∙ (o ∙ ap (λ n. n % ring.modulus) (add-zero R)))))
          where
            assoc : (x y z : ℕ) → (x + y) + z ≡ x + (y + z)
            assoc x y z = omega arith

    member_back : I (specialised ring a r) → I (specialised ring a f)
    member_back h =
        scaled_member (variables_ring ring) (specialised_list ring a P) pos inverse.0 (specialised ring a r ++ d.rest) (specialised ring a f) sum
        (sum_member (variables_ring ring) (specialised_list ring a P) pos (specialised ring a r) d.rest h d.member)
      where
        inverse : (c : ℕ) × ((d.factor * c) % ring.modulus ≡ 1)
        inverse = field.inverse d.factor d.some

        sum : (w : List ℕ → ℕ) → total w (specialised ring a f) % ring.modulus ≡ (inverse.0 * total w (specialised ring a r ++ d.rest)) % ring.modulus
        sum w =
            let u : ℕ = inverse.0 in
            let T : ℕ = total w (specialised ring a f) in
            let one : (d.factor * u) % ring.modulus ≡ 1 % ring.modulus = inverse.1 ∙ sym (mod-eq_of_lt field.two) in
            let i : ((d.factor * u) * T) % ring.modulus ≡ (1 * T) % ring.modulus = mod_mul ring.modulus (d.factor * u) 1 T T one refl in
            let j = mod_mul ring.modulus u u (d.factor * T) (total w (specialised ring a r) + total w d.rest) refl (sum_is w) in
            let q : u * (d.factor * T) ≡ (d.factor * u) * T = omega arith in
            let s = ap (λ n. (u * n) % ring.modulus) (total_append w (specialised ring a r) d.rest) in
            ap (λ n. n % ring.modulus) (sym (one-mul T)) ∙ (sym i ∙ (ap (λ n. n % ring.modulus) (sym q) ∙ (j ∙ sym s)))

    -- a remainder in the ideal is 0, since no lead divides its monomials
    remainder_zero : I (specialised ring a r) → specialised ring a r ≡ []
    remainder_zero h = by_form (specialised ring a r) refl
      where
        by_form : (s : List Term) → specialised ring a r ≡ s → s ≡ []
        by_form [] e = refl
        by_form (y ∷ l) e = absurd (lead_not_zero (variables_ring ring) y l c nothing)
          where
            c : IsCanonical (variables_ring ring) (y ∷ l)
            c = subst (IsCanonical (variables_ring ring)) e (special_canonical ring a pos r hr)

            place : (i : ℕ) × (i < length (specialised_list ring a B)) × IsTrue (divides (leading_monomial_at (specialised_list ring a B) i) y.exponents)
            place = lead_place (specialised_list ring a B) y.exponents (basis.minimal.groebner.leads (y ∷ l) c (subst I e h) (λ z. cc))

            j : ℕ
            j = place.0

            j_in : j < length B
            j_in = omega (arith, length-map B (specialised ring a), place.1)

            b : List Term
            b = get_or B j []

            b_ok : IsCanonical ring (get_or B j [])
            b_ok = all_at_place (IsCanonical ring) [] B B_ok j j_in

            stands : ¬ (value_at ring a (lc_x ring (get_or B j [])) ≡ 0)
            stands = leading_at ring a B basis.leading j j_in

            b_some : 0 < length (get_or B j [])
            b_some = some_terms (get_or B j []) (λ z. stands (ap (λ g. value_at ring a (lc_x ring g)) z ∙ zero-mod ring.modulus))

            lead : leading_monomial_at (specialised_list ring a B) j ≡ lead_x ring (get_or B j [])
            lead = ap leading_monomial (get_specialised ring a B j) ∙ specialised_lead ring a pos (get_or B j []) b_ok stands

            divided : lead_divides ring (get_or B j []) y.exponents ≡ true
            divided = lead_is ring (get_or B j []) y.exponents b_some ∙ (ap (λ m. divides m y.exponents) (sym lead) ∙ place.2)

            other : (m : List ℕ) → Undivided ring B m → y.exponents ≡ take ring.variables m → ⊥
            other m u q =
                let no_lead = all_at_place (λ g. lead_divides ring g (take ring.variables m) ≡ false) [] B u.1 j j_in in
                let both : true ≡ false = sym divided ∙ (ap (lead_divides ring (get_or B j [])) q ∙ no_lead) in
                absurd (cc)

            nothing : total (indicator y.exponents) (y ∷ l) % ring.modulus ≡ 0
            nothing =
                ap (λ s. total (indicator y.exponents) s % ring.modulus) (sym e)
                ∙ (total_specialised ring a (indicator y.exponents) r pos hr
                ∙ (ap (λ n. n % ring.modulus) (total_same (Undivided ring B) (at_point ring a (indicator y.exponents)) (λ m. 0) r k.undivided
                (λ m u. rw (only_other y.exponents (take ring.variables m) (other m u)) (mul-zero (power_at (drop ring.variables m) a))) ∙ total_none r)
                ∙ zero-mod ring.modulus))

    pub member_decided : I (specialised ring a f) ↔ AllVanish ring a (with_members ring [] (coefficients ring r))
    member_decided =
        let cases = cases_vanish ring a r_ok r k.remainder in (
          λ h. cases.1 (remainder_zero (member_forth h)),
          λ v. member_back (subst I (sym (cases.0 v)) (zero_member (variables_ring ring) (specialised_list ring a P) pos)),
        )

-- the laws

polys_canonical : (ring : Ring) (B : List (List Term)) → ArePolys ring B → AllByRecursion (IsCanonical ring) B
polys_canonical ring B h = all_weaker (IsPoly ring) (IsCanonical ring) B h (λ f k. k.canonical)

pub reduction_reduces : ReductionReduces
reduction_reduces ring B P units left f r r_ok B_ok f_ok e =
    let k = reduction_kept ring B P r_ok (polys_canonical ring B B_ok) units left f r f_ok.canonical e in (
      undivided_terms ring B r k.undivided,
      λ a basis. remainder_at ring B P r_ok (polys_canonical ring B B_ok) f r f_ok.canonical k a basis,
    )

pub cases_decide : CasesDecide
cases_decide ring entry units left f cases r_ok entry_ok solved f_ok e polys a sound p inside =
    let B : List (List Term) = basis_of entry.kind in
    let B_ok = polys_canonical ring B (basis_polys ring entry.kind entry_ok.found) in
    let w = has_followed (reduction ring B units f []) (λ r. ended (with_members ring [] (coefficients ring r))) cases left e in
    let k = reduction_kept ring B polys r_ok B_ok units w.units f w.first f_ok.canonical w.ran in
    let basis = sound_at ring polys a entry sound p inside entry.kind refl solved in
    subst (λ L. IsMember (variables_ring ring) (specialised_list ring a polys) (specialised ring a f) ↔ AllVanish ring a L)
    (ended_same (with_members ring [] (coefficients ring w.first)) cases w.units left w.then).0
    (member_decided ring B polys r_ok B_ok f w.first f_ok.canonical k a basis)
