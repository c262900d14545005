-- What the steps of a reduction keep at a point: a multiple of f, by a number other than 0, is what is left, the remainder so far and a member of
-- the specialised ideal.
use Rattle.std.proofs.Common.{ℕ, ◌≡◌, ◌+◌, ◌-◌, ◌*◌, ◌%◌, ◌<◌, ◌⊎◌, inl, inr, List, [], ◌∷◌, ◌++◌, length, take, drop, replicate, refl, sym, ap, ◌∙◌, arith}
use Rattle.std.proofs.Math.Nat.{zero-mod, add-zero, mod-eq_of_lt, mul_assoc}
use Rattle.std.proofs.lemmas.List.{length-append, length-replicate, drop_at}
use Rattle.cgs_field.specs.Prime.{IsField}
use Rattle.cgs_field.proofs.ModularLemmas.{mod_add, mod_mul, mod_opposite}
use Rattle.cgs_exps.specs.Monomial.{product, quotient}
use Rattle.cgs_exps.proofs.MonomialLemmas.{quotient_length}
use Rattle.cgs_poly.specs.Ring.{Ring}
use Rattle.cgs_poly.specs.Polynomial.{Term, places, total, IsOfRing, IsCanonical, canonical}
use Rattle.cgs_poly.specs.Product.{scaled, multiple, all_products}
use Rattle.cgs_poly.specs.Parameters.{power_at, variables_ring, lead_x, lc_x, part_at, value_at, specialised}
use Rattle.cgs_poly.proofs.SumLemmas.{total_append, total_scaled}
use Rattle.cgs_poly.proofs.CanonicalLemmas.{canonical_alike, canonical_of_ring, append_of_ring}
use Rattle.cgs_poly.proofs.ProductLemmas.{multiple_of_ring, products_of_ring, total_multiple}
use Rattle.cgs_poly.proofs.ParameterLemmas.{lc_x_canonical}
use Rattle.cgs_poly.proofs.SpecialisedLemmas.{at_point, power_zeros, variables_length, total_at_multiple}
use Rattle.cgs_algebra.specs.Combination.{IsMember}
use Rattle.cgs_algebra.specs.Specialisation.{specialised_list}
use Rattle.cgs_algebra.proofs.FieldLemmas.{no_zero_divisors}
use Rattle.cgs_algebra.proofs.MemberLemmas.{zero_member, sum_member, multiple_member, scaled_member}
use Rattle.cgs_algebra.proofs.WeightLemmas.{Each}
use Rattle.cgs_algebra.proofs.PointLemmas.{IsFree, power_weight, products_at_point, total_specialised}
use Rattle.cgs_algebra.proofs.PartLemmas.{HasVariables, part_total, part_each, strip_each}
use Rattle.cgs_member.specs.ReductionRun.{others_at, lead_quotient, cancelled}
use Rattle.cgs_member.proofs.PartLemmas.{others_rest}

-- the leading coefficient has no variables
pub leading_free : (ring : Ring) (f : List Term) → IsOfRing ring f → Each (IsFree ring) (lc_x ring f)
leading_free ring f h = strip_each ring (lead_x ring f) (part_at ring (lead_x ring f) f) (part_each ring (lead_x ring f) f h)

part_ring : (ring : Ring) (x : List ℕ) (f : List Term) → Each (HasVariables ring x) f → IsOfRing ring f
part_ring ring x [] h = tt
part_ring ring x (y ∷ f) h = (h.0.0, part_ring ring x f h.1)

pub part_of_ring : (ring : Ring) (x : List ℕ) (f : List Term) → IsOfRing ring f → IsOfRing ring (part_at ring x f)
part_of_ring ring x f h = part_ring ring x (part_at ring x f) (part_each ring x f h)

-- the monomial that lifts b to g

pub lead_x_long : (ring : Ring) (f : List Term) → IsCanonical ring f → 0 < length f → length (lead_x ring f) ≡ ring.variables
lead_x_long ring [] h l = absurd (omega arith)
lead_x_long ring (y ∷ f) h l = variables_length ring y.exponents h.2

module _ (ring : Ring) (g b : List Term) (g_ok : IsCanonical ring g) (b_ok : IsCanonical ring b) (g_some : 0 < length g) (b_some : 0 < length b) where
  variables_quotient : length (quotient (lead_x ring g) (lead_x ring b)) ≡ ring.variables
  variables_quotient = quotient_length (lead_x ring g) (lead_x ring b) ring.variables (lead_x_long ring g g_ok g_some) (lead_x_long ring b b_ok b_some)

  pub lead_quotient_length : length (lead_quotient ring g b) ≡ places ring
  lead_quotient_length = omega (
    arith,
    length-append (quotient (lead_x ring g) (lead_x ring b)) (replicate ring.parameters 0),
    length-replicate {A = ℕ} ring.parameters 0,
    variables_quotient,
  )

  lead_quotient_free : drop ring.variables (lead_quotient ring g b) ≡ replicate ring.parameters 0
  lead_quotient_free = drop_at (quotient (lead_x ring g) (lead_x ring b)) (replicate ring.parameters 0) ring.variables variables_quotient

  pub cancelled_of_ring : IsOfRing ring (all_products (lc_x ring b) g ++ all_products (lc_x ring g) (multiple (ring.modulus - 1) (lead_quotient ring g b) b))
  cancelled_of_ring =
      let rg : IsOfRing ring g = canonical_of_ring ring g g_ok in
      let rb : IsOfRing ring b = canonical_of_ring ring b b_ok in
      let rd : IsOfRing ring (lc_x ring b) = canonical_of_ring ring (lc_x ring b) (lc_x_canonical ring b b_ok) in
      let rc : IsOfRing ring (lc_x ring g) = canonical_of_ring ring (lc_x ring g) (lc_x_canonical ring g g_ok) in
      append_of_ring ring (all_products (lc_x ring b) g) (all_products (lc_x ring g) (multiple (ring.modulus - 1) (lead_quotient ring g b) b))
      (products_of_ring ring (lc_x ring b) g rd rg)
      (products_of_ring ring (lc_x ring g) (multiple (ring.modulus - 1) (lead_quotient ring g b) b) rc
      (multiple_of_ring ring (ring.modulus - 1) (lead_quotient ring g b) b lead_quotient_length rb))

-- the sums of a step, as numbers
cancel_sum : (p d c f a r m x y g s : ℕ) → 0 < p → f % p ≡ (a + r + m) % p → g % p ≡ (d * a + c * (((p - 1) * 1) * x)) % p → s % p ≡ (d * r) % p
    → y % p ≡ x % p → (d * f) % p ≡ (g + s + (d * m + c * y)) % p
cancel_sum p d c f a r m x y g s pos ef eg es ey =
    let one : (d * f) % p ≡ (d * (a + r + m)) % p = mod_mul p d d f (a + r + m) refl ef in
    let two : (g + s) % p ≡ ((d * a + c * (((p - 1) * 1) * x)) + d * r) % p = mod_add p g (d * a + c * (((p - 1) * 1) * x)) s (d * r) eg es in
    let three : (d * m + c * y) % p ≡ (d * m + c * x) % p = mod_add p (d * m) (d * m) (c * y) (c * x) refl (mod_mul p c c y x refl ey) in
    let four = mod_add p (g + s) ((d * a + c * (((p - 1) * 1) * x)) + d * r) (d * m + c * y) (d * m + c * x) two three in
    let five : ((d * a + c * (((p - 1) * 1) * x)) + d * r) + (d * m + c * x) ≡ d * (a + r + m) + (c * x + (p - 1) * (c * x)) = regroup (p - 1) in
    let six : (d * (a + r + m) + (c * x + (p - 1) * (c * x))) % p ≡ (d * (a + r + m) + 0) % p =
    mod_add p (d * (a + r + m)) (d * (a + r + m)) (c * x + (p - 1) * (c * x)) 0 refl (mod_opposite p (c * x) pos ∙ sym (zero-mod p)) in
    one ∙ (ap (λ n. n % p) (sym (add-zero (d * (a + r + m)))) ∙ (sym six ∙ (ap (λ n. n % p) (sym five) ∙ sym four)))
  where
    regroup : (k : ℕ) → ((d * a + c * ((k * 1) * x)) + d * r) + (d * m + c * x) ≡ d * (a + r + m) + (c * x + k * (c * x))
    regroup k = omega arith

module _ (ring : Ring) (a : List ℕ) (pos : 0 < ring.modulus) (field : IsField ring.modulus) (P : List (List Term)) where
  abbrev I : List Term → Type 0
  I g = IsMember (variables_ring ring) (specialised_list ring a P) g

  pub record IsCongruent (f g r : List Term) : Type 0 where
    pub factor : ℕ
    pub some : ¬ (factor % ring.modulus ≡ 0)
    pub rest : List Term
    pub member : I rest
    pub sum : (w : List ℕ → ℕ) → (factor * total (at_point ring a w) f) % ring.modulus
        ≡ (total (at_point ring a w) g + total (at_point ring a w) r + total w rest) % ring.modulus

  -- at the start
  pub congruent_first : (f : List Term) → IsCongruent f f []
  congruent_first f = record {
    factor = 1;
    some = λ e. absurd (omega (arith, e, mod-eq_of_lt field.two));
    rest = [];
    member = zero_member (variables_ring ring) (specialised_list ring a P) pos;
    sum = λ w. let e : 1 * total (at_point ring a w) f ≡ total (at_point ring a w) f + 0 + 0 = omega arith in ap (λ n. n % ring.modulus) e;
  }

  -- where the leading part goes to the remainder
  pub congruent_moved : (f g r : List Term) (x : List ℕ) → IsOfRing ring g → IsOfRing ring r → IsCongruent f g r
      → IsCongruent f (others_at ring x g) (canonical ring (r ++ part_at ring x g))
  congruent_moved f g r x hg hr d = record {
    factor = d.factor;
    some = d.some;
    rest = d.rest;
    member = d.member;
    sum = λ w.
        let W : List ℕ → ℕ = at_point ring a w in
        let c = (canonical_alike ring (r ++ part_at ring x g) pos (append_of_ring ring r (part_at ring x g) hr (part_of_ring ring x g hg))).under W in
        let i = total_append W r (part_at ring x g) in
        let j = part_total ring W x g in
        let o = ap (total W) (others_rest ring x g) in
        let k : total W g + total W r + total w d.rest ≡ (total W (others_at ring x g) + total w d.rest) + total W (r ++ part_at ring x g) =
        omega (arith, i, j, o) in
        let l : (total W (others_at ring x g) + total w d.rest) + total W (canonical ring (r ++ part_at ring x g))
        ≡ total W (others_at ring x g) + total W (canonical ring (r ++ part_at ring x g)) + total w d.rest = omega arith in
        d.sum w
        ∙ (ap (λ n. n % ring.modulus) k
        ∙ (mod_add ring.modulus (total W (others_at ring x g) + total w d.rest) (total W (others_at ring x g) + total w d.rest) _ _ refl (sym c)
        ∙ ap (λ n. n % ring.modulus) l));
  }

  -- the step by b, whose leading coefficient is not 0 at the point
  module _ (f g r b : List Term) (g_ok : IsCanonical ring g) (b_ok : IsCanonical ring b) (r_ok : IsOfRing ring r)
      (g_some : 0 < length g) (b_some : 0 < length b)
      (stands : ¬ (value_at ring a (lc_x ring b) ≡ 0)) (inside : I (specialised ring a b)) where
    abbrev t : List ℕ
    t = lead_quotient ring g b

    abbrev D : ℕ
    D = total (power_weight ring a) (lc_x ring b)

    abbrev C : ℕ
    C = total (power_weight ring a) (lc_x ring g)

    rg : IsOfRing ring g
    rg = canonical_of_ring ring g g_ok

    rb : IsOfRing ring b
    rb = canonical_of_ring ring b b_ok

    t_long : length t ≡ places ring
    t_long = lead_quotient_length ring g b g_ok b_ok g_some b_some

    abbrev under_t : (List ℕ → ℕ) → List ℕ → ℕ
    under_t w n = w (product (take ring.variables t) n)

    -- what is left
    cancelled_sum : (w : List ℕ → ℕ) → total (at_point ring a w) (cancelled ring g b) % ring.modulus
        ≡ (D * total (at_point ring a w) g + C * (((ring.modulus - 1) * 1) * total (at_point ring a (under_t w)) b)) % ring.modulus
    cancelled_sum w =
        let W : List ℕ → ℕ = at_point ring a w in
        let L : List Term = all_products (lc_x ring b) g in
        let M : List Term = multiple (ring.modulus - 1) t b in
        let c = (canonical_alike ring (L ++ all_products (lc_x ring g) M) pos (cancelled_of_ring ring g b g_ok b_ok g_some b_some)).under W in
        let i = total_append W L (all_products (lc_x ring g) M) in
        let j = products_at_point ring a w (lc_x ring b) g (leading_free ring b rb) rg in
        let k = products_at_point ring a w (lc_x ring g) M (leading_free ring g rg) (multiple_of_ring ring (ring.modulus - 1) t b t_long rb) in
        let l = total_at_multiple ring a w (ring.modulus - 1) t b t_long rb in
        let o : power_at (drop ring.variables t) a ≡ 1 =
        ap (λ n. power_at n a) (lead_quotient_free ring g b g_ok b_ok g_some b_some) ∙ power_zeros ring.parameters a in
        let m : total W M ≡ ((ring.modulus - 1) * 1) * total (at_point ring a (under_t w)) b =
        l ∙ ap (λ n. ((ring.modulus - 1) * n) * total (at_point ring a (under_t w)) b) o in
        c ∙ ap (λ n. n % ring.modulus) (i ∙ cc (j, k ∙ ap (λ n. C * n) m))

    -- the remainder
    remainder_sum : (w : List ℕ → ℕ) → total (at_point ring a w) (canonical ring (all_products (lc_x ring b) r)) % ring.modulus
        ≡ (D * total (at_point ring a w) r) % ring.modulus
    remainder_sum w =
        let rd : IsOfRing ring (lc_x ring b) = canonical_of_ring ring (lc_x ring b) (lc_x_canonical ring b b_ok) in
        (canonical_alike ring (all_products (lc_x ring b) r) pos (products_of_ring ring (lc_x ring b) r rd r_ok)).under (at_point ring a w)
        ∙ ap (λ n. n % ring.modulus) (products_at_point ring a w (lc_x ring b) r (leading_free ring b rb) r_ok)

    pub congruent_cancelled : IsCongruent f g r → IsCongruent f (cancelled ring g b) (canonical ring (all_products (lc_x ring b) r))
    congruent_cancelled d = record {
      factor = D * d.factor;
      some = λ e. one_of (no_zero_divisors ring.modulus field D d.factor e);
      rest = scaled D d.rest ++ multiple C (take ring.variables t) (specialised ring a b);
      member = sum_member (variables_ring ring) (specialised_list ring a P) pos (scaled D d.rest) (multiple C (take ring.variables t) (specialised ring a b))
          (scaled_member (variables_ring ring) (specialised_list ring a P) pos D d.rest (scaled D d.rest)
          (λ w. ap (λ n. n % ring.modulus) (total_scaled w D d.rest)) d.member)
          (multiple_member (variables_ring ring) (specialised_list ring a P) pos C (take ring.variables t) (specialised ring a b)
          (variables_length ring t t_long ∙ sym (add-zero ring.variables)) inside);
      sum = λ w.
          let v : List ℕ → ℕ = under_t w in
          let e : total w (scaled D d.rest ++ multiple C (take ring.variables t) (specialised ring a b))
          ≡ D * total w d.rest + C * total v (specialised ring a b) =
          total_append w (scaled D d.rest) (multiple C (take ring.variables t) (specialised ring a b))
          ∙ cc (total_scaled w D d.rest, total_multiple w C (take ring.variables t) (specialised ring a b)) in
          let s = cancel_sum ring.modulus D C (d.factor * total (at_point ring a w) f) (total (at_point ring a w) g)
          (total (at_point ring a w) r) (total w d.rest)
          (total (at_point ring a v) b) (total v (specialised ring a b)) (total (at_point ring a w) (cancelled ring g b))
          (total (at_point ring a w) (canonical ring (all_products (lc_x ring b) r))) pos (d.sum w) (cancelled_sum w) (remainder_sum w)
          (total_specialised ring a v b pos rb) in
          ap (λ n. n % ring.modulus) (mul_assoc D d.factor (total (at_point ring a w) f))
          ∙ (s ∙ ap (λ n. (total (at_point ring a w) (cancelled ring g b)
          + total (at_point ring a w) (canonical ring (all_products (lc_x ring b) r)) + n) % ring.modulus) (sym e));
    }
      where
        one_of : (D % ring.modulus ≡ 0) ⊎ (d.factor % ring.modulus ≡ 0) → ⊥
        one_of (inl q) = stands q
        one_of (inr q) = d.some q
