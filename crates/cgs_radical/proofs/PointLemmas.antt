-- Conditions that contradict each other have no point: a point of their region would give one where 1 is 0.
use Rattle.std.proofs.Common.{ℕ, ◌≡◌, ◌+◌, ◌-◌, ◌*◌, ◌%◌, ◌<◌, ◌⊎◌, inl, inr, true, false, List, [], ◌∷◌, ◌++◌, length, get_or, drop, replicate, eqb, refl, sym}
use Rattle.std.proofs.Common.{ap, ◌∙◌, arith}
use Rattle.std.specs.List.{AllByRecursion}
use Rattle.std.proofs.Math.Nat.{zero-mod, one-mul, mul-one, mul-zero, mul_assoc, mod-eq_of_lt, pow-zero, pow-suc, mod_self}
use Rattle.std.proofs.lemmas.Bool.{ne_eqb}
use Rattle.std.proofs.lemmas.List.{length-replicate}
use Rattle.cgs_field.specs.Prime.{IsField}
use Rattle.cgs_field.proofs.ModularLemmas.{mod_add, mod_mul}
use Rattle.cgs_field.proofs.PrimeLemmas.{modulus_field}
use Rattle.cgs_exps.specs.Monomial.{product}
use Rattle.cgs_poly.specs.Ring.{Ring}
use Rattle.cgs_poly.specs.Polynomial.{one, Term, term, places, total, IsRing, IsOfRing}
use Rattle.cgs_poly.specs.Product.{multiple, all_products}
use Rattle.cgs_poly.specs.Parameters.{power_at, value_at}
use Rattle.cgs_poly.specs.Recast.{recast_monomial, recast}
use Rattle.cgs_poly.proofs.SumLemmas.{total_append, alike_from_coefficients}
use Rattle.cgs_poly.proofs.CanonicalLemmas.{canonical_alike, canonical_of_ring, append_of_ring}
use Rattle.cgs_poly.proofs.ProductLemmas.{total_multiple, multiple_of_ring}
use Rattle.cgs_poly.proofs.SpecialisedLemmas.{power_product, power_zeros, total_on}
use Rattle.cgs_poly.proofs.MultipleLemmas.{total_factor}
use Rattle.cgs_algebra.specs.Combination.{Summand, combined, IsCombination, IsMember}
use Rattle.cgs_algebra.specs.Specialisation.{IsParametric}
use Rattle.cgs_algebra.proofs.FieldLemmas.{no_zero_divisors}
use Rattle.cgs_entry.specs.Conditions.{IsInRegion}
use Rattle.cgs_radical.specs.EmptinessRun.{y_ring, with_y, y_times_less_one}
use Rattle.cgs_radical.specs.Laws.{product_of, Contradict, ContradictionHasNoPoint, EmptyHasNoPoint}
use Rattle.cgs_radical.proofs.EmptinessLemmas.{empty_is_contradiction, with_y_canonical, all_of_ring}
use Rattle.cgs_radical.proofs.ProductRunLemmas.{product_of_ring}
use Rattle.cgs_radical.proofs.ContradictionLemmas.{y_canonical}
use Rattle.cgs_list.proofs.ListLemmas.{all_at_place, all_push}

-- a weight that turns products of monomials of the ring into products
pub record IsMultiplicative (ring : Ring) (w : List ℕ → ℕ) : Type 0 where
  pub times : (u m : List ℕ) → length u ≡ places ring → length m ≡ places ring → w (product u m) ≡ w u * w m

module _ (ring : Ring) (w : List ℕ → ℕ) (mult : IsMultiplicative ring w) where
  multiple_weight : (c : ℕ) (t : List ℕ) (f : List Term) → length t ≡ places ring → IsOfRing ring f → total w (multiple c t f) ≡ (c * w t) * total w f
  multiple_weight c t f l h =
      total_multiple w c t f
      ∙ (ap (λ n. c * n) (total_on ring (λ m. w (product t m)) (λ m. w t * w m) f h (λ m k. mult.times t m l k) ∙ total_factor (w t) w f)
      ∙ sym (mul_assoc c (w t) (total w f)))

  product_weight : (f g : List Term) → IsOfRing ring f → IsOfRing ring g → total w (all_products f g) ≡ total w f * total w g
  product_weight [] g h k = omega arith
  product_weight (x ∷ f) g h k =
      join x.coefficient (w x.exponents) (total w g) (total w f) _ _ _ (total_append w (multiple x.coefficient x.exponents g) (all_products f g))
      (multiple_weight x.coefficient x.exponents g h.0 k) (product_weight f g h.1 k)
    where
      join : (c v s t i j k : ℕ) → i ≡ j + k → j ≡ (c * v) * s → k ≡ t * s → i ≡ (c * v + t) * s
      join c v s t i j k p q r = omega arith

  -- where all of a list are 0, so are all members of its ideal
  combined_zero : (F : List (List Term)) → ((i : ℕ) → i < length F → IsOfRing ring (get_or F i []) × (total w (get_or F i []) % ring.modulus ≡ 0))
      → (ks : List Summand) → IsCombination ring F ks → total w (combined F ks) % ring.modulus ≡ 0
  combined_zero F z [] h = zero-mod ring.modulus
  combined_zero F z (k ∷ ks) h =
      let g : List Term = get_or F k.place [] in
      let i = total_append w (multiple k.coefficient k.monomial g) (combined F ks) in
      let j = multiple_weight k.coefficient k.monomial g h.0 (z k.place h.1).0 in
      let c : ℕ = k.coefficient * w k.monomial in
      let a : (c * total w g) % ring.modulus ≡ 0 % ring.modulus =
      mod_mul ring.modulus c c (total w g) 0 refl ((z k.place h.1).1 ∙ sym (zero-mod ring.modulus)) ∙ ap (λ n. n % ring.modulus) (mul-zero c) in
      let b : (c * total w g + total w (combined F ks)) % ring.modulus ≡ (0 + 0) % ring.modulus =
      mod_add ring.modulus (c * total w g) 0 (total w (combined F ks)) 0 a (combined_zero F z ks h.2 ∙ sym (zero-mod ring.modulus)) in
      ap (λ n. n % ring.modulus) (i ∙ ap (λ n. n + total w (combined F ks)) j) ∙ (b ∙ zero-mod ring.modulus)

  member_zero : (F : List (List Term)) (f : List Term) → 0 < ring.modulus
      → ((i : ℕ) → i < length F → IsOfRing ring (get_or F i []) × (total w (get_or F i []) % ring.modulus ≡ 0))
      → IsMember ring F f → total w f % ring.modulus ≡ 0
  member_zero F f pos z m = (alike_from_coefficients pos m.sum).under w ∙ combined_zero F z m.summands m.combination

-- y at b and the parameters at a point

abbrev at_a : Ring → List ℕ → List ℕ → ℕ
at_a ring a m = power_at (drop ring.variables m) a

-- the product of the values
abbrev values : Ring → List ℕ → List (List Term) → ℕ
values ring a [] = 1
values ring a (n ∷ N) = total (at_a ring a) n * values ring a N

module _ (ring : Ring) (a : List ℕ) (b : ℕ) where
  abbrev at_y : List ℕ → ℕ
  at_y m = power_at m (b ∷ a)

  y_weight : IsMultiplicative (y_ring ring) at_y
  y_weight = record { times = λ u m l k. power_product u m (b ∷ a) (l ∙ sym k) }

  weight_one : total at_y (one (y_ring ring)) ≡ 1
  weight_one = let z = power_zeros (places (y_ring ring)) (b ∷ a) in omega (arith, ap (λ n. 1 * n) z)

  module _ (r : IsRing ring) where
    recast_monomial_is : (m : List ℕ) → recast_monomial ring (y_ring ring) m ≡ 0 ∷ drop ring.variables m
    recast_monomial_is m =
        let t : eqb 1 (ring.variables + 1) ≡ false = ne_eqb 1 (ring.variables + 1) (λ e. omega (arith, r.some)) in
        rw t refl

    recast_weight : (f : List Term) → total at_y (recast ring (y_ring ring) f) ≡ total (at_a ring a) f
    recast_weight [] = refl
    recast_weight (x ∷ f) =
        let e : at_y (recast_monomial ring (y_ring ring) x.exponents) ≡ at_a ring a x.exponents =
        ap at_y (recast_monomial_is x.exponents)
        ∙ (ap (λ n. n * power_at (drop ring.variables x.exponents) a) (pow-zero b) ∙ one-mul (power_at (drop ring.variables x.exponents) a)) in
        cc (e, recast_weight f)

    values_weight : (N : List (List Term)) → AllByRecursion (IsOfRing (y_ring ring)) (with_y ring N)
        → total at_y (product_of (y_ring ring) (with_y ring N)) ≡ values ring a N
    values_weight [] h = weight_one
    values_weight (n ∷ N) h =
        product_weight (y_ring ring) at_y y_weight (recast ring (y_ring ring) n)
        (product_of (y_ring ring) (with_y ring N)) h.0 (product_of_ring (y_ring ring) (with_y ring N) h.1)
        ∙ cc (recast_weight n, values_weight N h.1)

    y_power : at_y (1 ∷ replicate ring.parameters 0) ≡ b
    y_power = cc (power_zeros ring.parameters a, pow-suc b 0, pow-zero b, one-mul b, mul-one b)

    abbrev minus_one : List Term
    minus_one = term (ring.modulus - 1) (replicate (places (y_ring ring)) 0) ∷ []

    -- y*q - 1 at the inverse of q
    y_zero : (q : List Term) → 1 < ring.modulus → IsOfRing (y_ring ring) q → (total at_y q * b) % ring.modulus ≡ 1
        → total at_y (y_times_less_one (y_ring ring) q) % ring.modulus ≡ 0
    y_zero q two h e =
        let y : List ℕ = 1 ∷ replicate ring.parameters 0 in
        let p : ℕ = ring.modulus in
        let long : length y ≡ places (y_ring ring) = omega (arith, length-replicate {A = ℕ} ring.parameters 0) in
        let pos : 0 < ring.modulus = omega arith in
        let all : IsOfRing (y_ring ring) (multiple 1 y q ++ minus_one) =
        append_of_ring (y_ring ring) (multiple 1 y q) minus_one (multiple_of_ring (y_ring ring) 1 y q long h)
        (length-replicate {A = ℕ} (places (y_ring ring)) 0, tt) in
        let s = (canonical_alike (y_ring ring) (multiple 1 y q ++ minus_one) pos all).under at_y in
        let v : ℕ = total at_y q in
        let i : total at_y (multiple 1 y q) ≡ (1 * at_y y) * v = multiple_weight (y_ring ring) at_y y_weight 1 y q long h in
        let j : (1 * at_y y) * v ≡ v * b = ap (λ n. (1 * n) * v) y_power ∙ omega arith in
        let z : power_at (replicate (places (y_ring ring)) 0) (b ∷ a) ≡ 1 = power_zeros (places (y_ring ring)) (b ∷ a) in
        let k : total at_y minus_one ≡ ring.modulus - 1 = ap (λ n. (ring.modulus - 1) * n + 0) z ∙ omega arith in
        let t : total at_y (multiple 1 y q ++ minus_one) ≡ v * b + (ring.modulus - 1) = total_append at_y (multiple 1 y q) minus_one ∙ cc (i, j, k) in
        let u : (v * b + (ring.modulus - 1)) % ring.modulus ≡ (1 + (ring.modulus - 1)) % ring.modulus =
        mod_add ring.modulus (v * b) 1 (ring.modulus - 1) (ring.modulus - 1) (e ∙ sym (mod-eq_of_lt two)) refl in
        let w : 1 + (ring.modulus - 1) ≡ ring.modulus = omega (arith, two) in
        s ∙ (ap (λ n. n % ring.modulus) t ∙ (u ∙ (ap (λ n. n % ring.modulus) w ∙ mod_self ring.modulus)))

module _ (ring : Ring) (r : IsRing ring) (a : List ℕ) where
  field : IsField ring.modulus
  field = modulus_field ring.modulus r.modulus

  values_stand : (N : List (List Term)) → AllByRecursion (λ n. ¬ (value_at ring a n ≡ 0)) N → ¬ (values ring a N % ring.modulus ≡ 0)
  values_stand [] h e = let bad : ◌≡◌ {A = ℕ} 1 0 = sym (mod-eq_of_lt field.two) ∙ e in omega arith
  values_stand (n ∷ N) h e = by_factor (no_zero_divisors ring.modulus field (total (at_a ring a) n) (values ring a N) e) (λ z. values_stand N h.1 z)
    where
      by_factor : (total (at_a ring a) n % ring.modulus ≡ 0) ⊎ (values ring a N % ring.modulus ≡ 0) → (values ring a N % ring.modulus ≡ 0 → ⊥) → ⊥
      by_factor (inl z) ih = h.0 z
      by_factor (inr z) ih = ih z

  module _ (E N : List (List Term)) (he : AllByRecursion (IsParametric ring) E)
      (hn : AllByRecursion (IsParametric ring) N) (inside : IsInRegion ring E N a) where
    inverse : (b : ℕ) × ((values ring a N * b) % ring.modulus ≡ 1)
    inverse = field.inverse (values ring a N) (values_stand N inside.stand)

    abbrev weight : List ℕ → ℕ
    weight m = power_at m (inverse.0 ∷ a)

    abbrev p : List Term
    p = product_of (y_ring ring) (with_y ring N)

    p_ring : IsOfRing (y_ring ring) p
    p_ring = product_of_ring (y_ring ring) (with_y ring N) (all_of_ring (y_ring ring) (with_y ring N) (with_y_canonical ring N hn))

    abbrev IsZero : List Term → Type 0
    IsZero f = IsOfRing (y_ring ring) f × (total weight f % ring.modulus ≡ 0)

    zeros : (E : List (List Term)) → AllByRecursion (IsOfRing (y_ring ring)) (with_y ring E)
        → AllByRecursion (λ f. value_at ring a f ≡ 0) E → AllByRecursion IsZero (with_y ring E)
    zeros [] h z = tt
    zeros (f ∷ E) h z = ((h.0, ap (λ n. n % ring.modulus) (recast_weight ring a inverse.0 r f) ∙ z.0), zeros E h.1 z.1)

    last_zero : IsZero (y_times_less_one (y_ring ring) p)
    last_zero =
        let e : (total weight p * inverse.0) % ring.modulus ≡ 1 =
        ap (λ n. (n * inverse.0) % ring.modulus) (values_weight ring a inverse.0 r N (all_of_ring (y_ring ring) (with_y ring N) (with_y_canonical ring N hn)))
        ∙ inverse.1 in (
          canonical_of_ring (y_ring ring) (y_times_less_one (y_ring ring) p) (y_canonical (y_ring ring) (omega (arith, field.two)) refl p p_ring),
          y_zero ring a inverse.0 r p field.two p_ring e,
        )

    all_zero : (i : ℕ) → i < length (with_y ring E ++ y_times_less_one (y_ring ring) p ∷ [])
        → IsZero (get_or (with_y ring E ++ y_times_less_one (y_ring ring) p ∷ []) i [])
    all_zero =
        all_at_place IsZero [] (with_y ring E ++ y_times_less_one (y_ring ring) p ∷ [])
        (all_push IsZero (with_y ring E) (y_times_less_one (y_ring ring) p)
        (zeros E (all_of_ring (y_ring ring) (with_y ring E) (with_y_canonical ring E he)) inside.vanish) last_zero)

    contradiction : Contradict ring E N → ⊥
    contradiction m =
        let z = member_zero (y_ring ring) weight (y_weight ring a inverse.0) (with_y ring E ++ y_times_less_one (y_ring ring) p ∷ [])
        (one (y_ring ring)) (omega (arith, field.two)) all_zero m in
        let e : 1 % ring.modulus ≡ 0 = ap (λ n. n % ring.modulus) (sym (weight_one ring a inverse.0)) ∙ z in
        let bad : ◌≡◌ {A = ℕ} 1 0 = sym (mod-eq_of_lt field.two) ∙ e in
        omega arith

pub contradiction_has_no_point : ContradictionHasNoPoint
contradiction_has_no_point ring E N a r he hn m inside = contradiction ring r a E N he hn inside m

pub empty_has_no_point : EmptyHasNoPoint
empty_has_no_point ring E N units left a r he hn e point =
    contradiction_has_no_point ring E N a r he hn ((empty_is_contradiction ring E N units left true r he hn e).0 refl)
