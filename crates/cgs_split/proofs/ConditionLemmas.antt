-- What the adding of members does to conditions: where they vanish, and what holds of each.
use Rattle.std.proofs.Common.{ℕ, ◌≡◌, ◌*◌, ◌%◌, ◌⊎◌, inl, inr, Bool, true, false, cond, not, ◌&&◌, ◌||◌, ◌==◌, List, [], ◌∷◌, ◌++◌, refl, sym, ap, ◌∙◌}
use Rattle.std.proofs.Math.Nat.{zero-mod, mul-zero}
use Rattle.std.proofs.lemmas.Bool.{eqb-true, eqb-false, ne_eqb, and_parts}
use Rattle.std.specs.List.{AllByRecursion}
use Rattle.cgs_list.proofs.ListLemmas.{all_append}
use Rattle.cgs_field.specs.Prime.{IsField}
use Rattle.cgs_field.proofs.ModularLemmas.{mod_mul}
use Rattle.cgs_poly.specs.Ring.{Ring}
use Rattle.cgs_poly.specs.Polynomial.{Term, total, IsCanonical}
use Rattle.cgs_poly.specs.Parameters.{value_at}
use Rattle.cgs_algebra.specs.Specialisation.{AllVanish, NoneVanishes}
use Rattle.cgs_algebra.proofs.PointLemmas.{power_weight}
use Rattle.cgs_algebra.proofs.FieldLemmas.{no_zero_divisors}
use Rattle.cgs_poly.specs.Monic.{monic_of}
use Rattle.cgs_poly.specs.Same.{same_poly, is_among}
use Rattle.cgs_poly.proofs.SameLemmas.{same_poly_decides}
use Rattle.cgs_entry.specs.Conditions.{with_member, with_members, all_vanish, none_vanishes, is_in_region, IsInRegion}
use Rattle.cgs_split.proofs.InverseLemmas.{IsUnitMultiple, monic_unit}

-- truth values

and_assoc : (a b c : Bool) → ((a && b) && c) ≡ (a && (b && c))
and_assoc true b c = refl
and_assoc false b c = refl

and_true : (a : Bool) → (a && true) ≡ a
and_true true = refl
and_true false = refl

-- two numbers that are 0 together
zero_together : (m n : ℕ) → (m ≡ 0 → n ≡ 0) → (n ≡ 0 → m ≡ 0) → (m == 0) ≡ (n == 0)
zero_together m n h k = by_test (m == 0) refl
  where
    by_test : (b : Bool) → (m == 0) ≡ b → (m == 0) ≡ (n == 0)
    by_test true e = e ∙ sym (ap (λ i. i == 0) (h (eqb-true m 0 e)))
    by_test false e = e ∙ sym (ne_eqb n 0 (λ z. eqb-false m 0 e (k z)))

module _ (ring : Ring) (a : List ℕ) where
  vanish_append : (L K : List (List Term)) → all_vanish ring a (L ++ K) ≡ (all_vanish ring a L && all_vanish ring a K)
  vanish_append [] K = refl
  vanish_append (f ∷ L) K = ap (λ b. (value_at ring a f == 0) && b) (vanish_append L K)
      ∙ sym (and_assoc (value_at ring a f == 0) (all_vanish ring a L) (all_vanish ring a K))

  none_append : (L K : List (List Term)) → none_vanishes ring a (L ++ K) ≡ (none_vanishes ring a L && none_vanishes ring a K)
  none_append [] K = refl
  none_append (f ∷ L) K = ap (λ b. not (value_at ring a f == 0) && b) (none_append L K)
      ∙ sym (and_assoc (not (value_at ring a f == 0)) (none_vanishes ring a L) (none_vanishes ring a K))

  -- a member adds nothing

  all_has : (f : List Term) (L : List (List Term)) → is_among f L ≡ true → (all_vanish ring a L && (value_at ring a f == 0)) ≡ all_vanish ring a L
  all_has f [] h = cc
  all_has f (g ∷ L) h = by_test (same_poly f g) refl h (all_has f L)
    where
      twice : (u v : Bool) → ((u && v) && u) ≡ (u && v)
      twice true v = and_true v
      twice false v = refl

      by_test : (b : Bool) → same_poly f g ≡ b → (b || is_among f L) ≡ true
          → (is_among f L ≡ true → (all_vanish ring a L && (value_at ring a f == 0)) ≡ all_vanish ring a L)
          → (((value_at ring a g == 0) && all_vanish ring a L) && (value_at ring a f == 0)) ≡ ((value_at ring a g == 0) && all_vanish ring a L)
      by_test true e k ih = let s : (value_at ring a f == 0) ≡ (value_at ring a g == 0) = ap (λ q. value_at ring a q == 0) ((same_poly_decides f g).0 e) in
          rw s (twice (value_at ring a g == 0) (all_vanish ring a L))
      by_test false e k ih = and_assoc (value_at ring a g == 0) (all_vanish ring a L) (value_at ring a f == 0) ∙ ap (λ b. (value_at ring a g == 0) && b) (ih k)

  none_has : (f : List Term) (L : List (List Term)) → is_among f L ≡ true → (none_vanishes ring a L && not (value_at ring a f == 0)) ≡ none_vanishes ring a L
  none_has f [] h = cc
  none_has f (g ∷ L) h = by_test (same_poly f g) refl h (none_has f L)
    where
      twice : (u v : Bool) → ((u && v) && u) ≡ (u && v)
      twice true v = and_true v
      twice false v = refl

      by_test : (b : Bool) → same_poly f g ≡ b → (b || is_among f L) ≡ true
          → (is_among f L ≡ true → (none_vanishes ring a L && not (value_at ring a f == 0)) ≡ none_vanishes ring a L)
          → ((not (value_at ring a g == 0) && none_vanishes ring a L) && not (value_at ring a f == 0))
          ≡ (not (value_at ring a g == 0) && none_vanishes ring a L)
      by_test true e k ih = let s : (value_at ring a f == 0) ≡ (value_at ring a g == 0) = ap (λ q. value_at ring a q == 0) ((same_poly_decides f g).0 e) in
          rw s (twice (not (value_at ring a g == 0)) (none_vanishes ring a L))
      by_test false e k ih = and_assoc (not (value_at ring a g == 0)) (none_vanishes ring a L) (not (value_at ring a f == 0))
          ∙ ap (λ b. not (value_at ring a g == 0) && b) (ih k)

  -- a monic multiple vanishes where the polynomial does

  value_monic : (f : List Term) → IsField ring.modulus → IsCanonical ring f → (value_at ring a (monic_of ring f) == 0) ≡ (value_at ring a f == 0)
  value_monic f field h =
      let p : ℕ = ring.modulus in
      let u : IsUnitMultiple ring f (monic_of ring f) = monic_unit ring f field h in
      let e : value_at ring a (monic_of ring f) ≡ (u.factor * total (power_weight ring a) f) % p = u.multiple (power_weight ring a) in
      zero_together (value_at ring a (monic_of ring f)) (value_at ring a f)
      (λ z. by_factor u.factor u.unit (no_zero_divisors p field u.factor (total (power_weight ring a) f) (sym e ∙ z)))
      (λ z. e ∙ (mod_mul p u.factor u.factor (total (power_weight ring a) f) 0 refl (z ∙ sym (zero-mod p))
      ∙ (ap (λ n. n % p) (mul-zero u.factor) ∙ zero-mod p)))
    where
      by_factor : (c : ℕ) → (c % ring.modulus ≡ 0 → ⊥) → (c % ring.modulus ≡ 0) ⊎ (total (power_weight ring a) f % ring.modulus ≡ 0) → value_at ring a f ≡ 0
      by_factor c n (inl q) = absurd (n q)
      by_factor c n (inr q) = q

  module _ (field : IsField ring.modulus) where
    pub all_with : (L : List (List Term)) (f : List Term) → IsCanonical ring f
        → all_vanish ring a (with_member ring L f) ≡ (all_vanish ring a L && (value_at ring a f == 0))
    all_with L f h = by_test (is_among (monic_of ring f) L) refl
      where
        by_test : (b : Bool) → is_among (monic_of ring f) L ≡ b
            → all_vanish ring a (cond b L (L ++ monic_of ring f ∷ [])) ≡ (all_vanish ring a L && (value_at ring a f == 0))
        by_test true e = sym (ap (λ b. all_vanish ring a L && b) (sym (value_monic f field h)) ∙ all_has (monic_of ring f) L e)
        by_test false e = vanish_append L (monic_of ring f ∷ [])
            ∙ ap (λ b. all_vanish ring a L && b) (and_true (value_at ring a (monic_of ring f) == 0) ∙ value_monic f field h)

    pub none_with : (L : List (List Term)) (f : List Term) → IsCanonical ring f
        → none_vanishes ring a (with_member ring L f) ≡ (none_vanishes ring a L && not (value_at ring a f == 0))
    none_with L f h = by_test (is_among (monic_of ring f) L) refl
      where
        by_test : (b : Bool) → is_among (monic_of ring f) L ≡ b
            → none_vanishes ring a (cond b L (L ++ monic_of ring f ∷ [])) ≡ (none_vanishes ring a L && not (value_at ring a f == 0))
        by_test true e = sym (ap (λ b. none_vanishes ring a L && not b) (sym (value_monic f field h)) ∙ none_has (monic_of ring f) L e)
        by_test false e = none_append L (monic_of ring f ∷ [])
            ∙ ap (λ b. none_vanishes ring a L && b) (and_true (not (value_at ring a (monic_of ring f) == 0)) ∙ ap not (value_monic f field h))

    pub all_with_all : (L K : List (List Term)) → AllByRecursion (IsCanonical ring) K
        → all_vanish ring a (with_members ring L K) ≡ (all_vanish ring a L && all_vanish ring a K)
    all_with_all L [] h = sym (and_true (all_vanish ring a L))
    all_with_all L (f ∷ K) h =
        all_with_all (with_member ring L f) K h.1
        ∙ (ap (λ b. b && all_vanish ring a K) (all_with L f h.0) ∙ and_assoc (all_vanish ring a L) (value_at ring a f == 0) (all_vanish ring a K))

    pub none_with_all : (L K : List (List Term)) → AllByRecursion (IsCanonical ring) K
        → none_vanishes ring a (with_members ring L K) ≡ (none_vanishes ring a L && none_vanishes ring a K)
    none_with_all L [] h = sym (and_true (none_vanishes ring a L))
    none_with_all L (f ∷ K) h =
        none_with_all (with_member ring L f) K h.1
        ∙ (ap (λ b. b && none_vanishes ring a K) (none_with L f h.0)
        ∙ and_assoc (none_vanishes ring a L) (not (value_at ring a f == 0)) (none_vanishes ring a K))

  -- the tests and the facts

  pub all_told : (E : List (List Term)) → all_vanish ring a E ≡ true → AllVanish ring a E
  all_told [] h = tt
  all_told (f ∷ E) h = let p = and_parts _ _ h in (eqb-true (value_at ring a f) 0 p.0, all_told E p.1)

  pub told_all : (E : List (List Term)) → AllVanish ring a E → all_vanish ring a E ≡ true
  told_all [] h = refl
  told_all (f ∷ E) h = rw h.0 (told_all E h.1)

  pub none_told : (N : List (List Term)) → none_vanishes ring a N ≡ true → NoneVanishes ring a N
  none_told [] h = tt
  none_told (f ∷ N) h = let p = and_parts _ _ h in (λ z. by_value z p.0, none_told N p.1)
    where
      by_value : value_at ring a f ≡ 0 → not (value_at ring a f == 0) ≡ true → ⊥
      by_value z k = let e : not (value_at ring a f == 0) ≡ false = rw z refl in cc

  pub told_none : (N : List (List Term)) → NoneVanishes ring a N → none_vanishes ring a N ≡ true
  told_none [] h = refl
  told_none (f ∷ N) h = rw (ne_eqb (value_at ring a f) 0 h.0) (told_none N h.1)

  pub region_told : (E N : List (List Term)) → is_in_region ring E N a ≡ true → IsInRegion ring E N a
  region_told E N h = let p = and_parts _ _ h in record { vanish = all_told E p.0; stand = none_told N p.1 }

  pub told_region : (E N : List (List Term)) → IsInRegion ring E N a → is_in_region ring E N a ≡ true
  told_region E N h = rw (told_all E h.vanish) (told_none N h.stand)

-- what holds of each

pub each_with : (ring : Ring) (P : List Term → Type 0) (L : List (List Term)) (f : List Term) → AllByRecursion P L → P (monic_of ring f)
    → AllByRecursion P (with_member ring L f)
each_with ring P L f h k = by_test (is_among (monic_of ring f) L)
  where
    by_test : (b : Bool) → AllByRecursion P (cond b L (L ++ monic_of ring f ∷ []))
    by_test true = h
    by_test false = all_append P L (monic_of ring f ∷ []) h (k, tt)

pub each_with_all : (ring : Ring) (P : List Term → Type 0) (L K : List (List Term)) → AllByRecursion P L → AllByRecursion (λ f. P (monic_of ring f)) K
    → AllByRecursion P (with_members ring L K)
each_with_all ring P L [] h k = h
each_with_all ring P L (f ∷ K) h k = each_with_all ring P (with_member ring L f) K (each_with ring P L f h k.0) k.1
