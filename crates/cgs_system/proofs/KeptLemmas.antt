-- Conditions of a branch stay as they are where they are added again: each is monic, and none is repeated.
use Rattle.std.proofs.Common.{◌≡◌, ◌<◌, Bool, true, false, cond, List, [], ◌∷◌, ◌++◌, refl, sym, ap, ◌∙◌, subst, arith, append_assoc, append-nil}
use Rattle.std.proofs.Math.Nat.{mod-eq_of_lt, one-mul}
use Rattle.std.specs.List.{AllByRecursion}
use Rattle.std.specs.declared.cmp.Ordering.TheVariants.{Less}
use Rattle.cgs_field.specs.Prime.{IsField}
use Rattle.cgs_field.specs.Inverse.{inverse}
use Rattle.cgs_field.proofs.InverseLemmas.{inverse_is}
use Rattle.cgs_field.proofs.PrimeLemmas.{modulus_field}
use Rattle.cgs_order.specs.TermOrder.{compared}
use Rattle.cgs_order.proofs.OrderLemmas.{compared_trans, compared_not_self}
use Rattle.cgs_poly.specs.Ring.{Ring}
use Rattle.cgs_poly.specs.Polynomial.{Term, term, order_of, IsRing, IsCanonical, canonical}
use Rattle.cgs_poly.specs.Product.{scaled, leading_monomial, leading_coefficient}
use Rattle.cgs_poly.specs.Monic.{monic_of}
use Rattle.cgs_poly.specs.Same.{is_among}
use Rattle.cgs_poly.specs.Parameters.{has_no_variables}
use Rattle.cgs_poly.proofs.CanonicalLemmas.{canonical_itself}
use Rattle.cgs_poly.proofs.MonicLemmas.{monic_zero, monic_by_lead, monic_canonical, monic_leading}
use Rattle.cgs_poly.proofs.SameLemmas.{among_all}
use Rattle.cgs_algebra.specs.Groebner.{AreMonic, IsAscending}
use Rattle.cgs_algebra.specs.Stability.{parametric_members}
use Rattle.cgs_algebra.proofs.AscendingLemmas.{ascending_rest}
use Rattle.cgs_list.proofs.ListLemmas.{all_push, all_weaker}
use Rattle.cgs_entry.specs.Conditions.{with_member, with_members}

-- a list of conditions that is the same when it is made anew
abbrev pub IsKept : Ring → List (List Term) → Type 0
IsKept ring L = with_members ring [] L ≡ L

scaled_by_one : (f : List Term) → scaled 1 f ≡ f
scaled_by_one [] = refl
scaled_by_one (y ∷ f) =
    ap (λ c. term c y.exponents ∷ scaled 1 f) (one-mul y.coefficient) ∙ ap (λ g. y ∷ g) (scaled_by_one f)

module _ (ring : Ring) (r : IsRing ring) where
  abbrev field : IsField ring.modulus
  field = modulus_field ring.modulus r.modulus

  abbrev pos : 0 < ring.modulus
  pos = omega (arith, (modulus_field ring.modulus r.modulus).two)

  -- a monic polynomial stays as it is
  monic_itself : (f : List Term) → IsCanonical ring f → leading_coefficient f ≡ 1 → monic_of ring f ≡ f
  monic_itself [] h e = sym (monic_zero ring [] refl)
  monic_itself (x ∷ f) h e =
      let one : 1 < ring.modulus = field.two in
      let i : 1 ≡ inverse ring.modulus 1 = inverse_is ring.modulus 1 1 field (omega arith) one one (mod-eq_of_lt one) in
      sym (monic_by_lead ring (x ∷ f) x 1 refl (subst (λ c. 1 ≡ inverse ring.modulus c) (sym e) i))
      ∙ (ap (canonical ring) (scaled_by_one (x ∷ f)) ∙ canonical_itself ring (x ∷ f) pos h)

  monic_twice : (f : List Term) → IsCanonical ring f → monic_of ring (monic_of ring f) ≡ monic_of ring f
  monic_twice [] h = ap (monic_of ring) (sym (monic_zero ring [] refl))
  monic_twice (x ∷ f) h = monic_itself (monic_of ring (x ∷ f)) (monic_canonical ring r (x ∷ f) h) (monic_leading ring r (x ∷ f) h (λ e. cc))

  with_append : (L A B : List (List Term)) → with_members ring L (A ++ B) ≡ with_members ring (with_members ring L A) B
  with_append L [] B = refl
  with_append L (f ∷ A) B = with_append (with_member ring L f) A B

  pub kept_with : (L : List (List Term)) (f : List Term) → IsKept ring L → IsCanonical ring f → IsKept ring (with_member ring L f)
  kept_with L f kept h = step (is_among (monic_of ring f) L) refl
    where
      step : (b : Bool) → is_among (monic_of ring f) L ≡ b → IsKept ring (cond b L (L ++ monic_of ring f ∷ []))
      step true e = kept
      step false e =
          let m : List Term = monic_of ring f in
          let again : is_among (monic_of ring m) L ≡ false = ap (λ g. is_among g L) (monic_twice f h) ∙ e in
          with_append [] L (m ∷ [])
          ∙ (ap (λ K. with_member ring K m) kept
          ∙ (ap (λ b. cond b L (L ++ monic_of ring m ∷ [])) again ∙ ap (λ g. L ++ g ∷ []) (monic_twice f h)))

  pub kept_with_all : (L K : List (List Term)) → IsKept ring L → AllByRecursion (IsCanonical ring) K → IsKept ring (with_members ring L K)
  kept_with_all L [] kept h = kept
  kept_with_all L (f ∷ K) kept h = kept_with_all (with_member ring L f) K (kept_with L f kept h.0) h.1

  -- the lead of f is below the first one of G
  abbrev IsBelowFirst : List (List Term) → List Term → Type 0
  IsBelowFirst [] f = Unit {0}
  IsBelowFirst (g ∷ G) f = compared (order_of ring) (leading_monomial f) (leading_monomial g) ≡ Less

  next_below : (g : List Term) (G : List (List Term)) → IsAscending ring (g ∷ G) → (f : List Term) → IsBelowFirst (g ∷ G) f → IsBelowFirst G f
  next_below g [] a f l = tt
  next_below g (h ∷ G) a f l = compared_trans (order_of ring) (leading_monomial f) (leading_monomial g) (leading_monomial h) l a.0

  first_below : (g : List Term) (G : List (List Term)) → IsAscending ring (g ∷ G) → IsBelowFirst G g
  first_below g [] a = tt
  first_below g (h ∷ G) a = a.0

  -- monic members with ascending leads are added as they are
  added_above : (L G : List (List Term)) → AllByRecursion (λ g. monic_of ring g ≡ g) G → IsAscending ring G → AllByRecursion (IsBelowFirst G) L
      → with_members ring L (parametric_members ring G) ≡ L ++ parametric_members ring G
  added_above L [] m a l = sym (append-nil L)
  added_above L (g ∷ G) m a l = by_test (has_no_variables ring g) (added_above L G m.1 rest (lower L l)) (added_above (L ++ g ∷ []) G m.1 rest more)
    where
      rest : IsAscending ring G
      rest = ascending_rest ring g G a

      lower : (L : List (List Term)) → AllByRecursion (IsBelowFirst (g ∷ G)) L → AllByRecursion (IsBelowFirst G) L
      lower L l = all_weaker (IsBelowFirst (g ∷ G)) (IsBelowFirst G) L l (λ f b. next_below g G a f b)

      more : AllByRecursion (IsBelowFirst G) (L ++ g ∷ [])
      more = all_push (IsBelowFirst G) L g (lower L l) (first_below g G a)

      fresh : (b : Bool) → is_among g L ≡ b → b ≡ false
      fresh false e = refl
      fresh true e = absurd (compared_not_self (order_of ring) (leading_monomial g) (among_all (IsBelowFirst (g ∷ G)) g L e l))

      put : with_member ring L g ≡ L ++ g ∷ []
      put = rw m.0 (ap (λ b. cond b L (L ++ g ∷ [])) (fresh (is_among g L) refl))

      by_test : (b : Bool) → with_members ring L (parametric_members ring G) ≡ L ++ parametric_members ring G
          → with_members ring (L ++ g ∷ []) (parametric_members ring G) ≡ (L ++ g ∷ []) ++ parametric_members ring G
          → with_members ring L (cond b (g ∷ parametric_members ring G) (parametric_members ring G))
          ≡ L ++ cond b (g ∷ parametric_members ring G) (parametric_members ring G)
      by_test false skipped taken = skipped
      by_test true skipped taken =
          ap (λ K. with_members ring K (parametric_members ring G)) put ∙ (taken ∙ append_assoc L (g ∷ []) (parametric_members ring G))

  monic_each : (G : List (List Term)) → AllByRecursion (IsCanonical ring) G → AllByRecursion (λ g. leading_coefficient g ≡ 1) G
      → AllByRecursion (λ g. monic_of ring g ≡ g) G
  monic_each [] h m = tt
  monic_each (g ∷ G) h m = (monic_itself g h.0 m.0, monic_each G h.1 m.1)

  -- so are those of a reduced basis in the parameters alone
  pub kept_parametric : (G : List (List Term)) → AreMonic ring G → IsAscending ring G → IsKept ring (parametric_members ring G)
  kept_parametric G m a = added_above [] G (monic_each G m.canonical m.monic) a tt
