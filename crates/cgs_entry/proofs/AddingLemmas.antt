-- What holds of the members of a list that was added to.
use Rattle.std.proofs.Common.{ℕ, ◌≡◌, ◌*◌, ◌%◌, ◌↔◌, Bool, true, false, cond, List, [], ◌∷◌, ◌++◌, drop, refl, sym, ap, ◌∙◌}
use Rattle.std.specs.List.{AllByRecursion}
use Rattle.std.proofs.Math.Nat.{zero-mod, mul-zero}
use Rattle.cgs_list.proofs.ListLemmas.{all_parts, all_push}
use Rattle.cgs_field.proofs.ModularLemmas.{mod_mul}
use Rattle.cgs_poly.specs.Ring.{Ring}
use Rattle.cgs_poly.specs.Polynomial.{Term, total, IsRing, IsCanonical}
use Rattle.cgs_poly.specs.Product.{scaled, leading_coefficient}
use Rattle.cgs_poly.specs.Parameters.{HasNoVariables, IsCondition, power_at, value_at}
use Rattle.cgs_field.specs.Inverse.{inverse}
use Rattle.cgs_poly.specs.Monic.{monic_of}
use Rattle.cgs_poly.proofs.SumLemmas.{total_scaled}
use Rattle.cgs_poly.proofs.MonicLemmas.{monic_alike, monic_poly}
use Rattle.cgs_poly.specs.Same.{is_among}
use Rattle.cgs_poly.proofs.SameLemmas.{among_all}
use Rattle.cgs_algebra.proofs.EliminationLemmas.{canonical_free}
use Rattle.cgs_entry.specs.Conditions.{with_member, with_members}

-- a polynomial is 0 at a point where its monic multiple is
module _ (ring : Ring) (r : IsRing ring) (a : List ℕ) (f : List Term) (h : IsCanonical ring f) where
  abbrev weight : List ℕ → ℕ
  weight m = power_at (drop ring.variables m) a

  times_zero : (c n : ℕ) → n % ring.modulus ≡ 0 → (c * n) % ring.modulus ≡ 0
  times_zero c n e = mod_mul ring.modulus c c n 0 refl (e ∙ sym (zero-mod ring.modulus)) ∙ (ap (λ k. k % ring.modulus) (mul-zero c) ∙ zero-mod ring.modulus)

  pub monic_vanishes : value_at ring a f ≡ 0 → value_at ring a (monic_of ring f) ≡ 0
  monic_vanishes e =
      let c : ℕ = inverse ring.modulus (leading_coefficient f) in
      (monic_alike ring r f h).under weight ∙ (ap (λ n. n % ring.modulus) (total_scaled weight c f) ∙ times_zero c (total weight f) e)

-- members

all_added : (P : List Term → Type 0) (ring : Ring) (L : List (List Term)) (f : List Term)
    → AllByRecursion P (with_member ring L f) ↔ (AllByRecursion P L × P (monic_of ring f))
all_added P ring L f = step (is_among (monic_of ring f) L) refl
  where
    step : (b : Bool) → is_among (monic_of ring f) L ≡ b → AllByRecursion P (cond b L (L ++ monic_of ring f ∷ [])) ↔ (AllByRecursion P L × P (monic_of ring f))
    step true e = (λ h. (h, among_all P (monic_of ring f) L e h), λ h. h.0)
    step false e =
        (λ h. let k = all_parts P L (monic_of ring f ∷ []) h in (k.0, k.1.0), λ h. all_push P L (monic_of ring f) h.0 h.1)

pub all_members_added : (P : List Term → Type 0) (ring : Ring) (L F : List (List Term)) → AllByRecursion P (with_members ring L F)
    ↔ (AllByRecursion P L × AllByRecursion (λ f. P (monic_of ring f)) F)
all_members_added P ring L [] = (λ h. (h, tt), λ h. h.0)
all_members_added P ring L (f ∷ F) =
    let ih = all_members_added P ring (with_member ring L f) F in
    let one = all_added P ring L f in (
      λ h. let k = ih.0 h in let m = one.0 k.0 in (m.0, (m.1, k.1)),
      λ h. ih.1 (one.1 (h.0, h.1.0), h.1.1),
    )

-- conditions

scaled_free : (ring : Ring) (c : ℕ) (f : List Term) → HasNoVariables ring f → HasNoVariables ring (scaled c f)
scaled_free ring c [] h = tt
scaled_free ring c (y ∷ f) h = (h.0, scaled_free ring c f h.1)

pub monic_free : (ring : Ring) (f : List Term) → HasNoVariables ring f → HasNoVariables ring (monic_of ring f)
unfolding monic_of
monic_free ring f h = let c : ℕ = inverse ring.modulus (leading_coefficient f) in canonical_free ring (scaled c f) (scaled_free ring c f h)

monic_condition : (ring : Ring) → IsRing ring → (f : List Term) → IsCondition ring f → IsCondition ring (monic_of ring f)
monic_condition ring r f h = record { poly = monic_poly ring r f h.poly; free = monic_free ring f h.free }

pub condition_added : (ring : Ring) → IsRing ring → (L : List (List Term)) (f : List Term) → AllByRecursion (IsCondition ring) L → IsCondition ring f
    → AllByRecursion (IsCondition ring) (with_member ring L f)
condition_added ring r L f h k = (all_added (IsCondition ring) ring L f).1 (h, monic_condition ring r f k)
