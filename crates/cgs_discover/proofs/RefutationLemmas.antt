-- Where 1 is in the ideal of a refutation, the thesis follows.
use Rattle.std.proofs.Common.{ℕ, ◌≡◌, ◌+◌, ◌-◌, ◌*◌, ◌%◌, ◌<◌, Bool, true, false, List, [], ◌∷◌, map, IfSome, refl, sym, ap, ◌∙◌, subst, arith}
use Rattle.std.proofs.Common.{eqb}
use Rattle.std.proofs.Math.Nat.{mod-eq_of_lt, mod_self, mul_comm}
use Rattle.std.proofs.lemmas.Bool.{eqb-true, eqb-false}
use Rattle.std.specs.List.{AllByRecursion}
use Rattle.cgs_field.specs.Prime.{IsField}
use Rattle.cgs_field.proofs.PrimeLemmas.{modulus_field}
use Rattle.cgs_field.proofs.ModularLemmas.{mod_add}
use Rattle.cgs_poly.specs.Ring.{Ring}
use Rattle.cgs_poly.specs.Polynomial.{Term, places, total, one, IsRing, IsOfRing, IsCanonical, IsPoly}
use Rattle.cgs_poly.specs.Parameters.{power_at, variables_ring, specialised}
use Rattle.cgs_poly.proofs.RingLemmas.{ring_positive}
use Rattle.cgs_poly.proofs.CanonicalLemmas.{canonical_of_ring, canonical_alike, is_canonical}
use Rattle.cgs_poly.proofs.SpecialisedLemmas.{at_point, power_zeros, specialised_of_variables}
use Rattle.cgs_algebra.specs.Specialisation.{specialised_list}
use Rattle.cgs_algebra.proofs.PointLemmas.{total_specialised}
use Rattle.cgs_list.proofs.ListLemmas.{all_push, all_weaker}
use Rattle.cgs_problem.specs.Problems.{IsThesis}
use Rattle.cgs_discover.specs.Refutation.{with_variable, lifted, y_thesis_terms, y_thesis, refuting}
use Rattle.cgs_discover.specs.Laws.{value_of, HasOneAt, IsZeroAt, ThesisFollows}
use Rattle.cgs_discover.proofs.ZeroLemmas.{IsZeroOf, all_mapped, member_zero}
use Rattle.cgs_discover.proofs.LiftLemmas.{lifted_of_ring, total_lifted, total_y_thesis, y_terms_of_ring}

all_both : (P Q : List Term → Type 0) (F : List (List Term)) → AllByRecursion P F → AllByRecursion Q F → AllByRecursion (λ f. P f × Q f) F
all_both P Q [] h k = tt
all_both P Q (f ∷ F) h k = ((h.0, k.0), all_both P Q F h.1 k.1)

-- polynomials F that become 0 at x, and a thesis T
module _ (ring : Ring) (F : List (List Term)) (T : List Term) (a x : List ℕ) (r : IsRing ring)
    (zeros : AllByRecursion (λ g. IsCanonical ring g × IsZeroAt ring a x g) F) (thesis : IsCanonical ring T) where
  pos : 0 < ring.modulus
  pos = ring_positive ring r

  field : IsField ring.modulus
  field = modulus_field ring.modulus r.modulus

  abbrev wide : Ring
  wide = with_variable ring

  abbrev w : List ℕ → ℕ
  w m = power_at m x

  -- with y at b and the variables at x
  abbrev W : ℕ → List ℕ → ℕ
  W b m = power_at m (b ∷ x)

  -- a polynomial of the wide ring that is 0 there
  abbrev Zero : ℕ → List Term → Type 0
  Zero b g = IsOfRing wide g × (total (at_point wide a (W b)) g % ring.modulus ≡ 0)

  -- what T comes to
  abbrev v : ℕ
  v = total (at_point ring a w) T

  value_is : (f : List Term) → IsCanonical ring f → value_of ring x (specialised ring a f) ≡ total (at_point ring a w) f % ring.modulus
  value_is f k = total_specialised ring a w f pos (canonical_of_ring ring f k)

  lifted_zero : (b : ℕ) (g : List Term) → IsCanonical ring g × IsZeroAt ring a x g → Zero b (lifted ring g)
  lifted_zero b g h = (
    lifted_of_ring ring g (canonical_of_ring ring g h.0),
    ap (λ n. n % ring.modulus) (total_lifted ring a x b g) ∙ (sym (value_is g h.0) ∙ h.1),
  )

  last_zero : (b : ℕ) → (v * b) % ring.modulus ≡ 1 → Zero b (y_thesis ring T)
  last_zero b e =
      let p : ℕ = ring.modulus in
      let terms : List Term = y_thesis_terms ring T in
      let of_ring = canonical_of_ring ring T thesis in
      let all : IsOfRing wide terms = y_terms_of_ring ring T of_ring in
      let sum : total (at_point wide a (W b)) terms ≡ (p - 1) + v * b = total_y_thesis ring a x b T of_ring ∙ ap (λ n. (p - 1) + n) (mul_comm b v) in
      let inverse : ((p - 1) + v * b) % p ≡ ((p - 1) + 1) % p = mod_add p (p - 1) (p - 1) (v * b) 1 refl (e ∙ sym (mod-eq_of_lt field.two)) in
      let whole : (p - 1) + 1 ≡ p = omega (arith, field.two) in (
        canonical_of_ring wide (y_thesis ring T) (is_canonical wide terms pos all),
        (canonical_alike wide terms pos all).under (at_point wide a (W b))
            ∙ (ap (λ n. n % p) sum ∙ (inverse ∙ (ap (λ n. n % p) whole ∙ mod_self p))),
      )

  refuting_zero : (b : ℕ) → (v * b) % ring.modulus ≡ 1 → AllByRecursion (Zero b) (refuting ring F T)
  refuting_zero b e =
      all_push (Zero b) (map (lifted ring) F) (y_thesis ring T)
      (all_mapped (λ g. IsCanonical ring g × IsZeroAt ring a x g) (Zero b) (lifted ring) F (lifted_zero b) zeros) (last_zero b e)

  no_one : (b : ℕ) → (v * b) % ring.modulus ≡ 1 → HasOneAt wide a (refuting ring F T) → ⊥
  no_one b e member =
      let V : Ring = variables_ring wide in
      let special : (g : List Term) → Zero b g → IsZeroOf V (b ∷ x) (specialised wide a g) =
      λ g z. (specialised_of_variables wide a pos g z.0, total_specialised wide a (W b) g pos z.0 ∙ z.1) in
      let all = all_mapped (Zero b) (IsZeroOf V (b ∷ x)) (specialised wide a) (refuting ring F T) special (refuting_zero b e) in
      let zero : value_of V (b ∷ x) (one V) ≡ 0 = member_zero V (b ∷ x) (specialised_list wide a (refuting ring F T)) (one V) pos all member in
      let unit : total (W b) (one V) ≡ 1 = rw (power_zeros (places V) (b ∷ x)) refl in
      let bad : ◌≡◌ {A = ℕ} 1 0 = sym (mod-eq_of_lt field.two) ∙ (ap (λ n. n % ring.modulus) (sym unit) ∙ zero) in
      omega arith

  pub thesis_follows : HasOneAt wide a (refuting ring F T) → IsZeroAt ring a x T
  thesis_follows member = value_is T thesis ∙ by_zero (eqb (v % ring.modulus) 0) refl
    where
      by_zero : (t : Bool) → eqb (v % ring.modulus) 0 ≡ t → v % ring.modulus ≡ 0
      by_zero true e = eqb-true (v % ring.modulus) 0 e
      by_zero false e = let b = field.inverse v (eqb-false (v % ring.modulus) 0 e) in absurd (no_one b.0 b.1 member)

-- of a problem
pub problem_thesis_follows : ThesisFollows
problem_thesis_follows problem T a x h t member zeros =
    let thesis : IsThesis problem.ring T = subst (λ o. IfSome o (IsThesis problem.ring)) t h.thesis in
    thesis_follows problem.ring problem.polys T a x h.ring
    (all_both (IsCanonical problem.ring) (IsZeroAt problem.ring a x) problem.polys
    (all_weaker (IsPoly problem.ring) (IsCanonical problem.ring) problem.polys h.polys (λ f p. p.canonical)) zeros) thesis.poly.canonical member
