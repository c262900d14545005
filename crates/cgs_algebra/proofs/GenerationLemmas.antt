-- A Gröbner basis generates the ideal (Cox, Little, O'Shea, chapter 2, section 5, corollary 6).
use Rattle.std.proofs.Common.{ℕ, ◌≡◌, ◌+◌, ◌-◌, ◌*◌, ◌%◌, ◌<◌, true, List, [], ◌∷◌, ◌++◌, length, get_or, refl, sym, ap, ◌∙◌, arith}
use Rattle.std.proofs.Math.Nat.{add-zero, zero-mod, mod-eq_of_lt, mul_assoc}
use Rattle.std.specs.List.{AllByRecursion}
use Rattle.std.specs.declared.cmp.Ordering.TheVariants.{Less}
use Rattle.cgs_field.specs.Prime.{IsField}
use Rattle.cgs_field.proofs.ModularLemmas.{mod_add, mod_opposite}
use Rattle.cgs_exps.specs.Monomial.{product, divides}
use Rattle.cgs_order.specs.TermOrder.{compared}
use Rattle.cgs_order.proofs.OrderLemmas.{compared_induction}
use Rattle.cgs_poly.specs.Ring.{Ring}
use Rattle.cgs_poly.specs.Polynomial.{Term, term, places, order_of, total, IsOfRing, StartsBelow, IsCanonical, canonical}
use Rattle.cgs_poly.specs.Product.{multiple, leading_monomial}
use Rattle.cgs_poly.proofs.SumLemmas.{Alike, alike_same, alike_back, alike_trans, alike_append, total_append}
use Rattle.cgs_poly.proofs.CanonicalLemmas.{append_of_ring, is_canonical, canonical_alike, canonical_starts}
use Rattle.cgs_poly.proofs.ProductLemmas.{multiple_of_ring, total_multiple}
use Rattle.cgs_algebra.specs.Combination.{Summand, combined, IsCombination, IsMember, SameIdeal}
use Rattle.cgs_algebra.specs.Groebner.{IsGroebnerBasis}
use Rattle.cgs_algebra.proofs.MemberLemmas.{member_alike, same_member, zero_member, sum_member, multiple_member, generator_member, member_of_members}
use Rattle.cgs_algebra.proofs.FieldLemmas.{IsOpposite, opposite_in_field}
use Rattle.cgs_algebra.proofs.ReductionLemmas.{cofactor, cofactor_length, remainder, remainder_of_ring, remainder_below, remainder_alike}
use Rattle.cgs_algebra.proofs.PlaceLemmas.{canonical_at, of_ring_at, member_at, not_zero_at, lead_place}

-- f + g - g is f
added_back : (p q : ℕ) (t : List ℕ) (f g : List Term) → 0 < p → Alike p ((f ++ multiple q t g) ++ multiple ((p - 1) * q) t g) f
added_back p q t f g pos = record {
  under = λ w.
      let m : ℕ = q * total (λ n. w (product t n)) g in
      let i : total w ((f ++ multiple q t g) ++ multiple ((p - 1) * q) t g) ≡ total w f + (m + (p - 1) * m) =
      sums (p - 1) q (total (λ n. w (product t n)) g) (total w f) _ _ _ _
      (total_append w (f ++ multiple q t g) (multiple ((p - 1) * q) t g)) (total_append w f (multiple q t g)) (total_multiple w q t g)
      (total_multiple w ((p - 1) * q) t g) in
      let n = mod_add p (total w f) (total w f) (m + (p - 1) * m) 0 refl (mod_opposite p m pos ∙ sym (zero-mod p)) in
      ap (λ k. k % p) i ∙ (n ∙ ap (λ k. k % p) (add-zero (total w f)));
}
  where
    sums : (r q v s i j k l : ℕ) → i ≡ j + k → j ≡ s + l → l ≡ q * v → k ≡ (r * q) * v → i ≡ s + (q * v + r * (q * v))
    sums r q v s i j k l a b c d = let e : (r * q) * v ≡ r * (q * v) = mul_assoc r q v in omega arith

-- each member has the terms of the ring, but for terms that add up to nothing
combined_of_ring : (ring : Ring) (F : List (List Term)) → AllByRecursion (IsCanonical ring) F → (ks : List Summand)
    → IsCombination ring F ks → IsOfRing ring (combined F ks)
combined_of_ring ring F ok [] h = tt
combined_of_ring ring F ok (k ∷ ks) h =
    append_of_ring ring (multiple k.coefficient k.monomial (get_or F k.place [])) (combined F ks)
    (multiple_of_ring ring k.coefficient k.monomial (get_or F k.place []) h.0 (of_ring_at ring F ok k.place h.1)) (combined_of_ring ring F ok ks h.2)

module _ (ring : Ring) (F G : List (List Term)) (field : IsField ring.modulus) (pos : 0 < ring.modulus) (basis : IsGroebnerBasis ring G F) where
  generator : (i : ℕ) → i < length G → IsMember ring G (get_or G i [])
  generator i l = generator_member ring G pos i l (of_ring_at ring G basis.canonical i l)

  abbrev Claim : List ℕ → Type 0
  Claim m = (c : ℕ) (f : List Term) → IsCanonical ring (term c m ∷ f) → IsMember ring F (term c m ∷ f) → IsMember ring G (term c m ∷ f)

  abbrev Lower : List ℕ → Type 0
  Lower m = (n : List ℕ) → length n ≡ places ring → compared (order_of ring) n m ≡ Less → Claim n

  lower_member : (m : List ℕ) → Lower m → (f g : List Term) → Alike ring.modulus g f → IsCanonical ring g → StartsBelow ring m g → IsMember ring F f
      → IsMember ring G f
  lower_member m lower f [] e k s h = same_member ring G pos (alike_back e) (zero_member ring G pos)
  lower_member m lower f (y ∷ g) e k s h = same_member ring G pos (alike_back e) (lower y.exponents k.2 s y.coefficient g k (same_member ring F pos e h))

  by_member : (m : List ℕ) → Lower m → (c : ℕ) (f : List Term) → IsCanonical ring (term c m ∷ f) → IsMember ring F (term c m ∷ f)
      → (g : List Term) → IsCanonical ring g → (g ≡ [] → ⊥) → IsMember ring F g → IsMember ring G g → divides (leading_monomial g) m ≡ true
      → IsMember ring G (term c m ∷ f)
  by_member m lower c f poly inside [] k some ig jg d = absurd (some refl)
  by_member m lower c f poly inside (z ∷ g) k some ig jg d =
      let cancels : IsOpposite ring.modulus c z.coefficient =
      opposite_in_field ring.modulus c z.coefficient field (λ e. omega (arith, mod-eq_of_lt k.1, e, k.0)) in
      let t : List ℕ = cofactor ring (term c m) f z g poly k d cancels in
      let lt : length t ≡ places ring = cofactor_length ring (term c m) f z g poly k d cancels in
      let q : ℕ = cancels.factor in
      let rest : List Term = remainder ring (term c m) f z g poly k d cancels in
      let of_ring = remainder_of_ring ring (term c m) f z g poly k d cancels in
      let below = remainder_below ring (term c m) f z g poly k d cancels in
      let same : Alike ring.modulus rest ((term c m ∷ f) ++ multiple q t (z ∷ g)) = remainder_alike ring (term c m) f z g poly k d cancels in
      let inside_rest : IsMember ring F rest =
      same_member ring F pos same (sum_member ring F pos (term c m ∷ f) (multiple q t (z ∷ g)) inside (multiple_member ring F pos q t (z ∷ g) lt ig)) in
      let low : IsMember ring G rest = lower_member m lower rest (canonical ring rest) (canonical_alike ring rest pos of_ring)
      (is_canonical ring rest pos of_ring) (canonical_starts ring m rest pos of_ring below) inside_rest in
      let back : List Term = multiple ((ring.modulus - 1) * q) t (z ∷ g) in
      same_member ring G pos
      (alike_trans (alike_back (added_back ring.modulus q t (term c m ∷ f) (z ∷ g) pos)) (alike_append (alike_back same) (alike_same ring.modulus back)))
      (sum_member ring G pos rest back low (multiple_member ring G pos ((ring.modulus - 1) * q) t (z ∷ g) lt jg))

  claim_step : (m : List ℕ) → length m ≡ places ring → Lower m → Claim m
  claim_step m lm lower c f poly inside =
      let i = lead_place G m (basis.leads (term c m ∷ f) poly inside (λ e. cc)) in
      by_member m lower c f poly inside (get_or G i.0 []) (canonical_at ring G basis.canonical i.0 i.1) (not_zero_at G basis.not_zero i.0 i.1)
      (member_at ring F G basis.members i.0 i.1) (generator i.0 i.1) i.2

  canonical_generated : (f : List Term) → IsCanonical ring f → IsMember ring F f → IsMember ring G f
  canonical_generated [] k h = zero_member ring G pos
  canonical_generated (y ∷ f) k h = compared_induction (order_of ring) Claim claim_step y.exponents k.2 y.coefficient f k h

  -- each member of the ideal is one of that of its Gröbner basis
  generated : (f_ok : AllByRecursion (IsCanonical ring) F) (f : List Term) → IsMember ring F f → IsMember ring G f
  generated f_ok f h =
      let g : List Term = combined F h.summands in
      let of_ring : IsOfRing ring g = combined_of_ring ring F f_ok h.summands h.combination in
      let e : Alike ring.modulus (canonical ring g) f = alike_trans (canonical_alike ring g pos of_ring) (alike_back (member_alike ring F pos h)) in
      same_member ring G pos (alike_back e) (canonical_generated (canonical ring g) (is_canonical ring g pos of_ring) (same_member ring F pos e h))

pub basis_generates : (ring : Ring) (F G : List (List Term)) → IsField ring.modulus → AllByRecursion (IsCanonical ring) F → IsGroebnerBasis ring G F
    → SameIdeal ring G F
basis_generates ring F G field f_ok basis =
    let pos : 0 < ring.modulus = omega (arith, field.two) in
    record {
      first = member_of_members ring G F pos basis.members;
      second = generated ring F G field pos basis f_ok;
    }
