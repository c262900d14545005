-- The members of an ideal: closed under sums, multiples and products, and under the ideals of members.
use Rattle.std.proofs.Common.{ℕ, ◌≡◌, ◌*◌, ◌%◌, ◌<◌, List, [], ◌∷◌, ◌++◌, length, get_or, replicate, refl, sym, ap, ◌∙◌}
use Rattle.std.proofs.lemmas.List.{length-replicate, append-nil}
use Rattle.cgs_poly.specs.Ring.{Ring}
use Rattle.cgs_poly.specs.Polynomial.{Term, places, total, IsOfRing}
use Rattle.cgs_poly.specs.Product.{multiple, all_products}
use Rattle.cgs_poly.proofs.SumLemmas.{Alike, alike_same, alike_trans, alike_append, alike_from_coefficients, coefficients_from_alike}
use Rattle.cgs_poly.proofs.MultipleLemmas.{multiple_one, total_products_comm}
use Rattle.cgs_algebra.specs.Combination.{Summand, summand, combined, IsCombination, IsMember}
use Rattle.cgs_algebra.proofs.CombinationLemmas.{combined_append, combination_append, shifted_summands, combined_shifted, combination_shifted, scaled_summands}
use Rattle.cgs_algebra.proofs.CombinationLemmas.{total_scaled_summands, combination_scaled}
use Rattle.cgs_poly.proofs.ProductLemmas.{alike_multiple}
use Rattle.cgs_field.proofs.ModularLemmas.{mod_mul}
use Rattle.std.specs.List.{AllByRecursion}
use Rattle.cgs_list.proofs.ListLemmas.{all_by_places, all_at_place}
use Rattle.cgs_algebra.proofs.PlaceLemmas.{member_at}

pub products_comm : (p : ℕ) (f g : List Term) → Alike p (all_products f g) (all_products g f)
products_comm p f g = record { under = λ w. ap (λ n. n % p) (total_products_comm w f g) }

module _ (ring : Ring) (F : List (List Term)) (pos : 0 < ring.modulus) where
  -- what a member's combination comes to
  pub member_alike : {f : List Term} → (h : IsMember ring F f) → Alike ring.modulus f (combined F h.summands)
  member_alike h = alike_from_coefficients pos h.sum

  pub member_from_alike : {f : List Term} → (ks : List Summand) → IsCombination ring F ks → Alike ring.modulus f (combined F ks) → IsMember ring F f
  member_from_alike ks h a = record { summands = ks; combination = h; sum = coefficients_from_alike a }

  -- another list of terms for the same sum
  pub same_member : {f g : List Term} → Alike ring.modulus g f → IsMember ring F f → IsMember ring F g
  same_member a h = member_from_alike h.summands h.combination (alike_trans a (member_alike h))

  pub zero_member : IsMember ring F []
  zero_member = member_from_alike [] tt (alike_same ring.modulus [])

  pub sum_member : (f g : List Term) → IsMember ring F f → IsMember ring F g → IsMember ring F (f ++ g)
  sum_member f g h k =
      member_from_alike (h.summands ++ k.summands) (combination_append ring F h.summands k.summands h.combination k.combination)
      (rw (combined_append F h.summands k.summands) (alike_append (member_alike h) (member_alike k)))

  pub multiple_member : (c : ℕ) (t : List ℕ) (f : List Term) → length t ≡ places ring → IsMember ring F f → IsMember ring F (multiple c t f)
  multiple_member c t f l h =
      member_from_alike (shifted_summands c t h.summands) (combination_shifted ring F c t h.summands l h.combination)
      (rw (combined_shifted F c t h.summands) (alike_multiple c t (member_alike h)))

  -- a polynomial times a member, and a member times a polynomial

  pub product_member : (f g : List Term) → IsOfRing ring f → IsMember ring F g → IsMember ring F (all_products f g)
  product_member [] g h m = zero_member
  product_member (x ∷ f) g h m =
      let t : List Term = multiple x.coefficient x.exponents g in
      sum_member t (all_products f g) (multiple_member x.coefficient x.exponents g h.0 m) (product_member f g h.1 m)

  pub member_product : (f g : List Term) → IsOfRing ring f → IsMember ring F g → IsMember ring F (all_products g f)
  member_product f g h m = same_member (products_comm ring.modulus g f) (product_member f g h m)

  -- g comes to c times f
  pub scaled_member : (c : ℕ) (f g : List Term) → ((w : List ℕ → ℕ) → total w g % ring.modulus ≡ (c * total w f) % ring.modulus)
      → IsMember ring F f → IsMember ring F g
  scaled_member c f g e h =
      member_from_alike (scaled_summands c h.summands) (combination_scaled ring F c h.summands h.combination)
      (record {
        under = λ w.
            e w ∙ (mod_mul ring.modulus c c (total w f) (total w (combined F h.summands)) refl ((member_alike h).under w)
            ∙ ap (λ n. n % ring.modulus) (sym (total_scaled_summands w F c h.summands)));
      })

  -- each polynomial of the list
  pub generator_member : (i : ℕ) → i < length F → IsOfRing ring (get_or F i []) → IsMember ring F (get_or F i [])
  generator_member i l h =
      let g : List Term = get_or F i [] in
      let e : multiple 1 (replicate (places ring) 0) g ++ [] ≡ g = append-nil (multiple 1 (replicate (places ring) 0) g) ∙ multiple_one ring g h in
      member_from_alike (summand 1 (replicate (places ring) 0) i ∷ []) (length-replicate {A = ℕ} (places ring) 0, l, tt) (rw e (alike_same ring.modulus g))

-- each polynomial of a list is in its ideal
pub generators_inside : (ring : Ring) (F : List (List Term)) → 0 < ring.modulus → AllByRecursion (IsOfRing ring) F → AllByRecursion (IsMember ring F) F
generators_inside ring F pos ok = all_by_places (IsMember ring F) [] F (λ i l. generator_member ring F pos i l (all_at_place (IsOfRing ring) [] F ok i l))

module _ (ring : Ring) (F G : List (List Term)) (pos : 0 < ring.modulus) (inside : AllByRecursion (IsMember ring G) F) where
  pub combined_member : (ks : List Summand) → IsCombination ring F ks → IsMember ring G (combined F ks)
  combined_member [] h = zero_member ring G pos
  combined_member (k ∷ ks) h =
      let g : List Term = get_or F k.place [] in
      sum_member ring G pos (multiple k.coefficient k.monomial g) (combined F ks)
      (multiple_member ring G pos k.coefficient k.monomial g h.0 (member_at ring G F inside k.place h.1)) (combined_member ks h.2)

  -- the ideal of members of an ideal is inside it
  pub member_of_members : (f : List Term) → IsMember ring F f → IsMember ring G f
  member_of_members f h = same_member ring G pos (member_alike ring F pos h) (combined_member h.summands h.combination)
