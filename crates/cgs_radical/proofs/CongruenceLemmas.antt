-- Polynomials that differ by a member of an ideal.
use Rattle.std.proofs.Common.{ℕ, ◌≡◌, ◌+◌, ◌-◌, ◌*◌, ◌%◌, ◌<◌, List, [], ◌++◌, length, refl, sym, ap, ◌∙◌, subst, arith, add-zero, append_assoc}
use Rattle.std.proofs.Math.Nat.{zero-mod}
use Rattle.std.proofs.lemmas.List.{append-nil}
use Rattle.cgs_field.proofs.ModularLemmas.{mod_add, mod_opposite}
use Rattle.cgs_poly.specs.Ring.{Ring}
use Rattle.cgs_poly.specs.Polynomial.{Term, places, total, IsOfRing}
use Rattle.cgs_poly.specs.Product.{scaled, multiple, all_products}
use Rattle.cgs_poly.proofs.SumLemmas.{Alike, alike_same, alike_trans, alike_append, total_append, total_scaled}
use Rattle.cgs_poly.proofs.ProductLemmas.{multiple_append, alike_multiple, products_append}
use Rattle.cgs_poly.proofs.SpecialisedLemmas.{alike_products}
use Rattle.cgs_algebra.specs.Combination.{IsMember}
use Rattle.cgs_algebra.proofs.MemberLemmas.{same_member, zero_member, sum_member, multiple_member, member_product, scaled_member}

-- f is g and a member
pub record AreCongruent (ring : Ring) (F : List (List Term)) (f g : List Term) : Type 0 where
  pub rest : List Term
  pub member : IsMember ring F rest
  pub sum : Alike ring.modulus f (g ++ rest)

module _ (ring : Ring) (F : List (List Term)) (pos : 0 < ring.modulus) where
  pub alike_congruent : (f g : List Term) → Alike ring.modulus f g → AreCongruent ring F f g
  alike_congruent f g a = record { rest = []; member = zero_member ring F pos; sum = subst (λ h. Alike ring.modulus f h) (sym (append-nil g)) a }

  pub congruent_trans : (f g h : List Term) → AreCongruent ring F f g → AreCongruent ring F g h → AreCongruent ring F f h
  congruent_trans f g h a b = record {
    rest = b.rest ++ a.rest;
    member = sum_member ring F pos b.rest a.rest b.member a.member;
    sum = alike_trans a.sum
        (subst (λ k. Alike ring.modulus (g ++ a.rest) k) (append_assoc h b.rest a.rest) (alike_append b.sum (alike_same ring.modulus a.rest)));
  }

  pub congruent_back : (f g : List Term) → AreCongruent ring F f g → AreCongruent ring F g f
  congruent_back f g a =
      let minus : ℕ = ring.modulus - 1 in
      record {
        rest = scaled minus a.rest;
        member = scaled_member ring F pos minus a.rest (scaled minus a.rest) (λ w. ap (λ n. n % ring.modulus) (total_scaled w minus a.rest)) a.member;
        sum = record {
          under = λ w.
              let r : ℕ = total w a.rest in
              let s : (total w f + minus * r) % ring.modulus ≡ ((total w g + r) + minus * r) % ring.modulus =
              mod_add ring.modulus (total w f) (total w g + r) (minus * r) (minus * r)
              (a.sum.under w ∙ ap (λ n. n % ring.modulus) (total_append w g a.rest)) refl in
              let z : (total w g + (r + minus * r)) % ring.modulus ≡ (total w g + 0) % ring.modulus =
              mod_add ring.modulus (total w g) (total w g) (r + minus * r) 0 refl (mod_opposite ring.modulus r pos ∙ sym (zero-mod ring.modulus)) in
              let e : (total w g + r) + minus * r ≡ total w g + (r + minus * r) = omega arith in
              sym (ap (λ n. n % ring.modulus) (total_append w f (scaled minus a.rest) ∙ ap (λ n. total w f + n) (total_scaled w minus a.rest))
              ∙ (s ∙ (ap (λ n. n % ring.modulus) e ∙ (z ∙ ap (λ n. n % ring.modulus) (add-zero (total w g))))));
        };
      }

  pub congruent_product : (f g n : List Term) → IsOfRing ring n → AreCongruent ring F f g → AreCongruent ring F (all_products f n) (all_products g n)
  congruent_product f g n h a = record {
    rest = all_products a.rest n;
    member = member_product ring F pos n a.rest h a.member;
    sum = subst (λ k. Alike ring.modulus (all_products f n) k) (products_append g a.rest n) (alike_products a.sum (alike_same ring.modulus n));
  }

  pub congruent_multiple : (c : ℕ) (t : List ℕ) (f g : List Term) → length t ≡ places ring
      → AreCongruent ring F f g → AreCongruent ring F (multiple c t f) (multiple c t g)
  congruent_multiple c t f g l a = record {
    rest = multiple c t a.rest;
    member = multiple_member ring F pos c t a.rest l a.member;
    sum = subst (λ k. Alike ring.modulus (multiple c t f) k) (multiple_append c t g a.rest) (alike_multiple c t a.sum);
  }

  -- with the same terms after both
  pub congruent_append : (f g k : List Term) → AreCongruent ring F f g → AreCongruent ring F (f ++ k) (g ++ k)
  congruent_append f g k a = record {
    rest = a.rest;
    member = a.member;
    sum = record {
      under = λ w.
          let s = mod_add ring.modulus (total w f) (total w (g ++ a.rest)) (total w k) (total w k) (a.sum.under w) refl in
          let e : total w (g ++ a.rest) + total w k ≡ total w ((g ++ k) ++ a.rest) =
          omega (arith, total_append w g a.rest, total_append w (g ++ k) a.rest, total_append w g k) in
          ap (λ n. n % ring.modulus) (total_append w f k) ∙ (s ∙ ap (λ n. n % ring.modulus) e);
    };
  }

  -- a polynomial that is congruent to a member is one
  pub congruent_member : (f g : List Term) → AreCongruent ring F f g → IsMember ring F g → IsMember ring F f
  congruent_member f g a m = same_member ring F pos a.sum (sum_member ring F pos g a.rest m a.member)
