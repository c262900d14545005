-- The remainder of a product is congruent to it.
use Rattle.std.proofs.Common.{ℕ, ◌≡◌, ◌-◌, ◌<◌, List, [], ◌∷◌, replicate, nat_lt, refl, ◌∙◌, subst}
use Rattle.std.specs.List.{AllByRecursion}
use Rattle.std.proofs.lemmas.List.{append-nil, length-replicate}
use Rattle.cgs_poly.specs.Ring.{Ring}
use Rattle.cgs_poly.specs.Polynomial.{one, Term, places, IsOfRing, IsCanonical, canonical}
use Rattle.cgs_poly.specs.Product.{multiple, all_products}
use Rattle.cgs_poly.proofs.SumLemmas.{Alike, alike_same, alike_back, alike_trans, alike_swap}
use Rattle.cgs_poly.proofs.CanonicalLemmas.{canonical_alike, canonical_of_ring, is_canonical}
use Rattle.cgs_poly.proofs.ProductLemmas.{multiple_append, multiple_multiple, products_append, products_of_ring}
use Rattle.cgs_poly.proofs.MultipleLemmas.{multiple_one}
use Rattle.cgs_algebra.specs.Combination.{combined, IsMember}
use Rattle.cgs_algebra.specs.Groebner.{AreMonic}
use Rattle.cgs_algebra.proofs.MemberLemmas.{member_from_alike, member_of_members, products_comm}
use Rattle.cgs_divide.specs.Ending.{ended}
use Rattle.cgs_divide.specs.DivisionRun.{is_too_high}
use Rattle.cgs_divide.specs.Division.{HasDivided}
use Rattle.cgs_divide.proofs.DivisionLemmas.{left_divided}
use Rattle.cgs_divide.proofs.EndingLemmas.{ended_same, has_followed, past_budget, past_degree}
use Rattle.cgs_divide.proofs.QuotientCombinationLemmas.{summands_of, division_combination, division_sum}
use Rattle.cgs_radical.specs.EmptinessRun.{product_cost, product_remainder, products_remainder}
use Rattle.cgs_radical.specs.Laws.{product_of}
use Rattle.cgs_radical.proofs.CongruenceLemmas.{AreCongruent, alike_congruent, congruent_trans, congruent_product}

-- products

one_of_ring : (ring : Ring) → IsOfRing ring (one ring)
one_of_ring ring = (length-replicate {A = ℕ} (places ring) 0, tt)

pub product_of_ring : (ring : Ring) (N : List (List Term)) → AllByRecursion (IsOfRing ring) N → IsOfRing ring (product_of ring N)
product_of_ring ring [] h = one_of_ring ring
product_of_ring ring (n ∷ N) h = products_of_ring ring n (product_of ring N) h.0 (product_of_ring ring N h.1)

-- the multiple of a product by a term
products_multiple : (c : ℕ) (t : List ℕ) (f g : List Term) → all_products (multiple c t f) g ≡ multiple c t (all_products f g)
products_multiple c t [] g = refl
products_multiple c t (x ∷ f) g =
    cc (
      multiple_multiple c x.coefficient t x.exponents g,
      products_multiple c t f g,
      multiple_append c t (multiple x.coefficient x.exponents g) (all_products f g),
    )

products_assoc : (f g h : List Term) → all_products (all_products f g) h ≡ all_products f (all_products g h)
products_assoc [] g h = refl
products_assoc (x ∷ f) g h =
    products_append (multiple x.coefficient x.exponents g) (all_products f g) h ∙ cc (products_multiple x.coefficient x.exponents g h, products_assoc f g h)

-- times 1
pub one_times : (ring : Ring) (f : List Term) → IsOfRing ring f → all_products (one ring) f ≡ f
one_times ring f h = append-nil (multiple 1 (replicate (places ring) 0) f) ∙ multiple_one ring f h

module _ (ring : Ring) (F B : List (List Term)) (pos : 0 < ring.modulus) (ok : AreMonic ring B)
    (inside : AllByRecursion (IsMember ring F) B) where
  abbrev Same : List Term → List Term → Type 0
  Same f g = AreCongruent ring F f g

  -- what a division leaves
  divided_same : (f r : List Term) (quotients : List (List Term)) → HasDivided ring B f r quotients → Same f r
  divided_same f r quotients d = record {
    rest = combined B (summands_of quotients);
    member = member_of_members ring B F pos inside (combined B (summands_of quotients))
        (member_from_alike ring B pos (summands_of quotients) (division_combination ring B f r quotients d)
        (alike_same ring.modulus (combined B (summands_of quotients))));
    sum = alike_trans (division_sum ring B f r quotients d pos) (alike_swap ring.modulus (combined B (summands_of quotients)) r);
  }

  record IsRemainder (f r : List Term) : Type 0 where
    same : Same f r
    canonical : IsCanonical ring r

  product_same : (q n : List Term) (units left : ℕ) (r : List Term) → IsOfRing ring q → IsOfRing ring n
      → product_remainder ring B q n units ≡ ended r left → IsRemainder (all_products q n) r
  product_same q n units left r hq hn e =
      let paid = past_budget (nat_lt units (product_cost q n)) units _ r left e in
      let run = past_degree (is_too_high (all_products q n)) (units - product_cost q n) _ r left paid in
      let hp = products_of_ring ring q n hq hn in
      let k = left_divided ring B (units - product_cost q n) left (canonical ring (all_products q n)) r pos ok
      (is_canonical ring (all_products q n) pos hp) run in
      record {
        same = congruent_trans ring F pos (all_products q n) (canonical ring (all_products q n)) r
            (alike_congruent ring F pos (all_products q n) (canonical ring (all_products q n)) (alike_back (canonical_alike ring (all_products q n) pos hp)))
            (divided_same (canonical ring (all_products q n)) r k.quotients k.divided);
        canonical = k.divided.canonical_remainder;
      }

  -- the remainder that is found at last is congruent to the whole product
  pub products_same : (N : List (List Term)) (q r : List Term) (units left : ℕ) → AllByRecursion (IsOfRing ring) N
      → IsCanonical ring q → products_remainder ring B N q units ≡ ended r left
      → Same (all_products q (product_of ring N)) r
  products_same N [] r units left h k e =
      alike_congruent ring F pos [] r (subst (λ s. Alike ring.modulus [] s) ((ended_same [] r units left (nothing N e)).0) (alike_same ring.modulus []))
    where
      nothing : (N : List (List Term)) → products_remainder ring B N [] units ≡ ended r left → ended [] units ≡ ended r left
      nothing [] e = e
      nothing (n ∷ N) e = e
  products_same [] (x ∷ q) r units left h k e =
      let s : x ∷ q ≡ r = (ended_same (x ∷ q) r units left e).0 in
      let of_ring = canonical_of_ring ring (x ∷ q) k in
      alike_congruent ring F pos (all_products (x ∷ q) (one ring)) r
      (subst (λ f. Alike ring.modulus (all_products (x ∷ q) (one ring)) f) s
      (subst (λ f. Alike ring.modulus (all_products (x ∷ q) (one ring)) f) (one_times ring (x ∷ q) of_ring) (products_comm ring.modulus (x ∷ q) (one ring))))
  products_same (n ∷ N) (x ∷ q) r units left h k e =
      let f = has_followed (product_remainder ring B (x ∷ q) n units) (products_remainder ring B N) r left e in
      let a = product_same (x ∷ q) n units f.units f.first (canonical_of_ring ring (x ∷ q) k) h.0 f.ran in
      let P : List Term = product_of ring N in
      let b = products_same N f.first r f.units left h.1 a.canonical f.then in
      let c = congruent_product ring F pos (all_products (x ∷ q) n) f.first P (product_of_ring ring N h.1) a.same in
      subst (λ g. Same g r) (products_assoc (x ∷ q) n P) (congruent_trans ring F pos (all_products (all_products (x ∷ q) n) P) (all_products f.first P) r c b)

  -- and canonical
  pub products_canonical : (N : List (List Term)) (q r : List Term) (units left : ℕ) → AllByRecursion (IsOfRing ring) N
      → IsCanonical ring q → products_remainder ring B N q units ≡ ended r left → IsCanonical ring r
  products_canonical [] [] r units left h k e = subst (λ f. IsCanonical ring f) (ended_same [] r units left e).0 tt
  products_canonical (n ∷ N) [] r units left h k e = subst (λ f. IsCanonical ring f) (ended_same [] r units left e).0 tt
  products_canonical [] (x ∷ q) r units left h k e = subst (λ f. IsCanonical ring f) (ended_same (x ∷ q) r units left e).0 k
  products_canonical (n ∷ N) (x ∷ q) r units left h k e =
      let f = has_followed (product_remainder ring B (x ∷ q) n units) (products_remainder ring B N) r left e in
      let a = product_same (x ∷ q) n units f.units f.first (canonical_of_ring ring (x ∷ q) k) h.0 f.ran in
      products_canonical N f.first r f.units left h.1 a.canonical f.then
