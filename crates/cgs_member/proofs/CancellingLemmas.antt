-- What the products are that cancel the leading parts, as the code makes them.
use Rattle.std.proofs.Common.{ℕ, ◌≡◌, ◌+◌, ◌-◌, ◌*◌, ◌%◌, ◌<◌, ◌≤◌, List, [], ◌∷◌, ◌++◌, length, take, drop, replicate}
use Rattle.std.proofs.Common.{refl, sym, ap, ◌∙◌, subst, arith}
use Rattle.std.proofs.Math.Nat.{mod-eq_of_lt}
use Rattle.std.proofs.Math.Seq.{take-append-add}
use Rattle.std.proofs.lemmas.List.{take-replicate, drop-replicate}
use Rattle.cgs_field.proofs.PrimeLemmas.{modulus_field}
use Rattle.cgs_field.proofs.ModularLemmas.{mod_mul}
use Rattle.cgs_exps.specs.Monomial.{product}
use Rattle.cgs_exps.proofs.MonomialLemmas.{product_assoc, product_comm, product_length}
use Rattle.cgs_poly.specs.Ring.{Ring}
use Rattle.cgs_poly.specs.Polynomial.{Term, term, places, order_of, total, canonical, IsRing, IsOfRing, IsCanonical}
use Rattle.cgs_poly.specs.Product.{scaled, multiple, all_products}
use Rattle.cgs_poly.specs.Parameters.{lc_x}
use Rattle.cgs_poly.proofs.RingLemmas.{ring_positive}
use Rattle.cgs_poly.proofs.SumLemmas.{Alike, alike_append, total_scaled}
use Rattle.cgs_poly.proofs.CanonicalLemmas.{canonical_alike, canonical_same, canonical_itself, canonical_of_ring, is_canonical, append_of_ring}
use Rattle.cgs_poly.proofs.ProductLemmas.{multiple_of_ring, products_of_ring, scaled_of_ring, total_products, total_multiple}
use Rattle.cgs_poly.proofs.ProductOrderLemmas.{compared_shift}
use Rattle.cgs_poly.proofs.ChangedLemmas.{changed_canonical}
use Rattle.cgs_poly.proofs.MultipleLemmas.{total_equal}
use Rattle.cgs_poly.proofs.ParameterLemmas.{lc_x_canonical}
use Rattle.cgs_poly.specs.Merge.{changed}
use Rattle.cgs_algebra.proofs.WeightLemmas.{products_multiple}
use Rattle.cgs_member.specs.ReductionRun.{lead_quotient, cancelled}
use Rattle.cgs_member.proofs.CongruenceLemmas.{lead_quotient_length, cancelled_of_ring}

-- the number -1 as the code makes it
pub minus_one : (p a c : ℕ) → 1 < p → a ≡ 1 % p → c ≡ (p - a) % p → c ≡ p - 1
minus_one p a c two e h =
    let o : a ≡ 1 = e ∙ mod-eq_of_lt two in
    let l : p - 1 < p = omega arith in
    h ∙ (ap (λ n. (p - n) % p) o ∙ mod-eq_of_lt l)

-- a quotient at the front of zeros
pub quotient_places : (q : List ℕ) (v k n : ℕ) → length q ≡ v → v + k ≤ n → take (v + k) (q ++ drop v (replicate n 0)) ≡ q ++ replicate k 0
quotient_places q v k n l h =
    let a = take-append-add q (drop v (replicate n 0)) k in
    let b : take k (drop v (replicate {A = ℕ} n 0)) ≡ replicate k 0 = ap (take k) (drop-replicate v n 0) ∙ take-replicate k (n - v) 0 (omega arith) in
    ap (λ i. take (i + k) (q ++ drop v (replicate n 0))) (sym l) ∙ (a ∙ ap (λ z. q ++ z) b)

-- a polynomial times a monomial stays canonical

unchanged : (t : List ℕ) (g : List Term) → changed (λ d. 1 * d) (product t) g ≡ multiple 1 t g
unchanged t [] = refl
unchanged t (x ∷ g) = ap (λ k. term (1 * x.coefficient) (product t x.exponents) ∷ k) (unchanged t g)

pub moved_canonical : (ring : Ring) (t : List ℕ) (g : List Term) → length t ≡ places ring → IsCanonical ring g → IsCanonical ring (multiple 1 t g)
moved_canonical ring t g l h =
    subst (IsCanonical ring) (unchanged t g)
    (changed_canonical ring (λ d. 1 * d) (product t) (λ c s k. (omega arith, omega arith)) (λ m k. product_length t m (places ring) l k)
    (λ m n k j s. compared_shift (order_of ring) t m n (l ∙ sym k) (l ∙ sym j) ∙ s) g h)

-- 0 less -1 times a monomial times g is the monomial times g
pub moved : (ring : Ring) (c : ℕ) (z : List Term) (t u : List ℕ) (g : List Term) → IsRing ring → c ≡ ring.modulus - 1 → z ≡ [] → u ≡ t
    → length t ≡ places ring → IsCanonical ring g → canonical ring (z ++ multiple (ring.modulus - c) u g) ≡ multiple 1 t g
moved ring c z t u g r e n s l h =
    let two : 1 < ring.modulus = (modulus_field ring.modulus r.modulus).two in
    let one : ring.modulus - c ≡ 1 = omega (arith, e, two) in
    ap (λ k. canonical ring (k ++ multiple (ring.modulus - c) u g)) n
    ∙ (ap (λ k. canonical ring (multiple k u g)) one ∙ (ap (λ k. canonical ring (multiple 1 k g)) s
    ∙ canonical_itself ring (multiple 1 t g) (ring_positive ring r) (moved_canonical ring t g l h)))

-- a monomial and a number may stand with the first factor or with the second

either_factor : (w : List ℕ → ℕ) (k : ℕ) (t : List ℕ) (c b : List Term)
    → total w (all_products c (multiple k t b)) ≡ k * total w (all_products (multiple 1 t c) b)
either_factor w k t c b =
    let i = products_multiple w k t c b in
    let j = total_products w (multiple 1 t c) b in
    let l = total_multiple (λ m. total (λ n. w (product m n)) b) 1 t c in
    let e : total (λ u. total (λ n. w (product u (product t n))) b) c ≡ total (λ u. total (λ n. w (product (product t u) n)) b) c =
    total_equal (λ u. total (λ n. w (product u (product t n))) b) (λ u. total (λ n. w (product (product t u) n)) b) c
    (λ u. total_equal (λ n. w (product u (product t n))) (λ n. w (product (product t u) n)) b (λ n. ap w (turned u n))) in
    let one : 1 * total (λ u. total (λ n. w (product (product t u) n)) b) c ≡ total (λ u. total (λ n. w (product (product t u) n)) b) c = omega arith in
    i ∙ ap (λ n. k * n) (e ∙ sym (j ∙ (l ∙ one)))
  where
    turned : (u n : List ℕ) → product u (product t n) ≡ product (product t u) n
    turned u n = sym (product_assoc u t n) ∙ ap (λ m. product m n) (product_comm u t)

module _ (ring : Ring) (f b : List Term) (r : IsRing ring) (f_ok : IsCanonical ring f) (b_ok : IsCanonical ring b)
    (f_some : 0 < length f) (b_some : 0 < length b) where
  abbrev first : List Term
  first = all_products (lc_x ring b) f

  abbrev second : List Term
  second = all_products (multiple 1 (lead_quotient ring f b) (lc_x ring f)) b

  abbrev negated : List Term
  negated = all_products (lc_x ring f) (multiple (ring.modulus - 1) (lead_quotient ring f b) b)

  pos : 0 < ring.modulus
  pos = ring_positive ring r

  rf : IsOfRing ring f
  rf = canonical_of_ring ring f f_ok

  rb : IsOfRing ring b
  rb = canonical_of_ring ring b b_ok

  rd : IsOfRing ring (lc_x ring b)
  rd = canonical_of_ring ring (lc_x ring b) (lc_x_canonical ring b b_ok)

  rc : IsOfRing ring (lc_x ring f)
  rc = canonical_of_ring ring (lc_x ring f) (lc_x_canonical ring f f_ok)

  first_ring : IsOfRing ring first
  first_ring = products_of_ring ring (lc_x ring b) f rd rf

  second_ring : IsOfRing ring second
  second_ring =
      products_of_ring ring (multiple 1 (lead_quotient ring f b) (lc_x ring f)) b
      (multiple_of_ring ring 1 (lead_quotient ring f b) (lc_x ring f) (lead_quotient_length ring f b f_ok b_ok f_some b_some) rc) rb

  made_ring : (g : List Term) → IsOfRing ring g → IsOfRing ring (canonical ring g)
  made_ring g h = canonical_of_ring ring (canonical ring g) (is_canonical ring g pos h)

  negated_alike : Alike ring.modulus (canonical ring (scaled (ring.modulus - 1) (canonical ring second))) negated
  negated_alike = record {
    under = λ w.
        let p : ℕ = ring.modulus in
        let i = (canonical_alike ring (scaled (ring.modulus - 1) (canonical ring second)) pos
        (scaled_of_ring ring (ring.modulus - 1) (canonical ring second) (made_ring second second_ring))).under w in
        let j = ap (λ n. n % p) (total_scaled w (ring.modulus - 1) (canonical ring second)) in
        let k = mod_mul p (p - 1) (p - 1) (total w (canonical ring second)) (total w second) refl ((canonical_alike ring second pos second_ring).under w) in
        i ∙ (j ∙ (k ∙ ap (λ n. n % p) (sym (either_factor w (ring.modulus - 1) (lead_quotient ring f b) (lc_x ring f) b))));
  }

  pub cancelled_is : canonical ring (canonical ring first ++ canonical ring (scaled (ring.modulus - 1) (canonical ring second))) ≡ cancelled ring f b
  cancelled_is =
      let scaled_ring = scaled_of_ring ring (ring.modulus - 1) (canonical ring second) (made_ring second second_ring) in
      canonical_same ring (canonical ring first ++ canonical ring (scaled (ring.modulus - 1) (canonical ring second))) (first ++ negated) pos
      (append_of_ring ring (canonical ring first) (canonical ring (scaled (ring.modulus - 1) (canonical ring second))) (made_ring first first_ring)
      (made_ring (scaled (ring.modulus - 1) (canonical ring second)) scaled_ring))
      (cancelled_of_ring ring f b f_ok b_ok f_some b_some)
      (alike_append (canonical_alike ring first pos first_ring) negated_alike)
