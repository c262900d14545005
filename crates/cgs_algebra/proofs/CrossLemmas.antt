-- Two polynomials multiplied crosswise by their leading coefficients in the parameters, so that their leading parts cancel.
use Rattle.std.proofs.Common.{ℕ, ◌≡◌, ◌+◌, ◌-◌, ◌*◌, ◌%◌, ◌<◌, true, List, [], ◌∷◌, ◌++◌, length, take, drop, replicate, refl, sym, ap, ◌∙◌, subst, arith}
use Rattle.std.proofs.Math.Nat.{zero-mod, zero-mul, add-zero}
use Rattle.std.proofs.lemmas.List.{length-append, take-append-drop, length-replicate, take_at, drop_at}
use Rattle.cgs_field.proofs.ModularLemmas.{mod_add, mod_mul, mod_opposite}
use Rattle.cgs_exps.specs.Monomial.{product, divides, quotient}
use Rattle.cgs_exps.proofs.MonomialLemmas.{product_comm, one_product, quotient_product, quotient_length}
use Rattle.cgs_poly.specs.Ring.{Ring}
use Rattle.cgs_poly.specs.Polynomial.{Term, places, total, IsOfRing, IsCanonical}
use Rattle.cgs_poly.specs.Product.{multiple, all_products}
use Rattle.cgs_poly.specs.Parameters.{part_at, strip, without_variables, lead_x, lc_x, value_at}
use Rattle.cgs_poly.proofs.SumLemmas.{Alike, total_append}
use Rattle.cgs_poly.proofs.CanonicalLemmas.{AllBelow, canonical_of_ring}
use Rattle.cgs_poly.proofs.ProductLemmas.{multiple_of_ring, total_products}
use Rattle.cgs_poly.proofs.MultipleLemmas.{total_swap}
use Rattle.cgs_poly.proofs.ProductOrderLemmas.{take_product, drop_product, product_append}
use Rattle.cgs_poly.proofs.SpecialisedLemmas.{at_point, variables_length, parameters_length}
use Rattle.cgs_algebra.proofs.WeightLemmas.{Each, total_same, each_append, each_multiple, each_products, products_plus, multiple_plus, products_multiple}
use Rattle.cgs_algebra.proofs.PointLemmas.{power_weight, products_at_point, IsFree}
use Rattle.cgs_algebra.proofs.PartLemmas.{rest_of, part_total, HasVariables, part_each, VariablesBelow, rest_of_head, below_by_variables}
use Rattle.cgs_algebra.proofs.PartLemmas.{variables_below_ring, variables_below_product, strip_each, total_strip}
use Rattle.cgs_algebra.specs.Combination.{IsMember}
use Rattle.cgs_algebra.proofs.MemberLemmas.{same_member, zero_member, sum_member, multiple_member}

-- multiplying two terms crosswise by what the parameters have in the other
cross : (ring : Ring) (x t m n : List ℕ) → length m ≡ places ring → length n ≡ places ring → length t ≡ places ring → take ring.variables m ≡ x
    → product (take ring.variables t) (take ring.variables n) ≡ x → drop ring.variables t ≡ replicate ring.parameters 0
    → product (without_variables ring n) m ≡ product (without_variables ring m) (product t n)
cross ring x t m n lm ln lt ex et zt =
    let zeros : List ℕ = replicate ring.variables 0 in
    let lz : length zeros ≡ ring.variables = length-replicate {A = ℕ} ring.variables 0 in
    let lx : length x ≡ ring.variables = subst (λ k. length k ≡ ring.variables) ex (variables_length ring m lm) in
    let m_is : x ++ drop ring.variables m ≡ m = ap (λ k. k ++ drop ring.variables m) (sym ex) ∙ take-append-drop ring.variables m in
    let dt : drop ring.variables (product t n) ≡ drop ring.variables n = drop_product ring.variables t n
    ∙ (ap (λ k. product k (drop ring.variables n)) zt ∙ one_product ring.parameters (drop ring.variables n) (parameters_length ring n ln)) in
    let tx : take ring.variables (product t n) ≡ x = take_product ring.variables t n ∙ et in
    let tn_is : x ++ drop ring.variables n ≡ product t n = cc (tx, dt, take-append-drop ring.variables (product t n)) in
    let zx : product zeros x ≡ x = one_product ring.variables x lx in
    let left : product (zeros ++ drop ring.variables n) (x ++ drop ring.variables m) ≡ product zeros x
    ++ product (drop ring.variables n) (drop ring.variables m) = product_append zeros (drop ring.variables n) x (drop ring.variables m) (lz ∙ sym lx) in
    let right : product (zeros ++ drop ring.variables m) (x ++ drop ring.variables n) ≡ product zeros x
    ++ product (drop ring.variables m) (drop ring.variables n) = product_append zeros (drop ring.variables m) x (drop ring.variables n) (lz ∙ sym lx) in
    ap (λ k. product (zeros ++ drop ring.variables n) k) (sym m_is)
    ∙ (left ∙ (ap (λ k. product zeros x ++ k) (product_comm (drop ring.variables n) (drop ring.variables m))
    ∙ (sym right ∙ ap (λ k. product (zeros ++ drop ring.variables m) k) tn_is)))

module _ (ring : Ring) (pos : 0 < ring.modulus) where
  -- the two parts at the leads cancel
  parts_cancel : (w : List ℕ → ℕ) (x y t : List ℕ) (f g : List Term) → length t ≡ places ring → product (take ring.variables t) y ≡ x
      → drop ring.variables t ≡ replicate ring.parameters 0 → Each (HasVariables ring x) f → Each (HasVariables ring y) g
      → total w (all_products (strip ring g) f) ≡ total (λ u. total (λ n. w (product u (product t n))) g) (strip ring f)
  parts_cancel w x y t f g lt et zt hf hg =
      let bare : List ℕ → List ℕ = λ m. without_variables ring m in
      let i = total_products w (strip ring g) f in
      let j = total_strip ring (λ u. total (λ m. w (product u m)) f) g in
      let k = total_swap (λ n m. w (product (bare n) m)) g f in
      let l : total (λ m. total (λ n. w (product (bare n) m)) g) f ≡ total (λ m. total (λ n. w (product (bare m) (product t n))) g) f =
      total_same (HasVariables ring x) (λ m. total (λ n. w (product (bare n) m)) g) (λ m. total (λ n. w (product (bare m) (product t n))) g) f hf inner in
      let o = total_strip ring (λ u. total (λ n. w (product u (product t n))) g) f in
      i ∙ (j ∙ (k ∙ (l ∙ sym o)))
    where
      inner : (m : List ℕ) → HasVariables ring x m
          → total (λ n. w (product (without_variables ring n) m)) g ≡ total (λ n. w (product (without_variables ring m) (product t n))) g
      inner m hm = total_same (HasVariables ring y) (λ n. w (product (without_variables ring n) m))
          (λ n. w (product (without_variables ring m) (product t n))) g hg
          (λ n hn. ap w (cross ring x t m n hm.0 hn.0 lt hm.1 (ap (product (take ring.variables t)) hn.1 ∙ et) zt))

  cross_cancel : (w : List ℕ → ℕ) (X Y t : List ℕ) (F K : List Term) → length t ≡ places ring → product (take ring.variables t) Y ≡ X
      → drop ring.variables t ≡ replicate ring.parameters 0 → IsOfRing ring F → IsOfRing ring K
      → total w (all_products (strip ring (part_at ring Y K)) (rest_of ring X F)
      ++ all_products (strip ring (part_at ring X F)) (multiple (ring.modulus - 1) t (rest_of ring Y K))) % ring.modulus
      ≡ total w (all_products (strip ring (part_at ring Y K)) F ++ all_products (strip ring (part_at ring X F)) (multiple (ring.modulus - 1) t K))
      % ring.modulus
  cross_cancel w X Y t F K lt et td ringF ringK =
      let qK : List Term = strip ring (part_at ring Y K) in
      let qF : List Term = strip ring (part_at ring X F) in
      let i = total_append w (all_products qK (rest_of ring X F)) (all_products qF (multiple (ring.modulus - 1) t (rest_of ring Y K))) in
      let j = total_append w (all_products qK F) (all_products qF (multiple (ring.modulus - 1) t K)) in
      let k = products_plus qK F (part_at ring X F) (rest_of ring X F) (λ v. part_total ring v X F) w in
      let l = products_plus qF (multiple (ring.modulus - 1) t K) (multiple (ring.modulus - 1) t (part_at ring Y K))
      (multiple (ring.modulus - 1) t (rest_of ring Y K))
      (multiple_plus (ring.modulus - 1) t K (part_at ring Y K) (rest_of ring Y K) (λ v. part_total ring v Y K)) w in
      let m = products_multiple w (ring.modulus - 1) t qF (part_at ring Y K) in
      let n = parts_cancel w X Y t (part_at ring X F) (part_at ring Y K) lt et td (part_each ring X F ringF) (part_each ring Y K ringK) in
      gather ring.modulus (total w (all_products qK (part_at ring X F))) _ _ _ _ _ _ _ pos i j k l (m ∙ ap (λ q. (ring.modulus - 1) * q) (sym n))
    where
      gather : (p A i j k l b t u : ℕ) → 0 < p → i ≡ t + u → j ≡ k + l → k ≡ A + t → l ≡ b + u → b ≡ (p - 1) * A → i % p ≡ j % p
      gather p A i j k l b t u pos ei ej ek el eb =
          let z : ((t + u) + (A + (p - 1) * A)) % p ≡ ((t + u) + 0) % p =
          mod_add p (t + u) (t + u) (A + (p - 1) * A) 0 refl (mod_opposite p A pos ∙ sym (zero-mod p)) in
          let e : i ≡ (t + u) + 0 = omega arith in
          let f : (t + u) + (A + (p - 1) * A) ≡ j = other ((p - 1) * A) ej ek el eb in
          ap (λ n. n % p) e ∙ (sym z ∙ ap (λ n. n % p) f)
        where
          other : (q : ℕ) → j ≡ k + l → k ≡ A + t → l ≡ b + u → b ≡ q → (t + u) + (A + q) ≡ j
          other q x y z w = omega arith

module _ (ring : Ring) (a : List ℕ) where
  cross_special : (w : List ℕ → ℕ) (qK qF F K : List Term) (t : List ℕ) → length t ≡ places ring → IsOfRing ring F → IsOfRing ring K → Each (IsFree ring) qK
      → Each (IsFree ring) qF → total (power_weight ring a) qF % ring.modulus ≡ 0
      → total (at_point ring a w) (all_products qK F ++ all_products qF (multiple (ring.modulus - 1) t K)) % ring.modulus
      ≡ (total (power_weight ring a) qK * total (at_point ring a w) F) % ring.modulus
  cross_special w qK qF F K t lt ringF ringK nK nF z =
      let W : List ℕ → ℕ = at_point ring a w in
      let V : ℕ = total (power_weight ring a) qK * total W F in
      let M : List Term = multiple (ring.modulus - 1) t K in
      let i = total_append W (all_products qK F) (all_products qF M) in
      let j = products_at_point ring a w qK F nK ringF in
      let k = products_at_point ring a w qF M nF (multiple_of_ring ring (ring.modulus - 1) t K lt ringK) in
      let s : total W (all_products qK F ++ all_products qF M) ≡ V + total (power_weight ring a) qF * total W M = i ∙ cc (j, k) in
      let n : (total (power_weight ring a) qF * total W M) % ring.modulus ≡ 0 % ring.modulus =
      mod_mul ring.modulus (total (power_weight ring a) qF) 0 (total W M) (total W M) (z ∙ sym (zero-mod ring.modulus)) refl
      ∙ ap (λ q. q % ring.modulus) (zero-mul (total W M)) in
      let e : V + 0 ≡ V = add-zero V in
      ap (λ q. q % ring.modulus) s ∙ (mod_add ring.modulus V V _ 0 refl n ∙ ap (λ q. q % ring.modulus) e)

-- f times the leading coefficient of g, less t*g times that of f, where the leads agree in the variables

module _ (ring : Ring) (pos : 0 < ring.modulus) (x : Term) (f : List Term) (y : Term) (g : List Term) (f_ok : IsCanonical ring (x ∷ f))
    (g_ok : IsCanonical ring (y ∷ g))
    (divided : divides (lead_x ring (y ∷ g)) (lead_x ring (x ∷ f)) ≡ true) where
  abbrev X : List ℕ
  X = take ring.variables x.exponents

  abbrev Y : List ℕ
  Y = take ring.variables y.exponents

  X_length : length X ≡ ring.variables
  X_length = variables_length ring x.exponents f_ok.2

  Y_length : length Y ≡ ring.variables
  Y_length = variables_length ring y.exponents g_ok.2

  -- the quotient of the variables' parts
  abbrev t : List ℕ
  t = quotient X Y ++ replicate ring.parameters 0

  t_length : length t ≡ places ring
  t_length = omega (
    arith,
    length-append (quotient X Y) (replicate ring.parameters 0),
    length-replicate {A = ℕ} ring.parameters 0,
    quotient_length X Y ring.variables X_length Y_length,
  )

  t_product : product (take ring.variables t) Y ≡ X
  t_product =
      ap (λ q. product q Y) (take_at (quotient X Y) (replicate ring.parameters 0) ring.variables (quotient_length X Y ring.variables X_length Y_length))
      ∙ quotient_product X Y (X_length ∙ sym Y_length) divided

  t_free : drop ring.variables t ≡ replicate ring.parameters 0
  t_free = drop_at (quotient X Y) (replicate ring.parameters 0) ring.variables (quotient_length X Y ring.variables X_length Y_length)

  f_ring : IsOfRing ring (x ∷ f)
  f_ring = canonical_of_ring ring (x ∷ f) f_ok

  g_ring : IsOfRing ring (y ∷ g)
  g_ring = canonical_of_ring ring (y ∷ g) g_ok

  f_free : Each (IsFree ring) (lc_x ring (x ∷ f))
  f_free = strip_each ring X (part_at ring X (x ∷ f)) (part_each ring X (x ∷ f) f_ring)

  g_free : Each (IsFree ring) (lc_x ring (y ∷ g))
  g_free = strip_each ring Y (part_at ring Y (y ∷ g)) (part_each ring Y (y ∷ g) g_ring)

  abbrev whole : List Term
  whole = all_products (lc_x ring (y ∷ g)) (x ∷ f) ++ all_products (lc_x ring (x ∷ f)) (multiple (ring.modulus - 1) t (y ∷ g))

  -- what is left without the parts that cancel
  abbrev pub crossed : List Term
  crossed = all_products (lc_x ring (y ∷ g)) (rest_of ring X (x ∷ f))
      ++ all_products (lc_x ring (x ∷ f)) (multiple (ring.modulus - 1) t (rest_of ring Y (y ∷ g)))

  crossed_alike : Alike ring.modulus crossed whole
  crossed_alike = record { under = λ w. cross_cancel ring pos w X Y t (x ∷ f) (y ∷ g) t_length t_product t_free f_ring g_ring }

  free_below : (u q : List ℕ) → IsFree ring u → VariablesBelow ring X q → VariablesBelow ring X (product u q)
  free_below u q h b = variables_below_product ring X X u q h.0 X_length (ap (λ v. product v X) h.1 ∙ one_product ring.variables X X_length) b

  crossed_variables : Each (VariablesBelow ring X) crossed
  crossed_variables =
      each_append (VariablesBelow ring X) (all_products (lc_x ring (y ∷ g)) (rest_of ring X (x ∷ f)))
      (all_products (lc_x ring (x ∷ f)) (multiple (ring.modulus - 1) t (rest_of ring Y (y ∷ g))))
      (each_products (IsFree ring) (VariablesBelow ring X) (VariablesBelow ring X) (lc_x ring (y ∷ g)) (rest_of ring X (x ∷ f)) g_free
      (rest_of_head ring x f f_ok) free_below)
      (each_products (IsFree ring) (VariablesBelow ring X) (VariablesBelow ring X) (lc_x ring (x ∷ f))
      (multiple (ring.modulus - 1) t (rest_of ring Y (y ∷ g))) f_free
      (each_multiple (VariablesBelow ring Y) (VariablesBelow ring X) (ring.modulus - 1) t (rest_of ring Y (y ∷ g)) (rest_of_head ring y g g_ok)
      (λ q b. variables_below_product ring X Y t q t_length Y_length t_product b))
      free_below)

  -- what is left is of the ring
  pub crossed_of_ring : IsOfRing ring crossed
  crossed_of_ring = variables_below_ring ring X crossed crossed_variables

  -- and below the lead
  pub crossed_below : AllBelow ring x.exponents crossed
  crossed_below = below_by_variables ring x.exponents crossed f_ok.2 crossed_variables

  -- where the leading coefficient of f is 0, it comes to a multiple of f by that of g
  pub crossed_special : (a : List ℕ) (w : List ℕ → ℕ) → value_at ring a (lc_x ring (x ∷ f)) ≡ 0
      → total (at_point ring a w) crossed % ring.modulus ≡ (total (power_weight ring a) (lc_x ring (y ∷ g)) * total (at_point ring a w) (x ∷ f)) % ring.modulus
  crossed_special a w z =
      crossed_alike.under (at_point ring a w) ∙ cross_special ring a w (lc_x ring (y ∷ g)) (lc_x ring (x ∷ f)) (x ∷ f) (y ∷ g) t t_length f_ring g_ring g_free
      f_free z

  -- it is in the ideal of both
  module _ (B : List (List Term)) where
    products_member : (q h : List Term) → Each (IsFree ring) q → IsMember ring B h → IsMember ring B (all_products q h)
    products_member [] h n m = zero_member ring B pos
    products_member (u ∷ q) h n m =
        sum_member ring B pos (multiple u.coefficient u.exponents h) (all_products q h) (multiple_member ring B pos u.coefficient u.exponents h n.0.0 m)
        (products_member q h n.1 m)

    -- and a member of the ideal
    pub crossed_member : IsMember ring B (x ∷ f) → IsMember ring B (y ∷ g) → IsMember ring B crossed
    crossed_member hf hg =
        same_member ring B pos crossed_alike
        (sum_member ring B pos (all_products (lc_x ring (y ∷ g)) (x ∷ f)) (all_products (lc_x ring (x ∷ f)) (multiple (ring.modulus - 1) t (y ∷ g)))
        (products_member (lc_x ring (y ∷ g)) (x ∷ f) g_free hf)
        (products_member (lc_x ring (x ∷ f)) (multiple (ring.modulus - 1) t (y ∷ g)) f_free
        (multiple_member ring B pos (ring.modulus - 1) t (y ∷ g) t_length hg)))
