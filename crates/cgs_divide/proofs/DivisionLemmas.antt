-- What a division run that ends with a remainder has found.
use Rattle.std.proofs.Common.{ℕ, zero, suc, ◌≡◌, ◌+◌, ◌-◌, ◌*◌, ◌%◌, ◌<◌, ◌≤◌, Bool, true, false, cond, ltb, List, [], ◌∷◌, ◌++◌, length, get_or}
use Rattle.std.proofs.Common.{refl, sym, ap, ◌∙◌, subst, arith}
use Rattle.std.proofs.Math.Nat.{zero-mod, add-zero, mul-mod_right, mul-one}
use Rattle.std.proofs.lemmas.Bool.{ltb-true, ltb-false}
use Rattle.std.specs.declared.cmp.Ordering.TheVariants.{Less}
use Rattle.cgs_field.proofs.ModularLemmas.{mod_add}
use Rattle.cgs_exps.specs.Monomial.{degree, product, divides, quotient}
use Rattle.cgs_exps.proofs.MonomialLemmas.{product_comm, quotient_product, quotient_length, degree_quotient}
use Rattle.cgs_order.specs.TermOrder.{compared}
use Rattle.cgs_poly.specs.Ring.{Ring}
use Rattle.cgs_poly.specs.Polynomial.{Term, term, places, order_of, total, IsOfRing, StartsBelow, IsCanonical, HasLowDegrees, greatest_degree}
use Rattle.cgs_poly.specs.Polynomial.{IsPoly}
use Rattle.cgs_poly.specs.Product.{multiple, leading_monomial, leading_coefficient}
use Rattle.cgs_poly.proofs.SumLemmas.{alike_same, alike_from_coefficients, coefficients_from_alike, total_append}
use Rattle.cgs_poly.proofs.CanonicalLemmas.{all_below_canonical, AllBelow, all_below_append, canonical_of_ring, is_canonical, canonical_alike, canonical_same}
use Rattle.cgs_poly.proofs.CanonicalLemmas.{canonical_starts, canonical_low, append_of_ring, append_low, starts_lower}
use Rattle.cgs_poly.proofs.ProductLemmas.{total_multiple, multiple_of_ring, low_any}
use Rattle.cgs_poly.proofs.MultipleLemmas.{multiple_falls}
use Rattle.cgs_poly.proofs.ProductOrderLemmas.{compared_shift}
use Rattle.cgs_algebra.specs.Groebner.{AreMonic, DividesNone, leading_monomial_at}
use Rattle.cgs_algebra.proofs.RepresentationLemmas.{lead_at_length}
use Rattle.cgs_divide.specs.declared.division.Division.{Division}
use Rattle.cgs_divide.specs.Ending.{Ending, ended, out_of_budget, out_of_degree, charged}
use Rattle.cgs_divide.specs.DivisionRun.{done, remainder_of, first_divisor, is_too_high, less_multiple, with_remainder}
use Rattle.cgs_divide.specs.DivisionRun.{with_quotient, added_at, divided_in, divided}
use Rattle.cgs_divide.specs.Division.{products, TermsBelow, HasDivided, IsRemainder}
use Rattle.cgs_divide.proofs.EndingLemmas.{ended_same, has_followed}
use Rattle.cgs_divide.proofs.QuotientLemmas.{divisor_divides, none_divides, not_too_high, added_length, total_added, below_added}
use Rattle.cgs_divide.proofs.QuotientLemmas.{below_at, zeros, zeros_length, zeros_products, zeros_below}
use Rattle.std.specs.List.{AllByRecursion}
use Rattle.cgs_list.proofs.ListLemmas.{all_by_places, all_at_place}
use Rattle.cgs_algebra.proofs.PlaceLemmas.{canonical_at, monic_at}

-- f - c*t*g

-- c*x and (p-c)*x make 0
mod_rest : (p c x : ℕ) → c < p → (c * x + (p - c) * x) % p ≡ 0
mod_rest p c x h = ap (λ n. n % p) (whole c (p - c) p x (omega arith)) ∙ mul-mod_right p x
  where
    whole : (c d p x : ℕ) → c + d ≡ p → c * x + d * x ≡ p * x
    whole c d p x e = rw (← e) (omega arith)

-- f is c*t*g and what is left
total_less : (w : List ℕ → ℕ) (p c : ℕ) (t : List ℕ) (f g : List Term) → c < p
    → total w f % p ≡ (total w (multiple c t g) + total w (f ++ multiple (p - c) t g)) % p
total_less w p c t f g h =
    let T : ℕ = total (λ m. w (product t m)) g in
    let F : ℕ = total w f in
    let a : total w (f ++ multiple (p - c) t g) ≡ F + (p - c) * T = total_append w f (multiple (p - c) t g) ∙ ap (λ n. F + n) (total_multiple w (p - c) t g) in
    let b : total w (multiple c t g) + total w (f ++ multiple (p - c) t g) ≡ F + (c * T + (p - c) * T) = omega (arith, a, total_multiple w c t g) in
    sym (ap (λ n. n % p) b ∙ (mod_add p F F (c * T + (p - c) * T) 0 refl (mod_rest p c T h ∙ sym (zero-mod p)) ∙ ap (λ n. n % p) (add-zero F)))

less_of_ring : (ring : Ring) (d : ℕ) (t : List ℕ) (f g : List Term) → length t ≡ places ring
    → IsCanonical ring f → IsCanonical ring g → IsOfRing ring (f ++ multiple d t g)
less_of_ring ring d t f g l h k =
    append_of_ring ring f (multiple d t g) (canonical_of_ring ring f h) (multiple_of_ring ring d t g l (canonical_of_ring ring g k))

-- where g is monic and its multiple takes the leading term of f, the rest starts below that
less_starts : (ring : Ring) (x : Term) (f g : List Term) (t : List ℕ) → 0 < ring.modulus
    → IsCanonical ring (x ∷ f) → IsCanonical ring g → leading_coefficient g ≡ 1
    → length t ≡ places ring → product t (leading_monomial g) ≡ x.exponents
    → StartsBelow ring x.exponents (less_multiple ring (x ∷ f) x.coefficient t g)
less_starts ring x f [] t pos h k o l e = absurd (omega arith)
less_starts ring x f (z ∷ g) t pos h k o l e =
    let d : ℕ = ring.modulus - x.coefficient in
    let of_ring : IsOfRing ring (f ++ multiple d t g) = less_of_ring ring d t f g l h.4 k.4 in
    let whole : IsOfRing ring ((x ∷ f) ++ multiple d t (z ∷ g)) = less_of_ring ring d t (x ∷ f) (z ∷ g) l h k in
    let tail : AllBelow ring x.exponents (multiple d t g) = subst (λ n. AllBelow ring n (multiple d t g)) e (multiple_falls ring d t z g l k) in
    let below : AllBelow ring x.exponents (f ++ multiple d t g) =
    all_below_append ring x.exponents f (multiple d t g) (all_below_canonical ring x.exponents f h.4 h.3) tail in
    let same = canonical_same ring (f ++ multiple d t g) ((x ∷ f) ++ multiple d t (z ∷ g)) pos of_ring whole (record { under = λ w. cancelled w }) in
    subst (λ q. StartsBelow ring x.exponents q) same (canonical_starts ring x.exponents (f ++ multiple d t g) pos of_ring below)
  where
    cancelled : (w : List ℕ → ℕ)
        → total w (f ++ multiple (ring.modulus - x.coefficient) t g) % ring.modulus
        ≡ total w ((x ∷ f) ++ multiple (ring.modulus - x.coefficient) t (z ∷ g)) % ring.modulus
    cancelled w =
        let d : ℕ = ring.modulus - x.coefficient in
        let S : ℕ = total w (f ++ multiple d t g) in
        let v : ℕ = w x.exponents in
        let a : d * z.coefficient ≡ d = ap (λ n. d * n) o ∙ mul-one d in
        let u : (d * z.coefficient) * w (product t z.exponents) ≡ d * v = rw (a, e) refl in
        let b : total w ((x ∷ f) ++ multiple d t (z ∷ g)) ≡ S + (x.coefficient * v + d * v) =
        omega (arith, u, total_append w f (multiple d t g), total_append w f (multiple d t (z ∷ g))) in
        sym (ap (λ n. n % ring.modulus) b
        ∙ (mod_add ring.modulus S S (x.coefficient * v + d * v) 0 refl (mod_rest ring.modulus x.coefficient v h.1 ∙ sym (zero-mod ring.modulus))
        ∙ ap (λ n. n % ring.modulus) (add-zero S)))

-- what holds of each quotient

all_zeros : (P : List Term → Type 0) → P [] → (G : List (List Term)) → AllByRecursion P (zeros G)
all_zeros P at [] = tt
all_zeros P at (g ∷ G) = (at, all_zeros P at G)

all_added : (P : List Term → Type 0) (i : ℕ) (y : Term) (quotients : List (List Term)) → P (y ∷ get_or quotients i []) → AllByRecursion P quotients
    → AllByRecursion P (added_at i y quotients)
all_added P i y [] here all = tt
all_added P zero y (q ∷ quotients) here all = (here, all.1)
all_added P (suc i) y (q ∷ quotients) here all = (all.0, all_added P i y quotients here all.1)

-- the ways a run ends with a remainder

by_cond : (b : Bool) (A B D : Ending Division) (Goal : Type 0) → cond b A B ≡ D → (b ≡ true → A ≡ D → Goal) → (b ≡ false → B ≡ D → Goal) → Goal
by_cond true A B D Goal e f g = f refl e
by_cond false A B D Goal e f g = g refl e

done_same : (r s : List Term) (Q P : List (List Term)) (m n : ℕ) → done r Q m ≡ done s P n → (r ≡ s) × (Q ≡ P) × (m ≡ n)
done_same r s Q P m n e =
    let k = ended_same _ _ m n e in (ap (λ (d : Division). d.remainder) k.0, ap (λ (d : Division). d.quotients) k.0, k.1)

without_term : (x : Term) (run : Ending Division) (remainder : List Term) (quotients : List (List Term)) (left : ℕ)
    → with_remainder x run ≡ done remainder quotients left
    → (rest : List Term) × (run ≡ done rest quotients left) × (x ∷ rest ≡ remainder)
without_term x (ended d u) remainder quotients left e =
    let s = done_same (x ∷ d.remainder) remainder d.quotients quotients u left e in (d.remainder, rw (s.1, s.2) refl, s.0)
without_term x (out_of_budget u) remainder quotients left e = absurd (cc)
without_term x (out_of_degree u) remainder quotients left e = absurd (cc)

without_quotient : (i : ℕ) (x : Term) (run : Ending Division) (remainder : List Term) (quotients : List (List Term)) (left : ℕ)
    → with_quotient i x run ≡ done remainder quotients left
    → (rest : List (List Term)) × (run ≡ done remainder rest left) × (added_at i x rest ≡ quotients)
without_quotient i x (ended d u) remainder quotients left e =
    let s = done_same d.remainder remainder (added_at i x d.quotients) quotients u left e in (d.quotients, rw (← s.0, ← s.2) refl, s.1)
without_quotient i x (out_of_budget u) remainder quotients left e = absurd (cc)
without_quotient i x (out_of_degree u) remainder quotients left e = absurd (cc)

module _ (ring : Ring) (G : List (List Term)) (pos : 0 < ring.modulus) (ok : AreMonic ring G) where
  -- nothing is left to divide
  nothing_left : HasDivided ring G [] [] (zeros G)
  nothing_left = record {
    places = zeros_length G;
    sum = coefficients_from_alike (rw (zeros_products G) (alike_same ring.modulus []));
    undivided = all_by_places (λ g. DividesNone (leading_monomial g) []) [] G (λ i l. tt);
    below = λ m s. (zeros_below ring m G, tt);
    canonical_remainder = tt;
    canonical_quotients = all_zeros (IsCanonical ring) tt G;
    low_remainder = λ h. tt;
    low_quotients = λ h. all_zeros HasLowDegrees tt G;
  }

  -- no lead divides the leading term
  term_kept : (x : Term) (f remainder : List Term) (quotients : List (List Term)) → IsCanonical ring (x ∷ f) → length G ≤ first_divisor G x.exponents
      → HasDivided ring G f remainder quotients → HasDivided ring G (x ∷ f) (x ∷ remainder) quotients
  term_kept x f remainder quotients h none d = record {
    places = d.places;
    sum = coefficients_from_alike (record {
      under = λ w.
          let a = (alike_from_coefficients pos d.sum).under w in
          let b : x.coefficient * w x.exponents + total w (products quotients G ++ remainder) ≡ total w (products quotients G ++ x ∷ remainder) =
          omega (arith, total_append w (products quotients G) remainder, total_append w (products quotients G) (x ∷ remainder)) in
          mod_add ring.modulus (x.coefficient * w x.exponents) (x.coefficient * w x.exponents) (total w f) (total w (products quotients G ++ remainder)) refl a
          ∙ ap (λ n. n % ring.modulus) b;
    });
    undivided = all_by_places (λ g. DividesNone (leading_monomial g) (x ∷ remainder)) [] G (λ i l. (
      none_divides G x.exponents none i l,
      all_at_place (λ g. DividesNone (leading_monomial g) remainder) [] G d.undivided i l,
    ));
    below = λ m s. ((d.below m (starts_lower ring x.exponents m f h.3 s)).0, s);
    canonical_remainder = (h.0, h.1, h.2, (d.below x.exponents h.3).1, d.canonical_remainder);
    canonical_quotients = d.canonical_quotients;
    low_remainder = λ k. (k.0, d.low_remainder k.1);
    low_quotients = λ k. d.low_quotients k.1;
  }

module _ (ring : Ring) (G : List (List Term)) (pos : 0 < ring.modulus) (ok : AreMonic ring G) (x : Term) (f : List Term) (h : IsCanonical ring (x ∷ f))
    (i : ℕ) (l : i < length G) (divisible : divides (leading_monomial_at G i) x.exponents ≡ true) where
  -- the divisor, the monomial of its multiple, the term of the quotient, and what is left of x + f
  abbrev g : List Term
  g = get_or G i []

  abbrev t : List ℕ
  t = quotient x.exponents (leading_monomial g)

  abbrev y : Term
  y = term x.coefficient t

  abbrev rest : List Term
  rest = less_multiple ring (x ∷ f) x.coefficient t g

  lead_long : length (leading_monomial g) ≡ places ring
  lead_long = lead_at_length ring G pos ok i l

  t_long : length t ≡ places ring
  t_long = quotient_length x.exponents (leading_monomial g) (places ring) h.2 lead_long

  whole : product t (leading_monomial g) ≡ x.exponents
  whole = quotient_product x.exponents (leading_monomial g) (h.2 ∙ sym lead_long) divisible

  rest_of_ring : IsOfRing ring ((x ∷ f) ++ multiple (ring.modulus - x.coefficient) t g)
  rest_of_ring = less_of_ring ring (ring.modulus - x.coefficient) t (x ∷ f) g t_long h (canonical_at ring G ok.canonical i l)

  rest_canonical : IsCanonical ring rest
  rest_canonical = is_canonical ring ((x ∷ f) ++ multiple (ring.modulus - x.coefficient) t g) pos rest_of_ring

  rest_starts : StartsBelow ring x.exponents rest
  rest_starts = less_starts ring x f g t pos h (canonical_at ring G ok.canonical i l) (monic_at G ok.monic i l) t_long whole

  rest_low : is_too_high (multiple x.coefficient t g) ≡ false → HasLowDegrees (x ∷ f) → HasLowDegrees rest
  rest_low low k =
      canonical_low ring ((x ∷ f) ++ multiple (ring.modulus - x.coefficient) t g)
      (append_low (x ∷ f) (multiple (ring.modulus - x.coefficient) t g) k
      (low_any x.coefficient (ring.modulus - x.coefficient) t g (not_too_high (multiple x.coefficient t g) low)))

  t_low : HasLowDegrees (x ∷ f) → degree t ≤ greatest_degree
  t_low k = omega (arith, k.0, degree_quotient x.exponents (leading_monomial g) (h.2 ∙ sym lead_long) divisible)

  -- the quotient's monomials fall
  y_starts : (q : List Term) → IsCanonical ring q → TermsBelow ring x.exponents (leading_monomial g) q → StartsBelow ring t q
  y_starts [] c b = tt
  y_starts (z ∷ q) c b =
      let n : List ℕ = leading_monomial g in
      let a : product z.exponents n ≡ product n z.exponents = product_comm z.exponents n in
      let e : product n t ≡ x.exponents = product_comm n t ∙ whole in
      let s = compared_shift (order_of ring) n z.exponents t (lead_long ∙ sym c.2) (lead_long ∙ sym t_long) in
      sym s ∙ (cc (a, e) ∙ b.0)

  sum_under : (remainder : List Term) (quotients : List (List Term)) → HasDivided ring G rest remainder quotients → (w : List ℕ → ℕ)
      → total w (x ∷ f) % ring.modulus ≡ total w (products (added_at i y quotients) G ++ remainder) % ring.modulus
  sum_under remainder quotients d w =
      let M : ℕ = total w (multiple x.coefficient t g) in
      let a = total_less w ring.modulus x.coefficient t (x ∷ f) g h.1 in
      let b = (canonical_alike ring ((x ∷ f) ++ multiple (ring.modulus - x.coefficient) t g) pos rest_of_ring).under w in
      let c = (alike_from_coefficients pos d.sum).under w in
      let e = mod_add ring.modulus M M _ _ refl (sym b ∙ c) in
      let z : M + total w (products quotients G ++ remainder) ≡ total w (products (added_at i y quotients) G ++ remainder) =
      omega (
        arith,
        total_append w (products quotients G) remainder,
        total_append w (products (added_at i y quotients) G) remainder,
        total_added w i y quotients G d.places l,
      ) in
      a ∙ (e ∙ ap (λ n. n % ring.modulus) z)

  -- a lead divides the leading term
  term_taken : (remainder : List Term) (quotients : List (List Term)) → is_too_high (multiple x.coefficient t g) ≡ false
      → HasDivided ring G rest remainder quotients → HasDivided ring G (x ∷ f) remainder (added_at i y quotients)
  term_taken remainder quotients low d = record {
    places = added_length i y quotients ∙ d.places;
    sum = coefficients_from_alike (record { under = sum_under remainder quotients d });
    undivided = d.undivided;
    below = λ m s.
        let b = d.below m (starts_lower ring x.exponents m rest rest_starts s) in
        (below_added ring m i y quotients G d.places l (subst (λ n. compared (order_of ring) n m ≡ Less) (sym whole) s) b.0, b.1);
    canonical_remainder = d.canonical_remainder;
    canonical_quotients =
        let k : i < length quotients = omega (arith, d.places) in
        let q : IsCanonical ring (get_or quotients i []) = canonical_at ring quotients d.canonical_quotients i k in
        let s = y_starts (get_or quotients i []) q (below_at ring x.exponents i quotients G d.places l (d.below x.exponents rest_starts).0) in
        all_added (IsCanonical ring) i y quotients (h.0, h.1, t_long, s, q) d.canonical_quotients;
    low_remainder = λ k. d.low_remainder (rest_low low k);
    low_quotients = λ k.
        let all = d.low_quotients (rest_low low k) in
        all_added HasLowDegrees i y quotients (t_low k, all_at_place HasLowDegrees [] quotients all i (omega (arith, d.places))) all;
  }

  -- the same for the run
  taken_step : (units left : ℕ) (run : Ending Division) (remainder : List Term) (quotients : List (List Term))
      → charged (length g) units (cond (is_too_high (multiple x.coefficient t g)) (out_of_degree (units - length g)) (with_quotient i y run))
      ≡ done remainder quotients left
      → ((found : List (List Term)) → run ≡ done remainder found left → HasDivided ring G rest remainder found) → HasDivided ring G (x ∷ f) remainder quotients
  taken_step units left run remainder quotients e ih =
      by_cond (ltb units (length g)) _ _ (done remainder quotients left) (HasDivided ring G (x ∷ f) remainder quotients) e (λ b k. absurd (cc)) (λ b k.
      by_cond (is_too_high (multiple x.coefficient t g)) _ _ (done remainder quotients left)
      (HasDivided ring G (x ∷ f) remainder quotients) k (λ low n. absurd (cc)) (λ low n.
      let found = without_quotient i y run remainder quotients left n in
      subst (λ q. HasDivided ring G (x ∷ f) remainder q) found.2 (term_taken remainder found.0 low (ih found.0 found.1))))

module _ (ring : Ring) (G : List (List Term)) (pos : 0 < ring.modulus) (ok : AreMonic ring G) where
  kept_step : (x : Term) (f : List Term) (units left : ℕ) (run : Ending Division) (remainder : List Term) (quotients : List (List Term))
      → IsCanonical ring (x ∷ f)
      → length G ≤ first_divisor G x.exponents
      → charged 1 units (with_remainder x run) ≡ done remainder quotients left
      → ((found : List Term) → run ≡ done found quotients left → HasDivided ring G f found quotients) → HasDivided ring G (x ∷ f) remainder quotients
  kept_step x f units left run remainder quotients h none e ih =
      by_cond (ltb units 1) _ _ (done remainder quotients left) (HasDivided ring G (x ∷ f) remainder quotients) e (λ b k. absurd (cc)) (λ b k.
      let found = without_term x run remainder quotients left k in
      subst (λ r. HasDivided ring G (x ∷ f) r quotients) found.2 (term_kept ring G pos ok x f found.0 quotients h none (ih found.0 found.1)))

  run_divides : (steps units left : ℕ) (f remainder : List Term) (quotients : List (List Term)) → IsCanonical ring f
      → divided_in steps ring G units f ≡ done remainder quotients left → HasDivided ring G f remainder quotients
  run_divides zero units left f remainder quotients h e = absurd (cc)
  run_divides (suc n) units left [] remainder quotients h e =
      let s = done_same [] remainder (zeros G) quotients units left e in
      subst (λ r. HasDivided ring G [] r quotients) s.0 (subst (λ q. HasDivided ring G [] [] q) s.1 (nothing_left ring G pos ok))
  run_divides (suc n) units left (x ∷ f) remainder quotients h e =
      by_cond (ltb (first_divisor G x.exponents) (length G)) _ _ (done remainder quotients left) (HasDivided ring G (x ∷ f) remainder quotients) e
      (λ b k.
      let l = ltb-true (first_divisor G x.exponents) (length G) b in
      let d = divisor_divides G x.exponents l in
      taken_step ring G pos ok x f h (first_divisor G x.exponents) l d units left _ remainder quotients k
      (λ found r. run_divides n _ left _ remainder found (rest_canonical ring G pos ok x f h (first_divisor G x.exponents) l d) r))
      (λ b k.
      kept_step x f units left _ remainder quotients h (ltb-false (first_divisor G x.exponents) (length G) b) k
      (λ found r. run_divides n (units - 1) left f found quotients h.4 r))

  -- what a division run that ends with a remainder has found
  pub divided_divides : (units left : ℕ) (f remainder : List Term) (quotients : List (List Term))
      → IsCanonical ring f → divided ring G units f ≡ done remainder quotients left
      → HasDivided ring G f remainder quotients
  unfolding divided
  divided_divides units left f remainder quotients h e = run_divides (suc units) units left f remainder quotients h e

-- a remainder that a run leaves

pub left_divided : (ring : Ring) (G : List (List Term)) (units left : ℕ) (f remainder : List Term) → 0 < ring.modulus → AreMonic ring G → IsCanonical ring f
    → remainder_of (divided ring G units f) ≡ ended remainder left → IsRemainder ring G f remainder
left_divided ring G units left f remainder pos ok h e =
    let w = has_followed (divided ring G units f) (λ d. ended d.remainder) remainder left e in
    let same : w.first.remainder ≡ remainder = cc (w.then) in
    record {
      quotients = w.first.quotients;
      divided = subst (λ r. HasDivided ring G f r w.first.quotients) same
          (divided_divides ring G pos ok units w.units f w.first.remainder w.first.quotients h w.ran);
    }

pub remainder_poly : (ring : Ring) (G : List (List Term)) (f remainder : List Term) (quotients : List (List Term)) → IsPoly ring f
    → HasDivided ring G f remainder quotients → IsPoly ring remainder
remainder_poly ring G f remainder quotients h d = record { canonical = d.canonical_remainder; low = d.low_remainder h.low }
