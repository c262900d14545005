-- The operations place by place.
use Rattle.std.proofs.Common.{ℕ, zero, suc, ◌≡◌, ◌+◌, ◌-◌, ◌<◌, ◌≤◌, max, Bool, true, nat_le, ◌==◌, ◌&&◌, ◌||◌}
use Rattle.std.proofs.Common.{List, [], ◌∷◌, ◌++◌, length, take, drop, get_or, refl, sym, ap, ◌∙◌, arith}
use Rattle.std.proofs.Math.Bool.{and_assoc}
use Rattle.std.proofs.lemmas.List.{drop_more}
use Rattle.std.proofs.lemmas.Bool.{and_parts, leb-true}
use Rattle.std.proofs.lemmas.Bool.Decides.{nat_tests}
use Rattle.cgs_exps.specs.declared.lanes.TheConstants.{LANES}
use Rattle.cgs_exps.specs.Monomial.{product, divides, coprime, quotient, lcm}

-- what holds of the exponents at each place holds of the lists

places : (f : ℕ → ℕ → ℕ) (op : List ℕ → List ℕ → List ℕ) → op [] [] ≡ [] → ((x y : ℕ) (a b : List ℕ) → op (x ∷ a) (y ∷ b) ≡ f x y ∷ op a b)
    → (out a b : List ℕ) → length a ≡ length b → length out ≡ length a
    → ((k : ℕ) → k < length a → get_or out k 0 ≡ f (get_or a k 0) (get_or b k 0)) → out ≡ op a b
places f op none step [] [] [] p q h = sym none
places f op none step (z ∷ zs) [] b p q h = absurd (omega arith)
places f op none step [] (x ∷ xs) b p q h = absurd (omega arith)
places f op none step out [] (y ∷ ys) p q h = absurd (omega arith)
places f op none step out (x ∷ xs) [] p q h = absurd (omega arith)
places f op none step (z ∷ zs) (x ∷ xs) (y ∷ ys) p q h =
    let head : z ≡ f x y = h 0 (omega arith) in
    let tail : zs ≡ op xs ys = places f op none step zs xs ys (omega arith) (omega arith) (λ k l. h (suc k) (omega arith)) in
    cc (head, tail, step x y xs ys)

pub lcm_places : (out a b : List ℕ) → length a ≡ length b → length out ≡ length a
    → ((k : ℕ) → k < length a → get_or out k 0 ≡ max (get_or a k 0) (get_or b k 0)) → out ≡ lcm a b
lcm_places = places max lcm refl (λ x y a b. refl)

pub quotient_places : (out a b : List ℕ) → length a ≡ length b → length out ≡ length a
    → ((k : ℕ) → k < length a → get_or out k 0 ≡ get_or a k 0 - get_or b k 0) → out ≡ quotient a b
quotient_places = places (λ x y. x - y) quotient refl (λ x y a b. refl)

pub product_places : (out a b : List ℕ) → length a ≡ length b → length out ≡ length a
    → ((k : ℕ) → k < length a → get_or out k 0 ≡ get_or a k 0 + get_or b k 0) → out ≡ product a b
product_places = places (λ x y. x + y) product refl (λ x y a b. refl)

-- what is written of the first lists holds at each of their places

at_place : (f : ℕ → ℕ → ℕ) (op : List ℕ → List ℕ → List ℕ) → ((x y : ℕ) (a b : List ℕ) → op (x ∷ a) (y ∷ b) ≡ f x y ∷ op a b)
    → (n : ℕ) (a b rest : List ℕ) → length a ≡ length b → n ≤ length a
    → (k : ℕ) → k < n → get_or (op (take n a) (take n b) ++ rest) k 0 ≡ f (get_or a k 0) (get_or b k 0)
at_place f op step zero a b rest p q k h = absurd (omega arith)
at_place f op step (suc n) [] b rest p q k h = absurd (omega arith)
at_place f op step (suc n) (x ∷ xs) [] rest p q k h = absurd (omega arith)
at_place f op step (suc n) (x ∷ xs) (y ∷ ys) rest p q zero h = ap (λ c. get_or (c ++ rest) 0 0) (step x y (take n xs) (take n ys))
at_place f op step (suc n) (x ∷ xs) (y ∷ ys) rest p q (suc k) h =
    ap (λ c. get_or (c ++ rest) (suc k) 0) (step x y (take n xs) (take n ys)) ∙ at_place f op step n xs ys rest (omega arith) (omega arith) k (omega arith)

module _ (out a b rest : List ℕ) (p : length a ≡ length b) (q : LANES ≤ length a) (k : ℕ) (h : k < LANES) where
  pub lcm_at : out ≡ lcm (take LANES a) (take LANES b) ++ rest → get_or out k 0 ≡ max (get_or a k 0) (get_or b k 0)
  lcm_at e = ap (λ c. get_or c k 0) e ∙ at_place max lcm (λ x y a b. refl) LANES a b rest p q k h

  pub quotient_at : out ≡ quotient (take LANES a) (take LANES b) ++ rest → get_or out k 0 ≡ get_or a k 0 - get_or b k 0
  quotient_at e = ap (λ c. get_or c k 0) e ∙ at_place (λ x y. x - y) quotient (λ x y a b. refl) LANES a b rest p q k h

  pub product_at : out ≡ product (take LANES a) (take LANES b) ++ rest → get_or out k 0 ≡ get_or a k 0 + get_or b k 0
  product_at e = ap (λ c. get_or c k 0) e ∙ at_place (λ x y. x + y) product (λ x y a b. refl) LANES a b rest p q k h

-- a test of the first places and one of the places after them

parts : (t : ℕ → ℕ → Bool) (op : List ℕ → List ℕ → Bool) → op [] [] ≡ true → ((x y : ℕ) (a b : List ℕ) → op (x ∷ a) (y ∷ b) ≡ (t x y && op a b))
    → (n : ℕ) (a b : List ℕ) → length a ≡ length b → op a b ≡ (op (take n a) (take n b) && op (drop n a) (drop n b))
parts t op none step zero a b p = rw none refl
parts t op none step (suc n) [] [] p = rw none refl
parts t op none step (suc n) [] (y ∷ ys) p = absurd (omega arith)
parts t op none step (suc n) (x ∷ xs) [] p = absurd (omega arith)
parts t op none step (suc n) (x ∷ xs) (y ∷ ys) p =
    rw (step x y xs ys, step x y (take n xs) (take n ys))
    (ap (λ s. t x y && s) (parts t op none step n xs ys (omega arith)) ∙ sym (and_assoc (t x y) (op (take n xs) (take n ys)) (op (drop n xs) (drop n ys))))

module _ (a b : List ℕ) (p : length a ≡ length b) where
  pub divides_parts : divides a b ≡ (divides (take LANES a) (take LANES b) && divides (drop LANES a) (drop LANES b))
  divides_parts = parts nat_le divides refl (λ x y a b. refl) LANES a b p

  pub coprime_parts : coprime a b ≡ (coprime (take LANES a) (take LANES b) && coprime (drop LANES a) (drop LANES b))
  coprime_parts = parts (λ x y. x == 0 || y == 0) coprime refl (λ x y a b. refl) LANES a b p

-- tests of the places from one on

module _ (a b : List ℕ) (i : ℕ) (p : length a ≡ length b) (h : i < length a) where
  pub coprime_more_left : get_or a i 0 ≡ 0 → coprime (drop i a) (drop i b) ≡ coprime (drop (i + 1) a) (drop (i + 1) b)
  coprime_more_left l = rw (drop_more a i 0 h, drop_more b i 0 (omega arith), l) refl

  pub coprime_more_right : get_or b i 0 ≡ 0 → coprime (drop i a) (drop i b) ≡ coprime (drop (i + 1) a) (drop (i + 1) b)
  coprime_more_right l =
      let e : ((get_or a i 0 == 0) || (get_or b i 0 == 0)) ≡ true = grind (arith, nat_tests) in
      rw (drop_more a i 0 h, drop_more b i 0 (omega arith), e) refl

-- a divisor has no greater exponent at any place
pub divides_places : (a b : List ℕ) → divides a b ≡ true → (k : ℕ) → k < length b → get_or a k 0 ≤ get_or b k 0
divides_places [] b d k l = omega arith
divides_places (x ∷ xs) [] d k l = absurd (omega arith)
divides_places (x ∷ xs) (y ∷ ys) d zero l = leb-true x y (and_parts _ _ d).0
divides_places (x ∷ xs) (y ∷ ys) d (suc k) l = divides_places xs ys (and_parts _ _ d).1 k (omega arith)
