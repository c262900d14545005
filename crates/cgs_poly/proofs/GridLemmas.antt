-- The divisors of a monomial and their numbers.
use Rattle.std.proofs.Common.{ℕ, suc, ◌≡◌, ◌+◌, ◌*◌, ◌/◌, ◌%◌, ◌^◌, ◌<◌, ◌≤◌, true, List, [], ◌∷◌, ◌++◌, length, get_or, take, drop, set}
use Rattle.std.proofs.Common.{refl, sym, ap, ◌∙◌, subst, append_assoc, Some, arith, mul_assoc, mul_comm}
use Rattle.std.proofs.lemmas.List.{drop_more, take_more_set}
use Rattle.std.proofs.lemmas.Bool.{and_parts, and_from, leb-true, le-leb}
use Rattle.std.proofs.lemmas.Nat.{mul-add-lt, div-mul-add, mod-mul-add, div_below, mod_below}
use Rattle.std.specs.List.{slice_get, AllByRecursion}
use Rattle.cgs_list.proofs.ListLemmas.{all_append, all_parts, all_take, all_push, take_next}
use Rattle.cgs_exps.specs.Monomial.{degree, divides, product}
use Rattle.cgs_exps.specs.Monomial as monomial
use Rattle.cgs_exps.proofs.MonomialLemmas.{divides_trans, divides_lcm_left, lcm_comm, divides_product, product_comm, product_length}
use Rattle.cgs_exps.proofs.MonomialLemmas.{degree_first, degree_divides}
use Rattle.cgs_poly.specs.Polynomial.{Term, greatest_degree}
use Rattle.cgs_poly.specs.Draft.{HaveLength}
use Rattle.cgs_poly.specs.Product.{multiple, all_products}
use Rattle.cgs_poly.specs.Grid.{count_divisors, strides, number_of, numbers_of, divisor_at, IsDivisor, IsCorner}

pub count_positive : (m : List ℕ) → 0 < count_divisors m
count_positive [] = omega arith
count_positive (x ∷ m) = omega (arith, count_positive m)

pub strides_length : (m : List ℕ) → length (strides m) ≡ length m
strides_length [] = refl
strides_length (x ∷ m) = ap suc (strides_length m)

pub strides_positive : (m : List ℕ) → AllByRecursion (λ s. 0 < s) (strides m)
strides_positive [] = tt
strides_positive (x ∷ m) = (count_positive m, strides_positive m)

-- numbers

pub number_below : (m n : List ℕ) → length n ≡ length m → divides n m ≡ true → number_of (strides m) n < count_divisors m
number_below [] n e d = omega arith
number_below (x ∷ m) [] e d = absurd (omega arith)
number_below (x ∷ m) (y ∷ n) e d =
    let parts = and_parts _ _ d in
    let l : y < x + 1 = omega (arith, leb-true y x parts.0) in
    mul-add-lt y (count_divisors m) (number_of (strides m) n) (x + 1) l (number_below m n (omega arith) parts.1)

pub number_product : (ss a b : List ℕ) → length a ≡ length b → number_of ss (product a b) ≡ number_of ss a + number_of ss b
number_product [] a b e = refl
number_product (s ∷ ss) [] [] e = refl
number_product (s ∷ ss) [] (y ∷ b) e = absurd (omega arith)
number_product (s ∷ ss) (x ∷ a) [] e = absurd (omega arith)
number_product (s ∷ ss) (x ∷ a) (y ∷ b) e = omega (arith, number_product ss a b (omega arith))

-- the divisor with a number

pub divisor_length : (ss : List ℕ) (i : ℕ) → length (divisor_at ss i) ≡ length ss
divisor_length [] i = refl
divisor_length (s ∷ ss) i = ap suc (divisor_length ss (i % s))

pub divisor_back : (m n : List ℕ) → length n ≡ length m → divides n m ≡ true → divisor_at (strides m) (number_of (strides m) n) ≡ n
divisor_back [] [] e d = refl
divisor_back [] (y ∷ n) e d = absurd (omega arith)
divisor_back (x ∷ m) [] e d = absurd (omega arith)
divisor_back (x ∷ m) (y ∷ n) e d =
    let parts = and_parts _ _ d in
    let k : length n ≡ length m = omega arith in
    let l : number_of (strides m) n < count_divisors m = number_below m n k parts.1 in
    let q : (y * count_divisors m + number_of (strides m) n) / count_divisors m ≡ y = div-mul-add y (count_divisors m) (number_of (strides m) n) l in
    let r : (y * count_divisors m + number_of (strides m) n) % count_divisors m ≡ number_of (strides m) n =
    mod-mul-add y (count_divisors m) (number_of (strides m) n) l in
    cc (q, r, divisor_back m n k parts.1)

pub divisor_divides : (m : List ℕ) (i : ℕ) → i < count_divisors m → divides (divisor_at (strides m) i) m ≡ true
divisor_divides [] i l = refl
divisor_divides (x ∷ m) i l =
    let pos = count_positive m in
    let t : i < (x + 1) * count_divisors m = omega (arith, l) in
    let q = div_below i (count_divisors m) (x + 1) pos t in
    and_from _ _ (le-leb (i / count_divisors m) x (omega (arith, q))) (divisor_divides m (i % count_divisors m) (mod_below i (count_divisors m) pos))

small : (m : List ℕ) → degree m ≤ greatest_degree → AllByRecursion (λ x. x < 2 ^ 16) m
small [] l = tt
small (x ∷ m) l = (omega (arith, degree_first x m), small m (omega (arith, degree_first x m)))

module _ (m : List ℕ) (low : degree m ≤ greatest_degree) (i : ℕ) (l : i < count_divisors m) where
  pub divisor_low : degree (divisor_at (strides m) i) ≤ greatest_degree
  divisor_low = omega (arith, low, degree_divides (divisor_at (strides m) i) m (divisor_length (strides m) i ∙ strides_length m) (divisor_divides m i l))

  pub divisor_small : AllByRecursion (λ x. x < 2 ^ 16) (divisor_at (strides m) i)
  divisor_small = small (divisor_at (strides m) i) divisor_low

-- the corner

product_divides : (a b m n : List ℕ) → length a ≡ length m → length b ≡ length n → length m ≡ length n
    → divides a m ≡ true → divides b n ≡ true → divides (product a b) (product m n) ≡ true
product_divides [] b m n p q r d e = refl
product_divides (x ∷ a) [] m n p q r d e = refl
product_divides (x ∷ a) (y ∷ b) [] n p q r d e = absurd (omega arith)
product_divides (x ∷ a) (y ∷ b) (z ∷ m) [] p q r d e = absurd (omega arith)
product_divides (x ∷ a) (y ∷ b) (z ∷ m) (u ∷ n) p q r d e =
    let dp = and_parts _ _ d in
    let ep = and_parts _ _ e in
    let k : x + y ≤ z + u = omega (arith, leb-true x z dp.0, leb-true y u ep.0) in
    and_from _ _ (le-leb (x + y) (z + u) k) (product_divides a b m n (omega arith) (omega arith) (omega arith) dp.1 ep.1)

-- each monomial divides this one
abbrev pub AllDivide : List ℕ → List Term → Type 0
AllDivide m f = AllByRecursion (λ x. divides x.exponents m ≡ true) f

pub all_divide_further : (m n : List ℕ) (f : List Term) → HaveLength (length m) f → divides m n ≡ true → AllDivide m f → AllDivide n f
all_divide_further m n [] h d all = tt
all_divide_further m n (x ∷ f) h d all = (divides_trans x.exponents m n h.0 all.0 d, all_divide_further m n f h.1 d all.1)

pub divides_lcm_right : (a b : List ℕ) → length a ≡ length b → divides b (monomial.lcm a b) ≡ true
divides_lcm_right a b e = rw (lcm_comm a b e) (divides_lcm_left b a (sym e))

are_divisors : (m : List ℕ) (f : List Term) → HaveLength (length m) f → AllDivide m f → AllByRecursion (IsDivisor m) f
are_divisors m [] h all = tt
are_divisors m (x ∷ f) h all = (record { places = h.0; divides = all.0 }, are_divisors m f h.1 all.1)

multiple_divides : (m n a : List ℕ) (c : ℕ) (g : List Term) → length a ≡ length m → length m ≡ length n → HaveLength (length n) g
    → divides a m ≡ true → AllDivide n g → AllByRecursion (IsDivisor (product m n)) (multiple c a g)
multiple_divides m n a c [] p q h d all = tt
multiple_divides m n a c (y ∷ g) p q h d all = (
  record {
    places = product_length a y.exponents (length m) p (h.0 ∙ sym q) ∙ sym (product_length m n (length m) refl (sym q));
    divides = product_divides a y.exponents m n p h.0 q d all.0;
  },
  multiple_divides m n a c g p q h.1 d all.1,
)

products_divide : (m n : List ℕ) (f g : List Term) → length m ≡ length n → HaveLength (length m) f → HaveLength (length n) g
    → AllDivide m f → AllDivide n g → AllByRecursion (IsDivisor (product m n)) (all_products f g)
products_divide m n [] g q h k all more = tt
products_divide m n (x ∷ f) g q h k all more =
    all_append (IsDivisor (product m n)) (multiple x.coefficient x.exponents g) (all_products f g)
    (multiple_divides m n x.exponents x.coefficient g h.0 q k all.0 more) (products_divide m n f g q h.1 k all.1 more)

pub have_length : (i j : ℕ) (f : List Term) → i ≡ j → HaveLength i f → HaveLength j f
have_length i j f e h = subst (λ n. HaveLength n f) e h

pub corner_of : (corner m n : List ℕ) (f g : List Term) → corner ≡ product m n → length m ≡ length n → HaveLength (length m) f → HaveLength (length m) g
    → AllDivide m f → AllDivide n g → IsCorner corner f g
corner_of corner m n f g e q h k all more =
    let l : length (product m n) ≡ length m = product_length m n (length m) refl (sym q) in
    let dn : divides n (product m n) ≡ true = divides_product m n in
    let dm : divides m (product m n) ≡ true = rw (product_comm m n) (divides_product n m) in
    let kn : HaveLength (length n) g = have_length (length m) (length n) g q k in
    subst (λ c. IsCorner c f g) (sym e) (record {
      first = are_divisors (product m n) f (have_length (length m) (length (product m n)) f (sym l) h) (all_divide_further m (product m n) f h dm all);
      second = are_divisors (product m n) g (have_length (length m) (length (product m n)) g (sym l) k) (all_divide_further n (product m n) g kn dn more);
      products = products_divide m n f g q h kn all more;
    })

numbers_append : (ss : List ℕ) (f g : List Term) → numbers_of ss (f ++ g) ≡ numbers_of ss f ++ numbers_of ss g
numbers_append ss [] g = refl
numbers_append ss (x ∷ f) g = ap (λ k. number_of ss x.exponents ∷ k) (numbers_append ss f g)

have_take : (n i : ℕ) (f : List Term) → HaveLength n f → HaveLength n (take i f)
have_take n i f h = all_take (λ x. length x.exponents ≡ n) i f h

-- one place more of a loop

pub count_next : (m : List ℕ) (i x n more total : ℕ) → i < length m → x ≡ get_or m i 0 → more ≡ n * (x + 1)
    → n * count_divisors (drop i m) ≡ total → more * count_divisors (drop (i + 1) m) ≡ total
count_next m i x n more total l e q h =
    let d : drop i m ≡ x ∷ drop (i + 1) m = drop_more m i 0 l ∙ ap (λ y. y ∷ drop (i + 1) m) (sym e) in
    let s : n * (count_divisors (drop (i + 1) m) * (x + 1)) ≡ total = rw d at h in
    ap (λ k. k * count_divisors (drop (i + 1) m)) q ∙ (turned n (x + 1) (count_divisors (drop (i + 1) m)) ∙ s)
  where
    turned : (a b c : ℕ) → (a * b) * c ≡ a * (c * b)
    turned a b c = mul_assoc a b c ∙ ap (λ k. a * k) (mul_comm b c)

divided : (a b s : ℕ) → s ≡ a * (b + 1) → s / (b + 1) ≡ a
divided a b s e =
    let t : a * (b + 1) ≡ a * (b + 1) + 0 = omega arith in
    ap (λ k. k / (b + 1)) (e ∙ t) ∙ div-mul-add a (b + 1) 0 (omega arith)

pub stride_next : (m : List ℕ) (i x stride : ℕ) → i < length m → x ≡ get_or m i 0 → stride ≡ count_divisors (drop i m)
    → stride / (x + 1) ≡ count_divisors (drop (i + 1) m)
stride_next m i x stride l e h =
    let d : drop i m ≡ x ∷ drop (i + 1) m = drop_more m i 0 l ∙ ap (λ y. y ∷ drop (i + 1) m) (sym e) in
    divided (count_divisors (drop (i + 1) m)) x stride (h ∙ ap count_divisors d)

pub strides_next : (m so_far all : List ℕ) (i x : ℕ) → i < length m → x ≡ count_divisors (drop (i + 1) m) → so_far ++ strides (drop i m) ≡ all
    → (so_far ++ x ∷ []) ++ strides (drop (i + 1) m) ≡ all
strides_next m so_far all i x l e h =
    let d : drop i m ≡ get_or m i 0 ∷ drop (i + 1) m = drop_more m i 0 l in
    let s : so_far ++ count_divisors (drop (i + 1) m) ∷ strides (drop (i + 1) m) ≡ all = rw d at h in
    append_assoc so_far (x ∷ []) (strides (drop (i + 1) m)) ∙ (ap (λ y. so_far ++ y ∷ strides (drop (i + 1) m)) e ∙ s)

pub numbers_next : (ss : List ℕ) (f : List Term) (i n : ℕ) (x : Term) → slice_get f i ≡ Some x → n ≡ number_of ss x.exponents
    → numbers_of ss (take i f) ++ n ∷ [] ≡ numbers_of ss (take (i + 1) f)
numbers_next ss f i n x e q =
    let s : numbers_of ss (take i f ++ x ∷ []) ≡ numbers_of ss (take i f) ++ number_of ss x.exponents ∷ [] = numbers_append ss (take i f) (x ∷ []) in
    sym (ap (numbers_of ss) (take_next f i x e) ∙ (s ∙ ap (λ k. numbers_of ss (take i f) ++ k ∷ []) (sym q)))

pub multiple_next : (lcm next : List ℕ) (f : List Term) (i : ℕ) (x : Term) → next ≡ monomial.lcm lcm x.exponents → length x.exponents ≡ length lcm
    → HaveLength (length lcm) f → slice_get f i ≡ Some x → AllDivide lcm (take i f) → AllDivide next (take (i + 1) f)
multiple_next lcm next f i x q l h e all =
    rw (q, take_next f i x e)
    (all_push (λ y. divides y.exponents (monomial.lcm lcm x.exponents) ≡ true) (take i f) x
    (all_divide_further lcm (monomial.lcm lcm x.exponents) (take i f) (have_take (length lcm) i f h) (divides_lcm_left lcm x.exponents (sym l)) all)
    (divides_lcm_right lcm x.exponents (sym l)))

pub digit_holds : (P : ℕ → Type 0) (ss front all : List ℕ) (i rest : ℕ) → i < length ss → AllByRecursion P all
    → front ++ divisor_at (drop i ss) rest ≡ all → P (rest / get_or ss i 0)
digit_holds P ss front all i rest l h e =
    let d : drop i ss ≡ get_or ss i 0 ∷ drop (i + 1) ss = drop_more ss i 0 l in
    let s : front ++ rest / get_or ss i 0 ∷ divisor_at (drop (i + 1) ss) (rest % get_or ss i 0) ≡ all = rw d at e in
    (all_parts P front (rest / get_or ss i 0 ∷ divisor_at (drop (i + 1) ss) (rest % get_or ss i 0)) (subst (AllByRecursion P) (sym s) h)).1.0

pub divisor_next : (ss out all : List ℕ) (i rest : ℕ) → i < length ss → length out ≡ length ss → take i out ++ divisor_at (drop i ss) rest ≡ all
    → take (i + 1) (set out i (rest / get_or ss i 0)) ++ divisor_at (drop (i + 1) ss) (rest % get_or ss i 0) ≡ all
divisor_next ss out all i rest l e h =
    let d : drop i ss ≡ get_or ss i 0 ∷ drop (i + 1) ss = drop_more ss i 0 l in
    let s : take i out ++ rest / get_or ss i 0 ∷ divisor_at (drop (i + 1) ss) (rest % get_or ss i 0) ≡ all = rw d at h in
    ap (λ k. k ++ divisor_at (drop (i + 1) ss) (rest % get_or ss i 0)) (take_more_set out i (rest / get_or ss i 0) (omega arith))
    ∙ (append_assoc (take i out) (rest / get_or ss i 0 ∷ []) (divisor_at (drop (i + 1) ss) (rest % get_or ss i 0)) ∙ s)
