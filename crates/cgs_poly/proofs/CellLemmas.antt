-- The cells of a grid: the terms that they stand for, and what is added to them.
use Rattle.std.proofs.Common.{ℕ, zero, suc, ◌≡◌, ◌+◌, ◌-◌, ◌*◌, ◌%◌, ◌^◌, ◌<◌, ◌≤◌, Some, List, [], ◌∷◌, ◌++◌, length, get_or, take, drop}
use Rattle.std.proofs.Common.{replicate, refl, sym, ap, ◌∙◌, subst, arith}
use Rattle.std.proofs.Math.Nat.{zero-mod, zero-add}
use Rattle.std.proofs.lemmas.Nat.{mul-mod_first, mul-lt}
use Rattle.std.proofs.lemmas.List.{drop_more, length-set, append-nil, take-append-le, take_all}
use Rattle.std.specs.List.{slice_get, AllByRecursion}
use Rattle.cgs_list.proofs.ListLemmas.{all_parts, take_next}
use Rattle.cgs_field.proofs.ModularLemmas.{mod_add, mod_mul}
use Rattle.cgs_exps.specs.Monomial.{product}
use Rattle.cgs_poly.specs.Ring.{Ring}
use Rattle.cgs_poly.specs.Polynomial.{Term, term, total, places, IsOfRing, IsCanonical}
use Rattle.cgs_poly.specs.Draft.{HaveLength}
use Rattle.cgs_poly.specs.Flat.{coefficients_of}
use Rattle.cgs_poly.specs.Product.{multiple, all_products}
use Rattle.cgs_poly.specs.Grid.{count_divisors, strides, number_of, numbers_of, divisor_at, terms_at, with_added, with_multiple, HasRoom, IsDivisor}
use Rattle.cgs_poly.proofs.SumLemmas.{Alike, total_append}
use Rattle.cgs_poly.proofs.ProductLemmas.{products_append}
use Rattle.cgs_poly.proofs.GridLemmas.{number_below, number_product, divisor_back, divisor_length}

-- room

pub room_less : (m n : ℕ) (cells : List ℕ) → m ≤ n → HasRoom n cells → HasRoom m cells
room_less m n [] l h = tt
room_less m n (x ∷ cells) l h = (omega (arith, h.0), room_less m n cells l h.1)

pub room_added : (n i v : ℕ) (cells : List ℕ) → v < 2 ^ 32 → HasRoom (suc n) cells → HasRoom n (with_added i v cells)
room_added n i v [] l h = tt
room_added n zero v (x ∷ cells) l h = (omega (arith, h.0), room_less n (suc n) cells (omega arith) h.1)
room_added n (suc i) v (x ∷ cells) l h = (omega (arith, h.0), room_added n i v cells l h.1)

pub room_at_start : (n k : ℕ) → k < 2 ^ 32 → HasRoom k (replicate n 0)
room_at_start zero k l = tt
room_at_start (suc n) k l = (omega arith, room_at_start n k l)

pub small_product : (c d : ℕ) → c < 2 ^ 16 → d < 2 ^ 16 → c * d < 2 ^ 32
small_product c d l h = mul-lt c d (2 ^ 16) (2 ^ 16) l h

pub room_multiple : (n c from : ℕ) (ds numbers cells : List ℕ) → c < 2 ^ 16 → AllByRecursion (λ d. d < 2 ^ 16) ds
    → HasRoom (n + length ds) cells → HasRoom n (with_multiple c from ds numbers cells)
room_multiple n c from [] numbers cells l all h = room_less n (n + 0) cells (omega arith) h
room_multiple n c from (d ∷ ds) [] cells l all h = room_less n (n + suc (length ds)) cells (omega arith) h
room_multiple n c from (d ∷ ds) (k ∷ numbers) cells l all h =
    let s : n + suc (length ds) ≡ suc (n + length ds) = omega arith in
    room_multiple n c from ds numbers (with_added (from + k) (c * d) cells) l all.1
    (room_added (n + length ds) (from + k) (c * d) cells (small_product c d l all.0) (subst (λ j. HasRoom j cells) s h))

pub multiple_cells : (c from : ℕ) (ds numbers cells : List ℕ) → length (with_multiple c from ds numbers cells) ≡ length cells
multiple_cells c from [] numbers cells = refl
multiple_cells c from (d ∷ ds) [] cells = refl
multiple_cells c from (d ∷ ds) (k ∷ numbers) cells =
    multiple_cells c from ds numbers (with_added (from + k) (c * d) cells) ∙ length-set cells (from + k) (get_or cells (from + k) 0 + c * d)

pub same_multiple : {i j : ℕ} {ds es ms ns xs ys : List ℕ} → (c : ℕ) → i ≡ j → ds ≡ es → ms ≡ ns → xs ≡ ys
    → with_multiple c i ds ms xs ≡ with_multiple c j es ns ys
same_multiple c p q r s = cc

-- one product more
pub added_next : (c from i d : ℕ) (ds numbers cells all : List ℕ) → i < length ds → i < length numbers → d ≡ get_or ds i d
    → with_multiple c from (drop i ds) (drop i numbers) cells ≡ all
    → with_multiple c from (drop (i + 1) ds) (drop (i + 1) numbers) (with_added (from + get_or numbers i 0) (c * d) cells) ≡ all
added_next c from i d ds numbers cells all l k e h =
    let p : drop i ds ≡ d ∷ drop (i + 1) ds = drop_more ds i d l ∙ ap (λ y. y ∷ drop (i + 1) ds) (sym e) in
    let q : drop i numbers ≡ get_or numbers i 0 ∷ drop (i + 1) numbers = drop_more numbers i 0 k in
    rw (p, q) at h

-- a row of f times g, and the rows that are left
pub row_left : (f g i : ℕ) → i < f → (f - i) * g ≡ (f - (i + 1)) * g + g
row_left f g i l = let e : f - i ≡ suc (f - (i + 1)) = omega arith in rw e (omega arith)

-- what is left of a vector behind a slice of it all
pub written_back : (n : ℕ) (xs ys : List ℕ) → length xs ≡ n → take n (xs ++ drop (length xs) ys) ≡ xs
written_back n xs ys e = take-append-le n xs (drop (length xs) ys) (omega arith) ∙ take_all n xs (omega arith)

-- sums

pub added_total : (w : List ℕ → ℕ) (ss : List ℕ) (o i v : ℕ) (cells : List ℕ) → i < length cells
    → total w (terms_at ss o (with_added i v cells)) ≡ total w (terms_at ss o cells) + v * w (divisor_at ss (o + i))
added_total w ss o i v [] l = absurd (omega arith)
added_total w ss o zero v (x ∷ cells) l = let e : o + 0 ≡ o = omega arith in rw e (omega arith)
added_total w ss o (suc i) v (x ∷ cells) l =
    let e : o + suc i ≡ suc o + i = omega arith in
    rw e (omega (arith, added_total w ss (suc o) i v cells (omega arith)))

pub multiple_total : (w : List ℕ → ℕ) (m a : List ℕ) (c : ℕ) (g : List Term) (cells : List ℕ) → HaveLength (length a) g
    → AllByRecursion (IsDivisor m) (multiple c a g) → length cells ≡ count_divisors m
    → total w (terms_at (strides m) 0 (with_multiple c (number_of (strides m) a) (coefficients_of g) (numbers_of (strides m) g) cells))
    ≡ total w (terms_at (strides m) 0 cells) + total w (multiple c a g)
multiple_total w m a c [] cells h all e = omega arith
multiple_total w m a c (y ∷ g) cells h all e =
    let i : ℕ = number_of (strides m) a + number_of (strides m) y.exponents in
    let s : number_of (strides m) (product a y.exponents) ≡ number_of (strides m) a + number_of (strides m) y.exponents =
    number_product (strides m) a y.exponents (sym h.0) in
    let back : divisor_at (strides m) (number_of (strides m) a + number_of (strides m) y.exponents) ≡ product a y.exponents =
    ap (divisor_at (strides m)) (sym s) ∙ divisor_back m (product a y.exponents) all.0.places all.0.divides in
    let below : number_of (strides m) a + number_of (strides m) y.exponents < length cells =
    omega (arith, s, e, number_below m (product a y.exponents) all.0.places all.0.divides) in
    let one : total w (terms_at (strides m) 0 (with_added (number_of (strides m) a + number_of (strides m) y.exponents) (c * y.coefficient) cells))
    ≡ total w (terms_at (strides m) 0 cells) + (c * y.coefficient) * w (product a y.exponents) =
    added_total w (strides m) 0 i (c * y.coefficient) cells below
    ∙ ap (λ k. total w (terms_at (strides m) 0 cells) + (c * y.coefficient) * w k) (ap (divisor_at (strides m)) (zero-add i) ∙ back) in
    let rest = multiple_total w m a c g (with_added i (c * y.coefficient) cells) h.1 all.1
    (length-set cells i (get_or cells i 0 + c * y.coefficient) ∙ e) in
    rest ∙ (ap (λ k. k + total w (multiple c a g)) one ∙ regroup (total w (terms_at (strides m) 0 cells)) ((c * y.coefficient) * w (product a y.exponents)) _)
  where
    regroup : (x y z : ℕ) → (x + y) + z ≡ x + (y + z)
    regroup x y z = omega arith

pub empty_total : (w : List ℕ → ℕ) (ss : List ℕ) (n o : ℕ) → total w (terms_at ss o (replicate n 0)) ≡ 0
empty_total w ss zero o = refl
empty_total w ss (suc n) o = omega (arith, empty_total w ss n (suc o))

-- rows of a product

pub row_at : (P : Term → Type 0) (f g : List Term) (i : ℕ) (x : Term) → slice_get f i ≡ Some x
    → AllByRecursion P (all_products f g) → AllByRecursion P (multiple x.coefficient x.exponents g)
row_at P [] g i x e all = absurd (cc)
row_at P (y ∷ f) g zero x e all =
    let s : y ≡ x = cc in
    subst (λ (z : Term). AllByRecursion P (multiple z.coefficient z.exponents g)) s
    (all_parts P (multiple y.coefficient y.exponents g) (all_products f g) all).0
row_at P (y ∷ f) g (suc i) x e all = row_at P f g i x e (all_parts P (multiple y.coefficient y.exponents g) (all_products f g) all).1

pub row_added : (p i : ℕ) (m : List ℕ) (f g : List Term) (x : Term) (cells : List ℕ) → slice_get f i ≡ Some x → HaveLength (length x.exponents) g
    → AllByRecursion (IsDivisor m) (all_products f g) → length cells ≡ count_divisors m
    → Alike p (terms_at (strides m) 0 cells) (all_products (take i f) g)
    → Alike p (terms_at (strides m) 0 (with_multiple x.coefficient (number_of (strides m) x.exponents) (coefficients_of g) (numbers_of (strides m) g) cells))
    (all_products (take (i + 1) f) g)
row_added p i m f g x cells e h all size a =
    record {
      under = λ w.
          let row : ℕ = total w (multiple x.coefficient x.exponents g) in
          let s = multiple_total w m x.exponents x.coefficient g cells h (row_at (IsDivisor m) f g i x e all) size in
          let t : total w (all_products (take (i + 1) f) g) ≡ total w (all_products (take i f) g) + total w (multiple x.coefficient x.exponents g) =
          ap (λ k. total w (all_products k g)) (take_next f i x e)
          ∙ (ap (total w) (products_append (take i f) (x ∷ []) g ∙ ap (λ k. all_products (take i f) g ++ k) (append-nil (multiple x.coefficient x.exponents g)))
          ∙ total_append w (all_products (take i f) g) (multiple x.coefficient x.exponents g)) in
          ap (λ k. k % p) s
          ∙ (mod_add p (total w (terms_at (strides m) 0 cells)) (total w (all_products (take i f) g)) row row (a.under w) refl ∙ ap (λ k. k % p) (sym t));
    }

pub row_within : (m a : List ℕ) (c : ℕ) (g : List Term) → HaveLength (length a) g → AllByRecursion (IsDivisor m) (multiple c a g) → (i : ℕ)
    → i < length (numbers_of (strides m) g) → number_of (strides m) a + get_or (numbers_of (strides m) g) i 0 < count_divisors m
row_within m a c [] h all i l = absurd (omega arith)
row_within m a c (y ∷ g) h all zero l =
    omega (arith, number_product (strides m) a y.exponents (sym h.0), number_below m (product a y.exponents) all.0.places all.0.divides)
row_within m a c (y ∷ g) h all (suc i) l = row_within m a c g h.1 all.1 i (omega arith)

pub numbers_length : (ss : List ℕ) (g : List Term) → length (numbers_of ss g) ≡ length g
numbers_length ss [] = refl
numbers_length ss (x ∷ g) = ap suc (numbers_length ss g)

pub coefficients_length : (g : List Term) → length (coefficients_of g) ≡ length g
coefficients_length [] = refl
coefficients_length (x ∷ g) = ap suc (coefficients_length g)

pub coefficients_small : (ring : Ring) (g : List Term) → ring.modulus < 65536 → IsCanonical ring g → AllByRecursion (λ d. d < 2 ^ 16) (coefficients_of g)
coefficients_small ring [] l h = tt
coefficients_small ring (x ∷ g) l h = (omega (arith, h.1), coefficients_small ring g l h.4)

pub divisors_fit : (m : List ℕ) (f : List Term) → count_divisors m < 2 ^ 64 → AllByRecursion (IsDivisor m) f
    → AllByRecursion (λ x. number_of (strides m) x.exponents < 2 ^ 64) f
divisors_fit m [] l all = tt
divisors_fit m (x ∷ f) l all = (omega (arith, number_below m x.exponents all.0.places all.0.divides), divisors_fit m f l all.1)

-- the terms of all cells

pub cells_of_ring : (ring : Ring) (ss : List ℕ) (o : ℕ) (cells : List ℕ) → length ss ≡ places ring → IsOfRing ring (terms_at ss o cells)
cells_of_ring ring ss o [] e = tt
cells_of_ring ring ss o (x ∷ cells) e = (divisor_length ss o ∙ e, cells_of_ring ring ss (suc o) cells e)

module _ (p i k : ℕ) (ss cells : List ℕ) (terms : List Term) (next : suc k ≡ i) (l : k < length cells)
    (a : Alike p terms (terms_at ss i (drop i cells))) where
  before : (w : List ℕ → ℕ) → total w (terms_at ss k (drop k cells)) ≡ get_or cells k 0 * w (divisor_at ss k) + total w (terms_at ss i (drop i cells))
  before w =
      let d : drop k cells ≡ get_or cells k 0 ∷ drop (k + 1) cells = drop_more cells k 0 l in
      let e : k + 1 ≡ i = omega arith in
      let s : drop k cells ≡ get_or cells k 0 ∷ drop i cells = d ∙ ap (λ n. get_or cells k 0 ∷ drop n cells) e in
      ap (λ f. total w (terms_at ss k f)) s ∙ ap (λ n. get_or cells k 0 * w (divisor_at ss k) + total w (terms_at ss n (drop i cells))) next

  pub cell_left_out : get_or cells k 0 % p ≡ 0 → Alike p terms (terms_at ss k (drop k cells))
  cell_left_out z =
      record {
        under = λ w.
            let v : ℕ = w (divisor_at ss k) in
            let none : (get_or cells k 0 * w (divisor_at ss k)) % p ≡ 0 % p =
            mod_mul p (get_or cells k 0) 0 (w (divisor_at ss k)) (w (divisor_at ss k)) (z ∙ sym (zero-mod p)) refl
            ∙ ap (λ n. n % p) (no_times (w (divisor_at ss k))) in
            sym (ap (λ n. n % p) (before w) ∙ mod_add p (get_or cells k 0 * w (divisor_at ss k)) 0
            (total w (terms_at ss i (drop i cells))) (total w terms) none (sym (a.under w)) ∙ ap (λ n. n % p) (zero-add (total w terms)));
      }
    where
      no_times : (n : ℕ) → 0 * n ≡ 0
      no_times n = omega arith

  pub cell_put : (c : ℕ) (m : List ℕ) → c ≡ get_or cells k 0 % p → m ≡ divisor_at ss k → Alike p (terms ++ term c m ∷ []) (terms_at ss k (drop k cells))
  cell_put c m ce me =
      record {
        under = λ w.
            let s : total w (terms ++ term c m ∷ []) ≡ c * w m + total w terms = omega (arith, total_append w terms (term c m ∷ [])) in
            let t : (c * w m) % p ≡ (get_or cells k 0 * w (divisor_at ss k)) % p = rw (ce, me) (mul-mod_first (get_or cells k 0) (w (divisor_at ss k)) p) in
            ap (λ n. n % p) s
            ∙ (mod_add p (c * w m) (get_or cells k 0 * w (divisor_at ss k)) (total w terms) (total w (terms_at ss i (drop i cells))) t (a.under w)
            ∙ ap (λ n. n % p) (sym (before w)));
      }
