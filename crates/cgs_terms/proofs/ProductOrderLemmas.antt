-- The order of monomials and their products: multiplying both sides keeps the order, and no multiple is below.
use Rattle.std.proofs.Common.{ℕ, zero, suc, ◌≡◌, ◌+◌, List, [], ◌∷◌, ◌++◌, length, take, drop, replicate, refl, sym, ◌∙◌, arith}
use Rattle.std.proofs.lemmas.List.{length-reverse, length-replicate}
use Rattle.std.proofs.lemmas.Bool.Decides.{nat_tests}
use mathlib.Core.List.{reverse_aux}
use Rattle.std.specs.Cmp.Lexicographic.{slice_cmp}
use Rattle.std.specs.declared.cmp.Ordering.{Ordering}
use Rattle.std.specs.declared.cmp.Ordering.TheVariants.{Less, Equal, Greater}
use Rattle.std.specs.Ordering.{nat_cmp, ordering_then}
use Rattle.cgs_exps.specs.Monomial.{product}
use Rattle.cgs_exps.proofs.MonomialLemmas.{degree_product, product_comm, one_product}
use Rattle.cgs_order.specs.declared.kind.Kind.{Kind}
use Rattle.cgs_order.specs.declared.kind.Kind.TheVariants.{Lex, GrLex, GrevLex}
use Rattle.cgs_order.specs.declared.block.BlockOrder.{BlockOrder}
use Rattle.cgs_order.specs.TermOrder.{partial_sums, block_key, key, compared}
use Rattle.cgs_order.proofs.OrderLemmas.{block_length, key_length, parts_length}

nat_cmp_shift : (t x y : ℕ) → nat_cmp (t + x) (t + y) ≡ nat_cmp x y
nat_cmp_shift t x y = grind (arith, nat_tests)

nat_cmp_grown : (t x : ℕ) → nat_cmp (t + x) x ≡ Less → ⊥
nat_cmp_grown t x h = grind (arith, nat_tests)

cmp_shift : (t a b : List ℕ) → length t ≡ length a → length t ≡ length b → slice_cmp nat_cmp (product t a) (product t b) ≡ slice_cmp nat_cmp a b
cmp_shift [] [] [] p q = refl
cmp_shift [] [] (y ∷ ys) p q = absurd (omega arith)
cmp_shift [] (x ∷ xs) b p q = absurd (omega arith)
cmp_shift (t ∷ ts) [] b p q = absurd (omega arith)
cmp_shift (t ∷ ts) (x ∷ xs) [] p q = absurd (omega arith)
cmp_shift (t ∷ ts) (x ∷ xs) (y ∷ ys) p q = cc (nat_cmp_shift t x y, cmp_shift ts xs ys (omega arith) (omega arith))

cmp_grown_step : (t x : ℕ) (ts xs : List ℕ) (o : Ordering) → nat_cmp (t + x) x ≡ o
    → ordering_then o (slice_cmp nat_cmp (product ts xs) xs) ≡ Less → (slice_cmp nat_cmp (product ts xs) xs ≡ Less → ⊥) → ⊥
cmp_grown_step t x ts xs Less e k ih = nat_cmp_grown t x e
cmp_grown_step t x ts xs Equal e k ih = ih k
cmp_grown_step t x ts xs Greater e k ih = cc

cmp_grown : (t a : List ℕ) → length t ≡ length a → slice_cmp nat_cmp (product t a) a ≡ Less → ⊥
cmp_grown [] [] p h = cc
cmp_grown [] (x ∷ xs) p h = absurd (omega arith)
cmp_grown (t ∷ ts) [] p h = cc
cmp_grown (t ∷ ts) (x ∷ xs) p h = cmp_grown_step t x ts xs (nat_cmp (t + x) x) refl h (cmp_grown ts xs (omega arith))

pub take_product : (n : ℕ) (a b : List ℕ) → take n (product a b) ≡ product (take n a) (take n b)
take_product zero a b = refl
take_product (suc n) [] b = refl
take_product (suc n) (x ∷ xs) [] = refl
take_product (suc n) (x ∷ xs) (y ∷ ys) = cc (take_product n xs ys)

pub drop_product : (n : ℕ) (a b : List ℕ) → drop n (product a b) ≡ product (drop n a) (drop n b)
drop_product zero a b = refl
drop_product (suc n) [] b = refl
drop_product (suc n) (x ∷ xs) [] = drop_nil n (drop n xs)
  where
    drop_nil : (m : ℕ) (l : List ℕ) → [] ≡ product l []
    drop_nil m [] = refl
    drop_nil m (y ∷ ys) = refl
drop_product (suc n) (x ∷ xs) (y ∷ ys) = drop_product n xs ys

pub product_append : (a b c d : List ℕ) → length a ≡ length c → product (a ++ b) (c ++ d) ≡ product a c ++ product b d
product_append [] b [] d p = refl
product_append [] b (z ∷ zs) d p = absurd (omega arith)
product_append (x ∷ xs) b [] d p = absurd (omega arith)
product_append (x ∷ xs) b (z ∷ zs) d p = cc (product_append xs b zs d (omega arith))

product_reverse : (a b r s : List ℕ) → length a ≡ length b → reverse_aux (product a b) (product r s) ≡ product (reverse_aux a r) (reverse_aux b s)
product_reverse [] [] r s p = refl
product_reverse [] (y ∷ ys) r s p = absurd (omega arith)
product_reverse (x ∷ xs) [] r s p = absurd (omega arith)
product_reverse (x ∷ xs) (y ∷ ys) r s p = product_reverse xs ys (x ∷ r) (y ∷ s) (omega arith)

partial_sums_product : (a b : ℕ) (xs ys : List ℕ) → partial_sums (a + b) (product xs ys) ≡ product (partial_sums a xs) (partial_sums b ys)
partial_sums_product a b [] ys = refl
partial_sums_product a b (x ∷ xs) [] = refl
partial_sums_product a b (x ∷ xs) (y ∷ ys) =
    let e : (a + b) + (x + y) ≡ (a + x) + (b + y) = omega arith in
    rw e (cc (partial_sums_product (a + x) (b + y) xs ys))

block_product : (k : Kind) (a b : List ℕ) → length a ≡ length b → block_key k (product a b) ≡ product (block_key k a) (block_key k b)
block_product Lex a b p = refl
block_product GrLex a b p = cc (degree_product a b p)
block_product GrevLex a b p =
    let e : length (partial_sums 0 a) ≡ length (partial_sums 0 b) =
    omega (arith, block_length GrevLex a b p, length-reverse (partial_sums 0 a), length-reverse (partial_sums 0 b)) in
    rw (partial_sums_product 0 0 a b) (product_reverse (partial_sums 0 a) (partial_sums 0 b) [] [] e)

pub key_product : (order : BlockOrder) (a b : List ℕ) → length a ≡ length b → key order (product a b) ≡ product (key order a) (key order b)
unfolding key
key_product order a b p =
    let n = order.head in
    let h = parts_length n a b p in
    let e : block_key order.kind (take n (product a b)) ≡ product (block_key order.kind (take n a)) (block_key order.kind (take n b)) =
    rw (take_product n a b) (block_product order.kind (take n a) (take n b) h.0) in
    let f : block_key order.kind (drop n (product a b)) ≡ product (block_key order.kind (drop n a)) (block_key order.kind (drop n b)) =
    rw (drop_product n a b) (block_product order.kind (drop n a) (drop n b) h.1) in
    let g = product_append (block_key order.kind (take n a)) (block_key order.kind (drop n a))
    (block_key order.kind (take n b)) (block_key order.kind (drop n b))
    (block_length order.kind (take n a) (take n b) h.0) in
    cc (e, f, g)

pub compared_shift : (order : BlockOrder) (t a b : List ℕ) → length t ≡ length a → length t ≡ length b
    → compared order (product t a) (product t b) ≡ compared order a b
unfolding compared
compared_shift order t a b p q =
    cc (key_product order t a p, key_product order t b q, cmp_shift (key order t) (key order a) (key order b) (key_length order t a p) (key_length order t b q))

-- a multiple is not below
pub compared_grown : (order : BlockOrder) (t a : List ℕ) → length t ≡ length a → compared order (product t a) a ≡ Less → ⊥
unfolding compared
compared_grown order t a p e = cmp_grown (key order t) (key order a) (key_length order t a p) (rw (key_product order t a p) at e)

-- 1 is least
pub one_least : (order : BlockOrder) (a : List ℕ) → compared order a (replicate (length a) 0) ≡ Less → ⊥
one_least order a e =
    let s : product a (replicate (length a) 0) ≡ a = product_comm a (replicate (length a) 0) ∙ one_product (length a) a refl in
    compared_grown order a (replicate (length a) 0) (sym (length-replicate {A = ℕ} (length a) 0)) (rw s e)
