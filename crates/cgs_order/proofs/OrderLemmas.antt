-- The order of monomials is total and, on monomials of one length, well-founded.
use Rattle.std.proofs.Common.{ℕ, zero, suc, ◌≡◌, ◌+◌, ◌<◌, List, [], ◌∷◌, ◌++◌, length, take, drop, reverse, refl, sym, ap, ◌∙◌, arith}
use Rattle.std.proofs.lemmas.List.{length-append, length-take, length-drop, take-append-drop, length-reverse, reverse-reverse}
use Rattle.std.proofs.lemmas.Cmp.{on_total, nat_list_cmp_total}
use Rattle.std.proofs.lemmas.Bool.Decides.{nat_tests}
use Rattle.std.specs.Cmp.{IsTotalOrder}
use Rattle.std.specs.Cmp.Lexicographic.{slice_cmp}
use Rattle.std.specs.declared.cmp.Ordering.{Ordering}
use Rattle.std.specs.Ordering.{nat_cmp, ordering_then, ordering_reverse}
use Rattle.std.specs.declared.cmp.Ordering.TheVariants.{Less, Equal, Greater}
use Rattle.cgs_order.specs.declared.kind.Kind.{Kind}
use Rattle.cgs_order.specs.declared.kind.Kind.TheVariants.{Lex, GrLex, GrevLex}
use Rattle.cgs_order.specs.declared.block.BlockOrder.{BlockOrder}
use Rattle.cgs_order.specs.TermOrder.{partial_sums, block_key, key, compared}

-- numbers

pub nat_cmp_equal : (x y : ℕ) → nat_cmp x y ≡ Equal → x ≡ y
nat_cmp_equal x y h = grind (arith, nat_tests)

nat_cmp_less : (x y : ℕ) → nat_cmp x y ≡ Less → x < y
nat_cmp_less x y h = grind (arith, nat_tests)

nat_cmp_self : (x : ℕ) → nat_cmp x x ≡ Equal
nat_cmp_self x = grind (arith, nat_tests)

-- lists of numbers

cmp_equal_step : (x y : ℕ) (xs ys : List ℕ) (o : Ordering) → nat_cmp x y ≡ o → ordering_then o (slice_cmp nat_cmp xs ys) ≡ Equal
    → (slice_cmp nat_cmp xs ys ≡ Equal → xs ≡ ys) → x ∷ xs ≡ y ∷ ys
cmp_equal_step x y xs ys Less e k ih = cc
cmp_equal_step x y xs ys Equal e k ih = cc (nat_cmp_equal x y e, ih k)
cmp_equal_step x y xs ys Greater e k ih = cc

pub cmp_equal : (a b : List ℕ) → slice_cmp nat_cmp a b ≡ Equal → a ≡ b
cmp_equal [] [] h = refl
cmp_equal [] (y ∷ ys) h = cc
cmp_equal (x ∷ xs) [] h = cc
cmp_equal (x ∷ xs) (y ∷ ys) h = cmp_equal_step x y xs ys (nat_cmp x y) refl h (cmp_equal xs ys)

pub cmp_self : (a : List ℕ) → slice_cmp nat_cmp a a ≡ Equal
cmp_self [] = refl
cmp_self (x ∷ xs) = rw (nat_cmp_self x) (cmp_self xs)

-- keys

partial_sums_length : (a : ℕ) (xs : List ℕ) → length (partial_sums a xs) ≡ length xs
partial_sums_length a [] = refl
partial_sums_length a (x ∷ xs) = ap suc (partial_sums_length (a + x) xs)

partial_sums_same : (a : ℕ) (xs ys : List ℕ) → partial_sums a xs ≡ partial_sums a ys → xs ≡ ys
partial_sums_same a [] [] e = refl
partial_sums_same a [] (y ∷ ys) e = cc
partial_sums_same a (x ∷ xs) [] e = cc
partial_sums_same a (x ∷ xs) (y ∷ ys) e =
    let h : a + x ≡ a + y = cc in
    let k : x ≡ y = omega arith in
    let t : partial_sums (a + x) xs ≡ partial_sums (a + x) ys = rw k (cc) in
    cc (k, partial_sums_same (a + x) xs ys t)

pub block_length : (k : Kind) (a b : List ℕ) → length a ≡ length b → length (block_key k a) ≡ length (block_key k b)
block_length Lex a b p = p
block_length GrLex a b p = omega arith
block_length GrevLex a b p =
    omega (arith, length-reverse (partial_sums 0 a), length-reverse (partial_sums 0 b), partial_sums_length 0 a, partial_sums_length 0 b)

-- the lists of two appended pairs, of which the first have one length
append_same : (a b c d : List ℕ) → length a ≡ length c → a ++ b ≡ c ++ d → (a ≡ c) × (b ≡ d)
append_same [] b [] d p e = (refl, e)
append_same [] b (z ∷ zs) d p e = absurd (omega arith)
append_same (x ∷ xs) b [] d p e = absurd (omega arith)
append_same (x ∷ xs) b (z ∷ zs) d p e =
    let t : xs ++ b ≡ zs ++ d = cc in
    let h : x ≡ z = cc in
    let r = append_same xs b zs d (omega arith) t in
    (cc (h, r.0), r.1)

reverse_same : (a b : List ℕ) → reverse a ≡ reverse b → a ≡ b
reverse_same a b e = sym (reverse-reverse a) ∙ (ap reverse e ∙ reverse-reverse b)

block_same : (k : Kind) (a b : List ℕ) → length a ≡ length b → block_key k a ≡ block_key k b → a ≡ b
block_same Lex a b p e = e
block_same GrLex a b p e = cc
block_same GrevLex a b p e = partial_sums_same 0 a b (reverse_same (partial_sums 0 a) (partial_sums 0 b) e)

pub parts_length : (n : ℕ) (a b : List ℕ) → length a ≡ length b → (length (take n a) ≡ length (take n b)) × (length (drop n a) ≡ length (drop n b))
parts_length n a b p = (omega (arith, length-take n a, length-take n b), omega (arith, length-drop n a, length-drop n b))

pub key_length : (order : BlockOrder) (a b : List ℕ) → length a ≡ length b → length (key order a) ≡ length (key order b)
unfolding key
key_length order a b p =
    let n = order.head in
    let h = parts_length n a b p in
    omega (
      arith,
      length-append (block_key order.kind (take n a)) (block_key order.kind (drop n a)),
      length-append (block_key order.kind (take n b))
          (block_key order.kind (drop n b)),
      block_length order.kind (take n a) (take n b) h.0,
      block_length order.kind (drop n a) (drop n b) h.1,
    )

pub key_same : (order : BlockOrder) (a b : List ℕ) → length a ≡ length b → key order a ≡ key order b → a ≡ b
unfolding key
key_same order a b p e =
    let n = order.head in
    let h = parts_length n a b p in
    let s = append_same _ _ _ _ (block_length order.kind (take n a) (take n b) h.0) e in
    let x = block_same order.kind (take n a) (take n b) h.0 s.0 in
    let y = block_same order.kind (drop n a) (drop n b) h.1 s.1 in
    cc (x, y, take-append-drop n a, take-append-drop n b)

-- the order

pub compared_total : (order : BlockOrder) → IsTotalOrder (compared order)
unfolding compared
compared_total order = on_total (key order) nat_list_cmp_total

pub compared_equal : (order : BlockOrder) (a b : List ℕ) → length a ≡ length b → compared order a b ≡ Equal → a ≡ b
unfolding compared
compared_equal order a b p e = key_same order a b p (cmp_equal (key order a) (key order b) e)

pub compared_self : (order : BlockOrder) (a : List ℕ) → compared order a a ≡ Equal
unfolding compared
compared_self order a = cmp_self (key order a)

pub compared_trans : (order : BlockOrder) (a b c : List ℕ) → compared order a b ≡ Less → compared order b c ≡ Less → compared order a c ≡ Less
compared_trans order a b c p q = (compared_total order).trans a b c p q

pub compared_back : (order : BlockOrder) (a b : List ℕ) → compared order a b ≡ Greater → compared order b a ≡ Less
compared_back order a b p = back (compared order b a) ((compared_total order).antisymm a b)
  where
    back : (o : Ordering) → compared order a b ≡ ordering_reverse o → o ≡ Less
    back Less e = refl
    back Equal e = cc
    back Greater e = cc

pub compared_forth : (order : BlockOrder) (a b : List ℕ) → compared order a b ≡ Less → compared order b a ≡ Greater
compared_forth order a b p = (compared_total order).antisymm b a ∙ ap ordering_reverse p

pub compared_not_self : (order : BlockOrder) (a : List ℕ) → compared order a a ≡ Less → ⊥
compared_not_self order a e = cc (compared_self order a)

-- well-foundedness, as an induction

-- strong induction on numbers
below_ind : (P : ℕ → Type 0) → ((n : ℕ) → ((k : ℕ) → k < n → P k) → P n) → (n k : ℕ) → k < n → P k
below_ind P step zero k h = absurd (omega arith)
below_ind P step (suc n) k h = step k (λ j l. below_ind P step n j (omega arith))

pub lex_induction : (n : ℕ) (P : List ℕ → Type 0) → ((a : List ℕ) → length a ≡ n → ((b : List ℕ) → length b ≡ n → slice_cmp nat_cmp b a ≡ Less → P b) → P a)
    → (a : List ℕ) → length a ≡ n → P a
lex_induction zero P step [] p = step [] p (λ b q l. absurd (nothing b q l))
  where
    nothing : (b : List ℕ) → length b ≡ 0 → slice_cmp nat_cmp b [] ≡ Less → ⊥
    nothing [] q l = cc
    nothing (y ∷ ys) q l = omega arith
lex_induction zero P step (x ∷ xs) p = absurd (omega arith)
lex_induction (suc n) P step [] p = absurd (omega arith)
lex_induction (suc n) P step (x ∷ xs) p =
    below_ind (λ h. (t : List ℕ) → length t ≡ n → P (h ∷ t))
    (λ h outer. lex_induction n (λ t. P (h ∷ t)) (λ t q inner. step (h ∷ t) (ap suc q) (λ b s l. lex_step n P h t outer inner b s l)))
    (suc x) x (omega arith) xs (omega arith)
  where
    lex_step : (n : ℕ) (P : List ℕ → Type 0) (h : ℕ) (t : List ℕ) → ((k : ℕ) → k < h → (u : List ℕ) → length u ≡ n → P (k ∷ u))
        → ((u : List ℕ) → length u ≡ n → slice_cmp nat_cmp u t ≡ Less → P (h ∷ u)) → (b : List ℕ) → length b ≡ suc n → slice_cmp nat_cmp b (h ∷ t) ≡ Less → P b
    lex_step n P h t outer inner [] s l = absurd (omega arith)
    lex_step n P h t outer inner (y ∷ ys) s l = by_head (nat_cmp y h) refl l
      where
        by_head : (o : Ordering) → nat_cmp y h ≡ o → ordering_then o (slice_cmp nat_cmp ys t) ≡ Less → P (y ∷ ys)
        by_head Less e k = outer y (nat_cmp_less y h e) ys (omega arith)
        by_head Equal e k = rw (nat_cmp_equal y h e) (inner ys (omega arith) k)
        by_head Greater e k = absurd (cc)

-- what holds of a monomial if it holds of all smaller ones of the ring, holds of each
pub compared_induction : (order : BlockOrder) (P : List ℕ → Type 0)
    → ((a : List ℕ) → length a ≡ order.head + order.tail → ((b : List ℕ) → length b ≡ order.head + order.tail → compared order b a ≡ Less → P b) → P a)
    → (a : List ℕ) → length a ≡ order.head + order.tail → P a
unfolding compared
compared_induction order P step a p =
    lex_induction (length (key order a)) (λ k. (b : List ℕ) → length b ≡ order.head + order.tail → key order b ≡ k → P b)
    (λ k n ih b q e. step b q (λ c s l. ih (key order c) (key_length order c a (s ∙ sym p)) (rw (← e) l) c s refl))
    (key order a) refl a p refl
