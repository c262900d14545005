-- Monomials compared by their variables alone.
use Rattle.std.proofs.Common.{ℕ, ◌≡◌, ◌⊎◌, inl, inr, List, [], ◌∷◌, ◌++◌, length, take, drop, refl, sym, ap, ◌∙◌, arith}
use Rattle.std.proofs.lemmas.List.{take_all, drop_all}
use Rattle.std.specs.declared.cmp.Ordering.{Ordering}
use Rattle.std.specs.declared.cmp.Ordering.TheVariants.{Less, Equal, Greater}
use Rattle.std.specs.Ordering.{nat_cmp, ordering_then}
use Rattle.std.specs.Cmp.Lexicographic.{slice_cmp}
use Rattle.cgs_order.specs.TermOrder.{block_key, key, compared}
use Rattle.cgs_order.proofs.OrderLemmas.{cmp_self, block_length, compared_equal}
use Rattle.cgs_poly.specs.Ring.{Ring}
use Rattle.cgs_poly.specs.Polynomial.{places, order_of}
use Rattle.cgs_poly.specs.Parameters.{variables_ring}
use Rattle.cgs_poly.proofs.SpecialisedLemmas.{variables_length}

cmp_append : (a b c d : List ℕ) → length a ≡ length c → slice_cmp nat_cmp (a ++ b) (c ++ d) ≡ ordering_then (slice_cmp nat_cmp a c) (slice_cmp nat_cmp b d)
cmp_append [] b [] d p = refl
cmp_append [] b (z ∷ zs) d p = absurd (omega arith)
cmp_append (x ∷ xs) b [] d p = absurd (omega arith)
cmp_append (x ∷ xs) b (z ∷ zs) d p = rw (cmp_append xs b zs d (omega arith)) (then_assoc (nat_cmp x z))
  where
    then_assoc : (o : Ordering) → ordering_then o (ordering_then (slice_cmp nat_cmp xs zs) (slice_cmp nat_cmp b d))
        ≡ ordering_then (ordering_then o (slice_cmp nat_cmp xs zs)) (slice_cmp nat_cmp b d)
    then_assoc Less = refl
    then_assoc Equal = refl
    then_assoc Greater = refl

module _ (ring : Ring) where
  -- how the variables' parts and the parameters' parts compare
  abbrev block_compared : List ℕ → List ℕ → Ordering
  block_compared x y = slice_cmp nat_cmp (block_key ring.kind x) (block_key ring.kind y)

  compared_blocks : (m n : List ℕ) → length m ≡ places ring → length n ≡ places ring
      → compared (order_of ring) m n
      ≡ ordering_then (block_compared (take ring.variables m) (take ring.variables n)) (block_compared (drop ring.variables m) (drop ring.variables n))
  unfolding compared key
  compared_blocks m n l k = cmp_append (block_key ring.kind (take ring.variables m)) (block_key ring.kind (drop ring.variables m))
      (block_key ring.kind (take ring.variables n)) (block_key ring.kind (drop ring.variables n))
      (block_length ring.kind (take ring.variables m) (take ring.variables n) (variables_length ring m l ∙ sym (variables_length ring n k)))

  variables_blocks : (x y : List ℕ) → length x ≡ ring.variables → length y ≡ ring.variables → compared (order_of (variables_ring ring)) x y ≡ block_compared x y
  unfolding compared key
  variables_blocks x y l k =
      let tx : take ring.variables x ≡ x = take_all ring.variables x (omega arith) in
      let ty : take ring.variables y ≡ y = take_all ring.variables y (omega arith) in
      let dx : drop ring.variables x ≡ [] = drop_all ring.variables x (omega arith) in
      let dy : drop ring.variables y ≡ [] = drop_all ring.variables y (omega arith) in
      let e : slice_cmp nat_cmp (block_key ring.kind []) (block_key ring.kind []) ≡ Equal = cmp_self (block_key ring.kind []) in
      rw (tx, ty, dx, dy) (cmp_append (block_key ring.kind x) (block_key ring.kind []) (block_key ring.kind y) (block_key ring.kind [])
      (block_length ring.kind x y (l ∙ sym k)) ∙ (ap (ordering_then (block_compared x y)) e ∙ then_equal (block_compared x y)))
    where
      then_equal : (o : Ordering) → ordering_then o Equal ≡ o
      then_equal Less = refl
      then_equal Equal = refl
      then_equal Greater = refl

  -- less in the variables is less
  pub below_from_variables : (m n : List ℕ) → length m ≡ places ring → length n ≡ places ring
      → compared (order_of (variables_ring ring)) (take ring.variables m) (take ring.variables n) ≡ Less → compared (order_of ring) m n ≡ Less
  below_from_variables m n l k e =
      let b : block_compared (take ring.variables m) (take ring.variables n)
      ≡ Less = sym (variables_blocks (take ring.variables m) (take ring.variables n) (variables_length ring m l) (variables_length ring n k)) ∙ e in
      compared_blocks m n l k ∙ ap (λ o. ordering_then o (block_compared (drop ring.variables m) (drop ring.variables n))) b

  -- less is no greater in the variables
  pub variables_from_below : (m n : List ℕ) → length m ≡ places ring → length n ≡ places ring → compared (order_of ring) m n ≡ Less
      → (compared (order_of (variables_ring ring)) (take ring.variables m) (take ring.variables n) ≡ Less) ⊎ (take ring.variables m ≡ take ring.variables n)
  variables_from_below m n l k e = by_block (compared (order_of (variables_ring ring)) (take ring.variables m) (take ring.variables n)) refl
    where
      by_block : (o : Ordering) → compared (order_of (variables_ring ring)) (take ring.variables m) (take ring.variables n) ≡ o
          → (compared (order_of (variables_ring ring)) (take ring.variables m) (take ring.variables n) ≡ Less)
          ⊎ (take ring.variables m ≡ take ring.variables n)
      by_block Less q = inl q
      by_block Equal q = inr (compared_equal (order_of (variables_ring ring)) (take ring.variables m) (take ring.variables n)
          (variables_length ring m l ∙ sym (variables_length ring n k)) q)
      by_block Greater q =
          let b : block_compared (take ring.variables m) (take ring.variables n)
          ≡ Greater = sym (variables_blocks (take ring.variables m) (take ring.variables n) (variables_length ring m l) (variables_length ring n k)) ∙ q in
          let g : compared (order_of ring) m n ≡ Greater = compared_blocks m n l k
          ∙ ap (λ o. ordering_then o (block_compared (drop ring.variables m) (drop ring.variables n))) b in
          absurd (cc)
