-- The term orders: monomials are compared by their key lists, the variables' key before the parameters' (Becker, Weispfenning, section 5.1).
use Rattle.std.specs.Prelude.{ℕ, ◌+◌, List, [], ◌∷◌, ◌++◌, reverse, sum, take, drop}
use Rattle.std.specs.declared.cmp.Ordering.{Ordering}
use Rattle.std.specs.Ordering.{nat_cmp}
use Rattle.std.specs.Cmp.Lexicographic.{slice_cmp}
use Rattle.cgs_order.specs.declared.kind.Kind.{Kind}
use Rattle.cgs_order.specs.declared.kind.Kind.TheVariants.{Lex, GrLex, GrevLex}
use Rattle.cgs_order.specs.declared.block.BlockOrder.{BlockOrder}

-- n + e1, n + e1 + e2, and so on
abbrev pub partial_sums : ℕ → List ℕ → List ℕ
partial_sums n [] = []
partial_sums n (x ∷ xs) = (n + x) ∷ partial_sums (n + x) xs

-- what stands for the exponents of one block: the greater of two blocks is the one whose key is lexicographically greater
abbrev pub block_key : Kind → List ℕ → List ℕ
block_key Lex exponents = exponents
block_key GrLex exponents = sum exponents ∷ exponents
block_key GrevLex exponents = reverse (partial_sums 0 exponents)

unfoldable pub key : BlockOrder → List ℕ → List ℕ
key order m = block_key order.kind (take order.head m) ++ block_key order.kind (drop order.head m)

unfoldable pub compared : BlockOrder → List ℕ → List ℕ → Ordering
compared order a b = slice_cmp nat_cmp (key order a) (key order b)
