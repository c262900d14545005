-- What makes the comparison a well-ordering of the monomials with head plus tail places.
use Rattle.std.specs.Prelude.{ℕ, ◌≡◌, ◌+◌, ◌↔◌, List, length}
use Rattle.std.specs.Ordering.{ordering_reverse}
use Rattle.std.specs.declared.cmp.Ordering.TheVariants.{Less, Equal}
use Rattle.cgs_order.specs.declared.block.BlockOrder.{BlockOrder}
use Rattle.cgs_order.specs.TermOrder.{compared}

-- a second monomial compares with a first as the reverse of the first with the second
abbrev pub ComparedIsReversed : Type 0
ComparedIsReversed = (order : BlockOrder) (a b : List ℕ) → compared order b a ≡ ordering_reverse (compared order a b)

-- smaller than a smaller one is smaller
abbrev pub ComparedIsTransitive : Type 0
ComparedIsTransitive = (order : BlockOrder) (a b c : List ℕ) → compared order a b ≡ Less → compared order b c ≡ Less → compared order a c ≡ Less

-- of the monomials with as many places each equals itself alone
abbrev pub EqualIsSame : Type 0
EqualIsSame = (order : BlockOrder) (a b : List ℕ) → length a ≡ length b → (compared order a b ≡ Equal) ↔ (a ≡ b)

-- the monomials that finitely many steps of "if it holds of all smaller ones, it holds of this one" reach
pub data IsReached (order : BlockOrder) : List ℕ → Type 0 where
  above : (a : List ℕ) → ((b : List ℕ) → length b ≡ order.head + order.tail → compared order b a ≡ Less → IsReached order b) → IsReached order a

-- each monomial is reached: what holds of one if it holds of all smaller ones, holds of all
abbrev pub ComparedIsWellFounded : Type 0
ComparedIsWellFounded = (order : BlockOrder) (a : List ℕ) → length a ≡ order.head + order.tail → IsReached order a
