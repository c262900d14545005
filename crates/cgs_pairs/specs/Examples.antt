-- Pairs in the order in which they are taken, with the order lex in x and y, and pairs that are passed.
use Rattle.std.specs.Prelude.{ℕ, ◌≡◌, true, false, List, [], ◌∷◌, refl}
use Rattle.cgs_order.specs.TermOrder.{key, compared}
use Rattle.cgs_poly.specs.Polynomial.{Term, order_of, term}
use Rattle.cgs_algebra.specs.Examples.{seven}
use Rattle.cgs_pairs.specs.declared.pair.Pair.{Pair}
use Rattle.cgs_pairs.specs.PairOrder.{pair, with_pair}
use Rattle.cgs_pairs.specs.Passed.{is_passed}

-- pairs put into a queue, one after the other
abbrev pub with_all : List Pair → List Pair → List Pair
with_all [] pairs = pairs
with_all (q ∷ new) pairs = with_all new (with_pair (order_of seven) q pairs)

-- x*y^2 is below x^2, whatever the degrees and the places are
pub lcms_decide : with_all (pair (2 ∷ 0 ∷ []) 1 0 ∷ pair (1 ∷ 2 ∷ []) 3 2 ∷ []) [] ≡ pair (1 ∷ 2 ∷ []) 3 2 ∷ pair (2 ∷ 0 ∷ []) 1 0 ∷ []
unfolding key compared
lcms_decide = refl

-- the lcm of the pairs below
abbrev pub xy : List ℕ
xy = 1 ∷ 1 ∷ []

-- of pairs with one lcm that with the smaller larger place is taken first, and then that with the smaller smaller place
pub places_decide : with_all (pair xy 3 1 ∷ pair xy 3 0 ∷ pair xy 2 1 ∷ []) [] ≡ pair xy 2 1 ∷ pair xy 3 0 ∷ pair xy 3 1 ∷ []
unfolding key compared
places_decide = refl

-- x^2, x*y and x*y^2
abbrev pub members : List (List Term)
members = (term 1 (2 ∷ 0 ∷ []) ∷ []) ∷ (term 1 (1 ∷ 1 ∷ []) ∷ []) ∷ (term 1 (1 ∷ 2 ∷ []) ∷ []) ∷ []

-- of x^2 and x*y^2 x*y divides the lcm: the pair is passed once both pairs of x*y were taken
pub third_place : is_passed (pair (2 ∷ 2 ∷ []) 2 0) members ((1, 0) ∷ (2, 1) ∷ []) ≡ true
third_place = refl

pub third_place_too_early : is_passed (pair (2 ∷ 2 ∷ []) 2 0) members ((1, 0) ∷ []) ≡ false
third_place_too_early = refl

-- x^2 and y^2 have nothing in common
pub coprime_leads : is_passed (pair (2 ∷ 2 ∷ []) 1 0) ((term 1 (2 ∷ 0 ∷ []) ∷ []) ∷ (term 1 (0 ∷ 2 ∷ []) ∷ []) ∷ []) [] ≡ true
coprime_leads = refl
