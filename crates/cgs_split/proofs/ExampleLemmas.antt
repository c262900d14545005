-- Children that are none of a sound node, each at one point.
use Rattle.std.proofs.Common.{ℕ, ◌≡◌, inl, inr, [], ◌∷◌, refl, arith}
use Rattle.cgs_order.specs.TermOrder.{key, compared}
use Rattle.cgs_point.specs.Points.{IsPoint}
use Rattle.cgs_entry.specs.Entries.{IsBasisAt}
use Rattle.cgs_entry.specs.Examples.{seven, only_a}
use Rattle.cgs_split.specs.declared.kind.BranchKind.TheVariants.{Main}
use Rattle.cgs_split.specs.Cases.{case_like}
use Rattle.cgs_split.specs.Soundness.{IsGood}
use Rattle.cgs_split.specs.Examples.{plane, squares, OverlapIsRefused, OldZerosAreRefused, MissingCoefficientIsRefused, NotMinimalIsRefused}

origin : IsPoint plane (0 ∷ 0 ∷ [])
origin = record { places = refl; below = (omega arith, (omega arith, tt)) }

zero_is_point : IsPoint seven (0 ∷ [])
zero_is_point = record { places = refl; below = (omega arith, tt) }

one_is_point : IsPoint seven (1 ∷ [])
one_is_point = record { places = refl; below = (omega arith, tt) }

-- where a and b are 0 there are two children
pub overlap_refused : OverlapIsRefused
unfolding key compared
overlap_refused h = let two_is_one : ◌≡◌ {A = ℕ} 2 1 = h.once (0 ∷ 0 ∷ []) origin in omega arith

-- where a is 1 there are two children
pub old_zeros_refused : OldZerosAreRefused
unfolding key compared
old_zeros_refused h = let two_is_one : ◌≡◌ {A = ℕ} 2 1 = h.once (1 ∷ []) one_is_point in omega arith

-- where a is 0 there are two children
pub missing_coefficient_refused : MissingCoefficientIsRefused
unfolding key compared
missing_coefficient_refused h = let two_is_one : ◌≡◌ {A = ℕ} 2 1 = h.once (0 ∷ []) zero_is_point in omega arith

-- where a is 1 the basis would become x and x^2
pub not_minimal_refused : NotMinimalIsRefused
unfolding key compared
not_minimal_refused h = by_good h.below.0.good
  where
    by_good : IsGood seven (case_like squares Main [] (only_a ∷ []) squares.polys) → ⊥
    by_good (inl e) = cc
    by_good (inr serves) =
        let there : IsBasisAt seven (1 ∷ []) squares.polys squares.polys = serves (1 ∷ []) (record { vanish = tt; stand = (λ e. cc, tt) }) in
        (there.minimal.apart 0 1 [] (omega arith) (omega arith)).0 refl
