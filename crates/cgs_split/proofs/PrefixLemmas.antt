-- Adding conditions to a list leaves it at the front.
use Rattle.std.proofs.Common.{ℕ, ◌≡◌, ◌+◌, Bool, true, false, cond, Some, List, [], ◌∷◌, ◌++◌, length, take, drop, sym, ap, ◌∙◌, append_assoc, append-nil}
use Rattle.std.specs.Prelude.{slice_get}
use Rattle.std.proofs.lemmas.List.{take_at}
use Rattle.cgs_list.proofs.ListLemmas.{drop_at}
use Rattle.cgs_poly.specs.Ring.{Ring}
use Rattle.cgs_poly.specs.Polynomial.{Term}
use Rattle.cgs_poly.specs.Monic.{monic_of}
use Rattle.cgs_poly.specs.Same.{is_among}
use Rattle.cgs_entry.specs.Conditions.{with_member, with_members}

module _ (ring : Ring) where
  rest_of : (L F : List (List Term)) → (rest : List (List Term)) × (with_members ring L F ≡ L ++ rest)
  rest_of L [] = ([], sym (append-nil L))
  rest_of L (f ∷ F) = step (is_among (monic_of ring f) L) (rest_of (with_member ring L f) F)
    where
      step : (b : Bool)
          → (rest : List (List Term)) × (with_members ring (with_member ring L f) F ≡ cond b L (L ++ monic_of ring f ∷ []) ++ rest)
          → (rest : List (List Term)) × (with_members ring (with_member ring L f) F ≡ L ++ rest)
      step true known = known
      step false known = (monic_of ring f ∷ known.0, known.1 ∙ append_assoc L (monic_of ring f ∷ []) known.0)

  -- the first of the whole list, as many as were there
  pub first_were_there : (L F W : List (List Term)) (n : ℕ) → with_members ring L F ≡ W → n ≡ length L → take n W ≡ L
  first_were_there L F W n whole count = let rest = rest_of L F in
      ap (take n) (sym whole ∙ rest.1) ∙ take_at L rest.0 n (sym count)

  -- one condition more
  pub whole_after : (L K W : List (List Term)) (i : ℕ) (f : List Term) → slice_get K i ≡ Some f → with_members ring L (drop i K) ≡ W
      → with_members ring (with_member ring L f) (drop (i + 1) K) ≡ W
  whole_after L K W i f at whole = sym (ap (with_members ring L) (drop_at K i f at)) ∙ whole
