-- Conditions on the parameters: polynomials that are 0 and polynomials that are not. The points that meet them are their region.
use Rattle.std.specs.Prelude.{ℕ, ◌==◌, ◌&&◌, not, cond, Bool, List, [], ◌∷◌, ◌++◌}
use Rattle.std.specs.List.{list_all}
use Rattle.cgs_poly.specs.Ring.{Ring}
use Rattle.cgs_poly.specs.Polynomial.{Term}
use Rattle.cgs_poly.specs.Monic.{monic_of}
use Rattle.cgs_poly.specs.Same.{is_among}
use Rattle.cgs_poly.specs.Parameters.{value_at}
use Rattle.cgs_algebra.specs.Specialisation.{AllVanish, NoneVanishes}

-- whether each polynomial of a list is 0 at the point, and whether none is
abbrev pub all_vanish : Ring → List ℕ → List (List Term) → Bool
all_vanish ring point L = list_all (λ f. value_at ring point f == 0) L

abbrev pub none_vanishes : Ring → List ℕ → List (List Term) → Bool
none_vanishes ring point L = list_all (λ f. not (value_at ring point f == 0)) L

-- each polynomial of the first list is 0 at the point, and none of the second
pub record IsInRegion (ring : Ring) (zero nonzero : List (List Term)) (point : List ℕ) : Type 0 where
  pub vanish : AllVanish ring point zero
  pub stand : NoneVanishes ring point nonzero

-- the test of it
abbrev pub is_in_region : Ring → List (List Term) → List (List Term) → List ℕ → Bool
is_in_region ring zero nonzero point = all_vanish ring point zero && none_vanishes ring point nonzero

-- f made monic and put at the end of the list, unless it stands there
abbrev pub with_member : Ring → List (List Term) → List Term → List (List Term)
with_member ring L f = cond (is_among (monic_of ring f) L) L (L ++ monic_of ring f ∷ [])

-- each of the second list added in order
abbrev pub with_members : Ring → List (List Term) → List (List Term) → List (List Term)
with_members ring L [] = L
with_members ring L (f ∷ F) = with_members ring (with_member ring L f) F
