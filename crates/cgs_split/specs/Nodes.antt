-- The children of a branch, each with its conditions (after Kapur, Sun, Wang 2010).
use Rattle.std.specs.Prelude.{ℕ, ◌+◌, Bool, cond, List, [], ◌∷◌, ◌++◌}
use Rattle.cgs_poly.specs.Ring.{Ring}
use Rattle.cgs_poly.specs.Polynomial.{one, Term}
use Rattle.cgs_algebra.specs.Stability.{parametric_members, other_members}
use Rattle.cgs_entry.specs.Conditions.{with_member, with_members, is_in_region}
use Rattle.cgs_dickson.specs.Dickson.{coefficient_list}
use Rattle.cgs_split.specs.declared.kind.BranchKind.TheVariants.{Split, Main, Unit as UnitKind}
use Rattle.cgs_split.specs.Cases.{Case, case_like}

-- for each member of K a branch where those before it vanish and it does not
abbrev pub unit_children : Ring → Case → List (List Term) → List (List Term) → List (List Term) → List Case
unit_children ring branch E N [] = []
unit_children ring branch E N (g ∷ K) = case_like branch UnitKind E (with_member ring N g) (one ring ∷ [])
    ∷ unit_children ring branch (with_member ring E g) N K

-- for each member of H a branch where it vanishes and none before it does
abbrev pub split_children : Ring → Case → List (List Term) → List (List Term) → List (List Term) → List (List Term) → List Case
split_children ring branch E N F [] = []
split_children ring branch E N F (h ∷ H) = case_like branch Split (with_member ring E h) N F ∷ split_children ring branch E (with_member ring N h) F H

-- the branch where the members of G in the parameters alone vanish and no leading coefficient of M does
abbrev pub main_child : Ring → Case → List (List Term) → List (List Term) → Case
main_child ring branch G M = case_like branch Main (parametric_members ring G) (with_members ring branch.nonzero (coefficient_list ring M)) M

-- the children of a branch that has the basis G, of which M is the Dickson basis of the members with variables
abbrev pub children_of : Ring → Case → List (List Term) → List (List Term) → List Case
children_of ring branch G M =
    unit_children ring branch branch.zero branch.nonzero (parametric_members ring G)
    ++ main_child ring branch G M
    ∷ split_children ring branch (parametric_members ring G) branch.nonzero (other_members ring G) (coefficient_list ring M)

-- the point is in the branch's region
abbrev pub is_point_of : Ring → List ℕ → Case → Bool
is_point_of ring a branch = is_in_region ring branch.zero branch.nonzero a

-- of how many branches it is
abbrev pub branches_at : Ring → List ℕ → List Case → ℕ
branches_at ring a [] = 0
branches_at ring a (b ∷ bs) = cond (is_point_of ring a b) 1 0 + branches_at ring a bs
