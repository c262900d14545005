-- The node of a branch at a path: at most one entry, and the children (after Kapur, Sun, Wang 2010).
use Rattle.std.specs.Prelude.{ℕ, ◌+◌, ◌-◌, Bool, true, false, cond, nat_lt, max, Option, Some, None, List, [], ◌++◌, length}
use Rattle.cgs_algebra.specs.Stability.{other_members}
use Rattle.cgs_divide.specs.Ending.{Ending, ended, out_of_budget, out_of_degree}
use Rattle.cgs_basis.specs.BasisRun.{basis_run}
use Rattle.cgs_entry.specs.declared.entry.Cause.{Cause}
use Rattle.cgs_entry.specs.declared.entry.Cause.TheVariants.{Budget, Degree, Depth}
use Rattle.cgs_poly.specs.Polynomial.{Term}
use Rattle.cgs_entry.specs.declared.entry.Entry.{Entry}
use Rattle.cgs_entry.specs.declared.entry.EntryKind.{EntryKind}
use Rattle.cgs_entry.specs.declared.entry.EntryKind.TheVariants.{Solved, Refused}
use Rattle.cgs_dickson.specs.Dickson.{minimal_dickson}
use Rattle.cgs_radical.specs.EmptinessRun.{is_one_alone, emptiness_run}
use Rattle.cgs_split.specs.declared.kind.BranchKind.{BranchKind}
use Rattle.cgs_split.specs.declared.kind.BranchKind.TheVariants.{Split, Main}
use Rattle.cgs_split.specs.declared.kind.BranchKind.TheVariants.{Unit as UnitKind}
use Rattle.cgs_split.specs.Cases.{Case}
use Rattle.cgs_split.specs.Nodes.{children_of}
use Rattle.cgs_split.specs.Trees.{entry_of}

abbrev pub Node : Type 0
Node = Option Entry × List Case

-- an entry of this kind and no child
abbrev pub settled : Case → List ℕ → EntryKind → Node
settled branch path kind = (Some (entry_of branch path kind), [])

-- what one gives for a branch that is to be split, and what another for one with a basis
abbrev pub by_kind : {A : Type 0} → BranchKind → A → A → A
by_kind Split a b = a
by_kind UnitKind a b = b
by_kind Main a b = b

-- a branch that is to be split and has too long a path
abbrev pub is_too_deep : Case → List ℕ → Bool
is_too_deep branch path = by_kind branch.kind (nat_lt branch.limits.depth (length path)) false

-- where the basis is that of 1 alone it is the branch's; else it gives the children
abbrev pub with_basis : Case → List ℕ → List (List Term) → Node
with_basis branch path G =
    cond (is_one_alone branch.ring G) (settled branch path (Solved G true))
    (None, children_of branch.ring branch G (minimal_dickson branch.ring (other_members branch.ring G)))

abbrev pub after_basis : Case → List ℕ → Ending (List (List Term)) → Node
after_basis branch path (ended G units) = with_basis branch path G
after_basis branch path (out_of_budget units) = settled branch path (Refused Budget)
after_basis branch path (out_of_degree units) = settled branch path (Refused Degree)

-- where it is not known whether the region is empty
abbrev pub without_test : Case → List ℕ → Cause → Node
without_test branch path cause = by_kind branch.kind (settled branch path (Refused cause)) (settled branch path (Solved branch.polys false))

-- where the region is not empty, a branch with a basis has it, and one that is to be split gets that of its polynomials and vanishing
-- conditions in the units that are left
abbrev pub with_points : Case → List ℕ → ℕ → Node
with_points branch path units = by_kind branch.kind (after_basis branch path (basis_run branch.ring (branch.polys ++ branch.zero) units))
    (settled branch path (Solved branch.polys true))

-- where the region is empty there is nothing
abbrev pub after_emptiness : Case → List ℕ → Ending Bool → Node
after_emptiness branch path (ended true units) = (None, [])
after_emptiness branch path (ended false units) = with_points branch path units
after_emptiness branch path (out_of_budget units) = without_test branch path Budget
after_emptiness branch path (out_of_degree units) = without_test branch path Degree

unfoldable pub node_of : Case → List ℕ → Node
node_of branch path =
    cond (is_too_deep branch path) (settled branch path (Refused Depth))
    (after_emptiness branch path (emptiness_run branch.ring branch.zero branch.nonzero branch.limits.budget))

-- a number that falls from a branch to its children
unfoldable pub height_of : Case → List ℕ → ℕ
height_of branch path = by_kind branch.kind (max 1 (branch.limits.depth + 2 - length path)) 0
