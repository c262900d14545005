-- Where an entry is tested, the emptiness run of its branch ended without a contradiction.
use Rattle.std.proofs.Common.{ℕ, ◌≡◌, Bool, true, false, cond, IsTrue, None, List, ◌++◌, refl, sym, subst}
use Rattle.std.specs.Prelude.{IfSome}
use Rattle.cgs_poly.specs.Ring.{Ring}
use Rattle.cgs_poly.specs.Polynomial.{Term}
use Rattle.cgs_divide.specs.Ending.{Ending, ended, out_of_budget, out_of_degree}
use Rattle.cgs_basis.specs.BasisRun.{basis_run}
use Rattle.cgs_entry.specs.declared.entry.Cause.{Cause}
use Rattle.cgs_entry.specs.declared.entry.Cause.TheVariants.{Budget, Degree, Depth}
use Rattle.cgs_entry.specs.declared.entry.EntryKind.TheVariants.{Solved, Refused}
use Rattle.cgs_dickson.specs.Dickson.{minimal_dickson}
use Rattle.cgs_algebra.specs.Stability.{other_members}
use Rattle.cgs_radical.specs.EmptinessRun.{is_one_alone, emptiness_run}
use Rattle.cgs_radical.specs.Laws.{Contradict}
use Rattle.cgs_radical.proofs.EmptinessLemmas.{empty_is_contradiction}
use Rattle.cgs_radical.proofs.TestLemmas.{conditions_parametric}
use Rattle.cgs_split.specs.declared.kind.BranchKind.{BranchKind}
use Rattle.cgs_split.specs.declared.kind.BranchKind.TheVariants.{Split, Main}
use Rattle.cgs_split.specs.declared.kind.BranchKind.TheVariants.{Unit as UnitKind}
use Rattle.cgs_split.specs.Cases.{Case, IsPrepared}
use Rattle.cgs_split.specs.Laws.{IsConsistentIfTested, TestedAreConsistent}
use Rattle.cgs_split.specs.Nodes.{children_of}
use Rattle.cgs_split.specs.NodeRun.{Node, settled, by_kind, is_too_deep, after_basis, without_test, after_emptiness, node_of, height_of}
use Rattle.cgs_split.specs.Trees.{root_case}
use Rattle.cgs_split.proofs.OfRingLemmas.{IsCase, node_is_over, root_is_case, tree_each}

module _ (branch : Case) (path : List ℕ) (h : IsPrepared branch.ring branch.zero branch.nonzero branch.polys) where
  abbrev Is : Node → Type 0
  Is node = IfSome node.0 (IsConsistentIfTested branch.ring)

  never : IsTrue false → ⊥
  never t = cc

  abbrev NoContradiction : Type 0
  NoContradiction = ¬ (Contradict branch.ring branch.zero branch.nonzero)

  by_kind_is : (kind : BranchKind) (x y : Node) → Is x → Is y → Is (by_kind kind x y)
  by_kind_is Split x y hx hy = hx
  by_kind_is UnitKind x y hx hy = hy
  by_kind_is Main x y hx hy = hy

  basis_is : NoContradiction → (run : Ending (List (List Term))) → Is (after_basis branch path run)
  basis_is none (ended G left) = by_one (is_one_alone branch.ring G)
    where
      by_one : (b : Bool) → Is (cond b (settled branch path (Solved G true))
          (None, children_of branch.ring branch G (minimal_dickson branch.ring (other_members branch.ring G))))
      by_one true = λ t. none
      by_one false = tt
  basis_is none (out_of_budget left) = tt
  basis_is none (out_of_degree left) = tt

  untested_is : (cause : Cause) → Is (without_test branch path cause)
  untested_is cause = by_kind_is branch.kind (settled branch path (Refused cause)) (settled branch path (Solved branch.polys false)) tt (λ t. absurd (never t))

  emptiness_is : (run : Ending Bool) → emptiness_run branch.ring branch.zero branch.nonzero branch.limits.budget ≡ run → Is (after_emptiness branch path run)
  emptiness_is (ended true units) e = tt
  emptiness_is (ended false units) e =
      let decided = empty_is_contradiction branch.ring branch.zero branch.nonzero branch.limits.budget units false h.valid
      (conditions_parametric branch.ring branch.zero h.zero) (conditions_parametric branch.ring branch.nonzero h.nonzero) e in
      let none : NoContradiction = λ c. never (decided.1 c) in
      let run : Ending (List (List Term)) = basis_run branch.ring (branch.polys ++ branch.zero) units in
      by_kind_is branch.kind (after_basis branch path run) (settled branch path (Solved branch.polys true)) (basis_is none run) (λ t. none)
  emptiness_is (out_of_budget units) e = untested_is Budget
  emptiness_is (out_of_degree units) e = untested_is Degree

  node_is : Is (node_of branch path)
  unfolding node_of
  node_is = by_depth (is_too_deep branch path)
    where
      run : Ending Bool
      run = emptiness_run branch.ring branch.zero branch.nonzero branch.limits.budget

      by_depth : (b : Bool) → Is (cond b (settled branch path (Refused Depth)) (after_emptiness branch path run))
      by_depth true = tt
      by_depth false = emptiness_is run refl

node_is_consistent : (ring : Ring) (branch : Case) (path : List ℕ) → IsCase ring branch → IfSome (node_of branch path).0 (IsConsistentIfTested ring)
node_is_consistent ring branch path h =
    let prepared = subst (λ ring. IsPrepared ring branch.zero branch.nonzero branch.polys) (sym h.of) h.prepared in
    subst (λ ring. IfSome (node_of branch path).0 (IsConsistentIfTested ring)) h.of (node_is branch path prepared)

pub tested_are_consistent : TestedAreConsistent
tested_are_consistent ring limits E N F r e n f =
    tree_each node_of (IsCase ring) (IsConsistentIfTested ring) (λ branch path h. (node_is_consistent ring branch path h, (node_is_over ring branch path h).1))
    height_of (root_case ring limits E N F) (root_is_case ring limits E N F r e n f)
