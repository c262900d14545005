-- The node of a branch with limits is the one without, where no limit touches it.
use Rattle.std.proofs.Common.{ℕ, ◌≡◌, ◌↔◌, IsTrue, Bool, true, false, cond, None, List, [], ◌∷◌, ◌++◌, map, refl, sym, ap, subst}
use Rattle.std.specs.List.{AllByRecursion}
use Rattle.std.proofs.lemmas.List.{map-append}
use Rattle.std.proofs.lemmas.Slice.Eq.{slice_eq-Decides}
use Rattle.cgs_poly.specs.Ring.{Ring}
use Rattle.cgs_poly.specs.Polynomial.{one, Term, IsRing}
use Rattle.cgs_poly.proofs.SameLemmas.{same_poly_decides}
use Rattle.cgs_algebra.specs.Stability.{parametric_members, other_members}
use Rattle.cgs_divide.specs.Ending.{Ending, ended, out_of_budget, out_of_degree}
use Rattle.cgs_basis.specs.BasisRun.{basis_run}
use Rattle.cgs_basis.proofs.BasisLemmas.{basis_reduced}
use Rattle.cgs_entry.specs.declared.entry.Cause.{Cause}
use Rattle.cgs_entry.specs.declared.entry.Cause.TheVariants.{Budget, Degree, Depth}
use Rattle.cgs_entry.specs.declared.entry.Entry.{Entry}
use Rattle.cgs_entry.specs.declared.entry.EntryKind.TheVariants.{Solved, Refused}
use Rattle.cgs_entry.specs.Conditions.{with_member}
use Rattle.cgs_dickson.specs.Dickson.{minimal_dickson, coefficient_list}
use Rattle.cgs_radical.specs.EmptinessRun.{is_one_alone, emptiness_run}
use Rattle.cgs_radical.specs.Laws.{Contradict}
use Rattle.cgs_radical.proofs.EmptinessLemmas.{empty_is_contradiction}
use Rattle.cgs_split.specs.declared.kind.BranchKind.TheVariants.{Split, Unit as UnitKind}
use Rattle.cgs_split.specs.declared.kind.Limits.{Limits}
use Rattle.cgs_split.specs.Cases.{Case, case_of}
use Rattle.cgs_split.specs.Nodes.{unit_children, split_children, main_child, children_of}
use Rattle.cgs_split.specs.Soundness.{IsBranch}
use Rattle.cgs_split.specs.Trees.{own_entries}
use Rattle.cgs_split.specs.NodeRun.{Node, settled, is_too_deep, without_test, after_basis, after_emptiness, node_of}
use Rattle.cgs_split.proofs.NodeRunLemmas.{by_kinds, generators_ok}
use Rattle.cgs_system.specs.ExactList.{IsReducedBasisOf, IsExactNode, empty, solved, whole, divided, IsTested}

-- the node of a branch that no limit touches

module _ (branch : Case) (path : List ℕ) (r : IsRing branch.ring) (ok : IsBranch branch.ring branch) where
  abbrev IsOne : Node → Type 0
  IsOne node = AllByRecursion IsTested (own_entries node.0) → IsExactNode branch.ring branch path (own_entries node.0) node.1

  -- a basis run that ended
  based : ¬ (Contradict branch.ring branch.zero branch.nonzero) → branch.kind ≡ Split → (run : Ending (List (List Term))) (units : ℕ)
      → basis_run branch.ring (branch.polys ++ branch.zero) units ≡ run → IsOne (after_basis branch path run)
  based c k (out_of_budget left) units e = λ t. absurd t.0
  based c k (out_of_degree left) units e = λ t. absurd t.0
  based c k (ended G left) units e = by_one (is_one_alone branch.ring G) refl
    where
      found : IsReducedBasisOf branch.ring branch G
      found = let h = basis_reduced branch.ring (branch.polys ++ branch.zero) G units left r (generators_ok branch path r ok) e in
          record { reduced = h.0; ascending = h.1 }

      decides : IsTrue (is_one_alone branch.ring G) ↔ (G ≡ one branch.ring ∷ [])
      decides = slice_eq-Decides same_poly_decides G (one branch.ring ∷ []) (is_one_alone branch.ring G) refl

      by_one : (b : Bool) → is_one_alone branch.ring G ≡ b
          → IsOne (cond b (settled branch path (Solved G true))
          (None, children_of branch.ring branch G (minimal_dickson branch.ring (other_members branch.ring G))))
      by_one true s = λ t.
          let one_found : G ≡ one branch.ring ∷ [] = decides.0 s in
          subst (λ H. IsExactNode branch.ring branch path (own_entries (settled branch path (Solved H true)).0) []) (sym one_found)
          (whole c k (subst (λ H. IsReducedBasisOf branch.ring branch H) one_found found))
      by_one false s = λ t. divided c k G found (λ o. cc (s, decides.1 o))

  untested : (cause : Cause) → IsOne (without_test branch path cause)
  untested cause = by_kinds IsOne branch.kind (settled branch path (Refused cause)) (settled branch path (Solved branch.polys false))
      (λ k t. absurd t.0) (λ k t. cc (t.0))

  tested : (run : Ending Bool) → emptiness_run branch.ring branch.zero branch.nonzero branch.limits.budget ≡ run → IsOne (after_emptiness branch path run)
  tested (ended true units) e = λ t. empty
      ((empty_is_contradiction branch.ring branch.zero branch.nonzero branch.limits.budget units true r ok.zero ok.nonzero e).0 refl)
  tested (ended false units) e = by_kinds IsOne branch.kind (after_basis branch path (basis_run branch.ring (branch.polys ++ branch.zero) units))
      (settled branch path (Solved branch.polys true)) (λ k. based none k (basis_run branch.ring (branch.polys ++ branch.zero) units) units refl)
      (λ k t. solved none k)
    where
      none : ¬ (Contradict branch.ring branch.zero branch.nonzero)
      none c = cc ((empty_is_contradiction branch.ring branch.zero branch.nonzero branch.limits.budget units false r ok.zero ok.nonzero e).1 c)
  tested (out_of_budget units) e = untested Budget
  tested (out_of_degree units) e = untested Degree

  node_cases : IsOne (node_of branch path)
  unfolding node_of
  node_cases = by_depth (is_too_deep branch path)
    where
      by_depth : (b : Bool) → IsOne (cond b (settled branch path (Refused Depth))
          (after_emptiness branch path (emptiness_run branch.ring branch.zero branch.nonzero branch.limits.budget)))
      by_depth true = λ t. absurd t.0
      by_depth false = tested (emptiness_run branch.ring branch.zero branch.nonzero branch.limits.budget) refl

pub node_exact : (ring : Ring) (branch : Case) (path : List ℕ) → IsRing ring → IsBranch ring branch
    → AllByRecursion IsTested (own_entries (node_of branch path).0) → IsExactNode ring branch path (own_entries (node_of branch path).0) (node_of branch path).1
node_exact ring branch path r ok t =
    subst (λ ring. IsExactNode ring branch path (own_entries (node_of branch path).0) (node_of branch path).1) ok.of
    (node_cases branch path (subst (λ ring. IsRing ring) (sym ok.of) r) (subst (λ ring. IsBranch ring branch) (sym ok.of) ok) t)

-- a node does not look at the limits of its branch

-- a branch with other limits
abbrev pub limited : Limits → Case → Case
limited limits branch = case_of branch.ring limits branch.kind branch.zero branch.nonzero branch.polys

module _ (ring : Ring) (limits : Limits) where
  units_limited : (branch : Case) (E N K : List (List Term))
      → unit_children ring (limited limits branch) E N K ≡ map (limited limits) (unit_children ring branch E N K)
  units_limited branch E N [] = refl
  units_limited branch E N (g ∷ K) =
      ap (λ cs. case_of branch.ring limits UnitKind E (with_member ring N g) (one ring ∷ []) ∷ cs) (units_limited branch (with_member ring E g) N K)

  splits_limited : (branch : Case) (E N F H : List (List Term))
      → split_children ring (limited limits branch) E N F H ≡ map (limited limits) (split_children ring branch E N F H)
  splits_limited branch E N F [] = refl
  splits_limited branch E N F (h ∷ H) =
      ap (λ cs. case_of branch.ring limits Split (with_member ring E h) N F ∷ cs) (splits_limited branch E (with_member ring N h) F H)

  children_limited : (branch : Case) (G M : List (List Term))
      → children_of ring (limited limits branch) G M ≡ map (limited limits) (children_of ring branch G M)
  children_limited branch G M =
      let units = unit_children ring branch branch.zero branch.nonzero (parametric_members ring G) in
      let splits = split_children ring branch (parametric_members ring G) branch.nonzero (other_members ring G) (coefficient_list ring M) in
      cc (
        units_limited branch branch.zero branch.nonzero (parametric_members ring G),
        splits_limited branch (parametric_members ring G) branch.nonzero (other_members ring G) (coefficient_list ring M),
        map-append (limited limits) units (main_child ring branch G M ∷ splits),
      )

  pub exact_limited : (branch : Case) (path : List ℕ) (own : List Entry) (children : List Case) → IsExactNode ring branch path own children
      → IsExactNode ring (limited limits branch) path own (map (limited limits) children)
  exact_limited branch path own children (empty c) = empty c
  exact_limited branch path own children (solved c k) = solved c k
  exact_limited branch path own children (whole c k h) = whole c k (record { reduced = h.reduced; ascending = h.ascending })
  exact_limited branch path own children (divided c k G h n) =
      subst (λ cs. IsExactNode ring (limited limits branch) path [] cs) (children_limited branch G (minimal_dickson ring (other_members ring G)))
      (divided c k G (record { reduced = h.reduced; ascending = h.ascending }) n)
