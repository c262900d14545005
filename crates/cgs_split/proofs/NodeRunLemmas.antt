-- The node of a branch is one: an entry with its conditions or children that divide its region.
use Rattle.std.proofs.Common.{ℕ, ◌≡◌, Bool, true, false, cond, not, nat_lt, None, List, [], ◌∷◌, ◌++◌, length, filter, refl, sym, ap, subst}
use Rattle.std.specs.List.{AllByRecursion}
use Rattle.std.proofs.lemmas.Slice.Eq.{slice_eq-Decides}
use Rattle.cgs_list.proofs.ListLemmas.{all_append, all_weaker}
use Rattle.cgs_poly.specs.Ring.{Ring}
use Rattle.cgs_poly.specs.Polynomial.{one, Term, IsRing, IsCanonical}
use Rattle.cgs_poly.proofs.SameLemmas.{same_poly_decides}
use Rattle.cgs_algebra.specs.Groebner.{IsReduced, IsAscending, IsGroebnerBasis}
use Rattle.cgs_algebra.specs.Specialisation.{IsParametric}
use Rattle.cgs_poly.specs.Parameters.{has_no_variables}
use Rattle.cgs_algebra.specs.Stability.{other_members}
use Rattle.cgs_algebra.proofs.DicksonLemmas.{other_each}
use Rattle.cgs_divide.specs.Ending.{Ending, ended, out_of_budget, out_of_degree}
use Rattle.cgs_basis.specs.BasisRun.{basis_run}
use Rattle.cgs_basis.proofs.BasisLemmas.{basis_reduced}
use Rattle.cgs_entry.specs.declared.entry.Cause.TheVariants.{Budget, Degree, Depth}
use Rattle.cgs_entry.specs.declared.entry.EntryKind.TheVariants.{Solved, Refused}
use Rattle.cgs_dickson.specs.Dickson.{minimal_dickson}
use Rattle.cgs_dickson.specs.Laws.{AreNonzero}
use Rattle.cgs_dickson.proofs.DicksonLemmas.{filter_ascends, minimal_dickson_is_basis}
use Rattle.cgs_radical.specs.EmptinessRun.{is_one_alone, emptiness_run}
use Rattle.cgs_radical.proofs.PointLemmas.{empty_has_no_point}
use Rattle.cgs_split.specs.declared.kind.BranchKind.{BranchKind}
use Rattle.cgs_split.specs.declared.kind.BranchKind.TheVariants.{Split, Main, Unit as UnitKind}
use Rattle.cgs_split.specs.Cases.{Case}
use Rattle.cgs_split.specs.Nodes.{is_point_of, children_of}
use Rattle.cgs_point.specs.Points.{IsPoint}
use Rattle.cgs_split.specs.Soundness.{IsBranch, IsPointOf, HasBasis}
use Rattle.cgs_split.specs.Trees.{entry_of, IsNode, empty, refused, solved, whole, divided, HasNoPoint, own_entries}
use Rattle.cgs_split.specs.NodeRun.{Node, settled, by_kind, is_too_deep, after_basis, after_emptiness, node_of}
use Rattle.cgs_split.proofs.ConditionLemmas.{region_told}
use Rattle.cgs_algebra.proofs.PlaceLemmas.{all_both}

-- kinds

split_from : (k : BranchKind) (b : Bool) → by_kind k b false ≡ true → k ≡ Split
split_from Split b e = refl
split_from UnitKind b e = absurd (cc)
split_from Main b e = absurd (cc)

pub by_kinds : (P : Node → Type 0) (k : BranchKind) (x y : Node) → (k ≡ Split → P x) → (¬ (k ≡ Split) → P y) → P (by_kind k x y)
by_kinds P Split x y hx hy = hx refl
by_kinds P UnitKind x y hx hy = hy (λ e. cc)
by_kinds P Main x y hx hy = hy (λ e. cc)

-- the members with variables ascend where all do

pub other_filter : (ring : Ring) (G : List (List Term)) → other_members ring G ≡ filter (λ g. not (has_no_variables ring g)) G
other_filter ring [] = refl
other_filter ring (g ∷ G) = step (has_no_variables ring g) (other_filter ring G)
  where
    step : (b : Bool) → other_members ring G ≡ filter (λ g. not (has_no_variables ring g)) G
        → cond b (other_members ring G) (g ∷ other_members ring G)
        ≡ cond (not b) (g ∷ filter (λ g. not (has_no_variables ring g)) G) (filter (λ g. not (has_no_variables ring g)) G)
    step true ih = ih
    step false ih = ap (λ L. g ∷ L) ih

others_ascend : (ring : Ring) (G : List (List Term)) → IsAscending ring G → IsAscending ring (other_members ring G)
others_ascend ring G h = subst (λ L. IsAscending ring L) (sym (other_filter ring G)) (filter_ascends ring (λ g. not (has_no_variables ring g)) G h)

-- the reduced basis and its minimal Dickson basis
pub reduced_has_basis : (ring : Ring) (branch : Case) (G : List (List Term)) → IsReduced ring G (branch.polys ++ branch.zero) → IsAscending ring G
    → HasBasis ring branch G (minimal_dickson ring (other_members ring G))
reduced_has_basis ring branch G h ascending =
    let others : AreNonzero ring (other_members ring G) =
    other_each ring (λ g. IsCanonical ring g × ¬ (g ≡ [])) G
    (all_both (IsCanonical ring) (λ g. ¬ (g ≡ [])) G h.monic.canonical h.minimal.groebner.not_zero) in
    record {
      monic = h.monic;
      groebner = h.minimal.groebner;
      dickson = (minimal_dickson_is_basis ring (other_members ring G) others (others_ascend ring G ascending)).0;
    }

-- a region without points
pub never_met : (ring : Ring) (branch : Case) → ((a : List ℕ) → IsPoint ring a → ¬ (IsPointOf ring a branch)) → HasNoPoint ring branch
never_met ring branch never a point = by_test (is_point_of ring a branch) refl
  where
    by_test : (b : Bool) → is_point_of ring a branch ≡ b → b ≡ false
    by_test false t = refl
    by_test true t = absurd (never a point (region_told ring a branch.zero branch.nonzero t))

module _ (branch : Case) (path : List ℕ) (r : IsRing branch.ring) (ok : IsBranch branch.ring branch) where
  abbrev IsOne : Node → Type 0
  IsOne node = IsNode branch.ring branch path (own_entries node.0) node.1

  pub generators_ok : AllByRecursion (IsCanonical branch.ring) (branch.polys ++ branch.zero)
  generators_ok = all_append (IsCanonical branch.ring) branch.polys branch.zero ok.polys
      (all_weaker (IsParametric branch.ring) (IsCanonical branch.ring) branch.zero ok.zero (λ f p. p.canonical))

  -- a run that found the region empty
  no_point : (units : ℕ) → emptiness_run branch.ring branch.zero branch.nonzero branch.limits.budget ≡ ended true units → HasNoPoint branch.ring branch
  no_point units e =
      never_met branch.ring branch
      (λ a point. empty_has_no_point branch.ring branch.zero branch.nonzero branch.limits.budget units a r ok.zero ok.nonzero e point)

  -- a basis run that ended
  based : branch.kind ≡ Split → (units left : ℕ) (G : List (List Term)) → basis_run branch.ring (branch.polys ++ branch.zero) units ≡ ended G left
      → IsOne (after_basis branch path (ended G left))
  based split units left G e = by_one (is_one_alone branch.ring G) refl
    where
      reduced : IsReduced branch.ring G (branch.polys ++ branch.zero) × IsAscending branch.ring G
      reduced = basis_reduced branch.ring (branch.polys ++ branch.zero) G units left r
          generators_ok e

      by_one : (b : Bool) → is_one_alone branch.ring G ≡ b
          → IsOne (cond b (settled branch path (Solved G true))
          (None, children_of branch.ring branch G (minimal_dickson branch.ring (other_members branch.ring G))))
      by_one true t =
          let e : G ≡ one branch.ring ∷ [] = (slice_eq-Decides same_poly_decides G (one branch.ring ∷ []) (is_one_alone branch.ring G) refl).0 t in
          subst (λ H. IsNode branch.ring branch path (entry_of branch path (Solved H true) ∷ []) []) (sym e)
          (whole split (subst (λ H. IsGroebnerBasis branch.ring H (branch.polys ++ branch.zero)) e reduced.0.minimal.groebner) true)
      by_one false t =
          divided split G (minimal_dickson branch.ring (other_members branch.ring G)) (reduced_has_basis branch.ring branch G reduced.0 reduced.1)

  split_node : branch.kind ≡ Split → (units : ℕ) (run : Ending (List (List Term))) → basis_run branch.ring (branch.polys ++ branch.zero) units ≡ run
      → IsOne (after_basis branch path run)
  split_node split units (ended G left) e = based split units left G e
  split_node split units (out_of_budget left) e = refused split Budget
  split_node split units (out_of_degree left) e = refused split Degree

  run_node : (run : Ending Bool) → emptiness_run branch.ring branch.zero branch.nonzero branch.limits.budget ≡ run → IsOne (after_emptiness branch path run)
  run_node (ended true units) e = empty (no_point units e)
  run_node (ended false units) e =
      by_kinds IsOne branch.kind (after_basis branch path (basis_run branch.ring (branch.polys ++ branch.zero) units))
      (settled branch path (Solved branch.polys true))
      (λ s. split_node s units (basis_run branch.ring (branch.polys ++ branch.zero) units) refl) (λ n. solved n true)
  run_node (out_of_budget units) e = by_kinds IsOne branch.kind (settled branch path (Refused Budget)) (settled branch path (Solved branch.polys false))
      (λ s. refused s Budget) (λ n. solved n false)
  run_node (out_of_degree units) e = by_kinds IsOne branch.kind (settled branch path (Refused Degree)) (settled branch path (Solved branch.polys false))
      (λ s. refused s Degree) (λ n. solved n false)

  node_cases : IsOne (node_of branch path)
  unfolding node_of
  node_cases = by_depth (is_too_deep branch path) refl
    where
      by_depth : (b : Bool) → is_too_deep branch path ≡ b
          → IsOne (cond b (settled branch path (Refused Depth))
          (after_emptiness branch path (emptiness_run branch.ring branch.zero branch.nonzero branch.limits.budget)))
      by_depth true t = refused (split_from branch.kind (nat_lt branch.limits.depth (length path)) t) Depth
      by_depth false t = run_node (emptiness_run branch.ring branch.zero branch.nonzero branch.limits.budget) refl

-- the node of a branch is one of the five forms
pub node_is_node : (ring : Ring) (branch : Case) (path : List ℕ) → IsRing ring → IsBranch ring branch
    → IsNode ring branch path (own_entries (node_of branch path).0) (node_of branch path).1
node_is_node ring branch path r ok =
    subst (λ ring. IsNode ring branch path (own_entries (node_of branch path).0) (node_of branch path).1) ok.of
    (node_cases branch path (subst (λ ring. IsRing ring) (sym ok.of) r) (subst (λ ring. IsBranch ring branch) (sym ok.of) ok))
