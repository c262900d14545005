-- What holds of the entries of a valid problem's tree.
use Rattle.std.proofs.Common.{◌≡◌, List, Result, Ok, Err, IfOk, sym, subst}
use Rattle.std.specs.List.{AllByRecursion}
use Rattle.cgs_poly.specs.Polynomial.{IsPoly, IsCanonical}
use Rattle.cgs_entry.specs.Entries.{IsComprehensive, IsEntry}
use Rattle.cgs_entry.specs.declared.entry.Entry.{Entry}
use Rattle.cgs_problem.specs.declared.problem.Problem.{Problem}
use Rattle.cgs_problem.specs.Problems.{IsProblem}
use Rattle.cgs_radical.proofs.TestLemmas.{conditions_parametric}
use Rattle.cgs_split.specs.declared.kind.Limits.{Limits}
use Rattle.cgs_split.specs.NodeRun.{node_of, height_of}
use Rattle.cgs_split.specs.Laws.{entry_list, IsConsistentIfTested}
use Rattle.cgs_split.specs.Heights.{heights_fall}
use Rattle.cgs_list.proofs.ListLemmas.{all_weaker}
use Rattle.cgs_split.proofs.PreorderLemmas.{nodes_comprehensive}
use Rattle.cgs_split.proofs.NodeRunLemmas.{node_is_node}
use Rattle.cgs_split.proofs.OfRingLemmas.{entries_are_of_ring}
use Rattle.cgs_split.proofs.TestedLemmas.{tested_are_consistent}
use Rattle.cgs_system.specs.ExactList.{IsExactList, IsTested}
use Rattle.cgs_system.proofs.ExactTreeLemmas.{tested_exact}

-- what follows for a value that was found
pub found_map : {A E : Type 0} {P Q : A → Type 0} (r : Result A E) → ((x : A) → P x → Q x) → IfOk r P → IfOk r Q
found_map (Ok x) follows holds = follows x holds
found_map (Err e) follows holds = tt

module _ (problem : Problem) (limits : Limits) (entries : List Entry) (valid : IsProblem problem)
    (listed : entries ≡ entry_list problem.ring limits problem.zero problem.nonzero problem.polys) where
  pub listed_comprehensive : IsComprehensive problem.ring problem.zero problem.nonzero problem.polys entries
  listed_comprehensive =
      let ring = problem.ring in
      let zero = conditions_parametric ring problem.zero valid.zero in
      let nonzero = conditions_parametric ring problem.nonzero valid.nonzero in
      let polys = all_weaker (IsPoly ring) (IsCanonical ring) problem.polys valid.polys (λ f p. p.canonical) in
      let whole = nodes_comprehensive ring valid.ring node_of height_of heights_fall (λ branch path ok. node_is_node ring branch path valid.ring ok)
      limits problem.zero problem.nonzero problem.polys
      zero nonzero polys in
      subst (λ entries. IsComprehensive ring problem.zero problem.nonzero problem.polys entries) (sym listed) whole

  pub listed_of_ring : AllByRecursion (IsEntry problem.ring) entries
  listed_of_ring =
      subst (λ entries. AllByRecursion (IsEntry problem.ring) entries) (sym listed)
      (entries_are_of_ring problem.ring limits problem.zero problem.nonzero problem.polys valid.ring valid.zero valid.nonzero valid.polys)

  pub listed_consistent : AllByRecursion (IsConsistentIfTested problem.ring) entries
  listed_consistent =
      subst (λ entries. AllByRecursion (IsConsistentIfTested problem.ring) entries) (sym listed)
      (tested_are_consistent problem.ring limits problem.zero problem.nonzero problem.polys valid.ring valid.zero valid.nonzero valid.polys)

  pub listed_exact : AllByRecursion IsTested entries → IsExactList problem.ring problem.zero problem.nonzero problem.polys entries
  listed_exact tested =
      let ring = problem.ring in
      let polys = all_weaker (IsPoly ring) (IsCanonical ring) problem.polys valid.polys (λ f p. p.canonical) in
      let exact = tested_exact ring limits problem.zero problem.nonzero problem.polys valid.ring (conditions_parametric ring problem.zero valid.zero)
      (conditions_parametric ring problem.nonzero valid.nonzero) polys (subst (λ entries. AllByRecursion IsTested entries) listed tested) in
      subst (λ entries. IsExactList ring problem.zero problem.nonzero problem.polys entries) (sym listed) exact
