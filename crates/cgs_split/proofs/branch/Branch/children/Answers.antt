use Rattle.std.proofs.Common.{◌≡◌, [], sym, subst}
use Rattle.std.specs.List.{AllByRecursion}
use Rattle.cgs_poly.specs.Parameters.{IsCondition}
use Rattle.cgs_algebra.proofs.DicksonLemmas.{other_each}
use Rattle.cgs_split.specs.Cases.{Case}
use Rattle.cgs_split.proofs.ChildLemmas.{parametric_kept, others_kept}
use Rattle.cgs_split.proofs.branch.Branch.children.Goals as goal

pub minimal_dickson-requires-clause-polys : goal.minimal_dickson-requires-clause-polys
minimal_dickson-requires-clause-polys c =
    others_kept _ _ c.self.view_is c.self.invariant.0.valid c.args.basis.now c.requires.polys c.in_ok-other.other c.in_ok-other.ensures

pub minimal_dickson-requires-clause-nonzero : goal.minimal_dickson-requires-clause-nonzero
minimal_dickson-requires-clause-nonzero c =
    subst (λ L. AllByRecursion (λ g. ¬ (g ≡ [])) L) (sym c.in_ok-other.ensures)
    (other_each c.self.inside.ring (λ g. ¬ (g ≡ [])) c.args.basis.now c.requires.nonzero)

pub add_units-requires-clause-parametric : goal.add_units-requires-clause-parametric
add_units-requires-clause-parametric c =
    parametric_kept _ _ c.self.view_is c.self.invariant.0.valid c.args.basis.now c.requires.polys
    c.in_ok-parametric.parametric c.in_ok-parametric.ensures

pub main_child-requires-clause-parametric : goal.main_child-requires-clause-parametric
main_child-requires-clause-parametric c =
    subst (λ (b : Case). AllByRecursion (IsCondition b.ring) c.in_ok-parametric.parametric) c.self.view_is
    (parametric_kept _ _ c.self.view_is c.self.invariant.0.valid c.args.basis.now c.requires.polys
    c.in_ok-parametric.parametric c.in_ok-parametric.ensures)

pub with_conditions-requires-clause-more : goal.with_conditions-requires-clause-more
with_conditions-requires-clause-more c =
    parametric_kept _ _ c.self.view_is c.self.invariant.0.valid c.args.basis.now c.requires.polys
    c.in_ok-parametric.parametric c.in_ok-parametric.ensures

pub add_splits-requires-clause-other : goal.add_splits-requires-clause-other
add_splits-requires-clause-other c =
    others_kept _ _ c.self.view_is c.self.invariant.0.valid c.args.basis.now c.requires.polys c.in_ok-other.other c.in_ok-other.ensures

pub add_splits-requires-clause-parametric : goal.add_splits-requires-clause-parametric
add_splits-requires-clause-parametric c =
    parametric_kept _ _ c.self.view_is c.self.invariant.0.valid c.args.basis.now c.requires.polys
    c.in_ok-parametric.parametric c.in_ok-parametric.ensures
