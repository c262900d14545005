use Rattle.std.proofs.Common.{◌≡◌, Err, sym, ap, ◌∙◌, subst}
use Rattle.cgs_poly.proofs.RingLemmas.{ring_positive}
use Rattle.cgs_list.proofs.ListLemmas.{all_weaker}
use Rattle.cgs_poly.specs.Polynomial.{IsPoly, IsCanonical}
use Rattle.cgs_algebra.specs.Groebner.{IsReduced, IsAscending}
use Rattle.cgs_algebra.proofs.UniquenessLemmas.{reduced_unique}
use Rattle.cgs_divide.specs.Ending.{ended, followed, EndsAs}
use Rattle.cgs_divide.specs.AutoreductionRun.{autoreduction}
use Rattle.cgs_divide.proofs.EndingLemmas.{stops, passed_on}
use Rattle.cgs_basis.specs.BasisRun.{basis_run}
use Rattle.cgs_basis.proofs.BasisLemmas.{basis_parts, basis_reduced}
use Rattle.cgs_basis.proofs.basis.reduced_basis.Goals as goal
use Rattle.cgs_basis.proofs.basis.reduced_basis.Goals.{In_ok-members, In_ok-basis}

pub returns-in_err-members-clause-ends : goal.returns-in_err-members-clause-ends
returns-in_err-members-clause-ends c =
    passed_on _ _ c.in_err-members.field-0.0 c.from_residual.result c.from_residual.ensures.1
    (subst (λ k. EndsAs k c.complete.new.fuel (Err c.in_err-members.field-0.0)) (sym (basis_parts c.args.ring.now c.args.generators.now c.args.fuel.now))
    (stops _ (autoreduction c.args.ring.now) c.complete.new.fuel c.in_err-members.field-0.0 c.in_err-members.ensures.ends))

-- the run is the autoreduction of the members
autoreduces : (c : In_ok-members) → basis_run c.args.ring.now c.args.generators.now c.args.fuel.now
    ≡ autoreduction c.args.ring.now c.in_ok-members.members c.complete.new.fuel
autoreduces c =
    basis_parts c.args.ring.now c.args.generators.now c.args.fuel.now ∙ ap (λ r. followed r (autoreduction c.args.ring.now)) c.in_ok-members.ensures.ends

pub returns-in_err-basis-clause-ends : goal.returns-in_err-basis-clause-ends
returns-in_err-basis-clause-ends c =
    passed_on _ _ c.in_err-basis.field-0.0 c.from_residual-in_err-basis.result c.from_residual-in_err-basis.ensures.1
    (subst (λ k. EndsAs k c.autoreduce.new.fuel (Err c.in_err-basis.field-0.0))
    (sym (autoreduces (goal.at.returns-in_err-basis-clause-ends c).In_ok-members)) c.in_err-basis.ensures.ends)

finished : (c : In_ok-basis) → basis_run c.args.ring.now c.args.generators.now c.args.fuel.now ≡ ended c.in_ok-basis.basis c.autoreduce.new.fuel
finished c =
    basis_parts c.args.ring.now c.args.generators.now c.args.fuel.now
    ∙ (ap (λ r. followed r (autoreduction c.args.ring.now)) c.in_ok-members.ensures.ends ∙ c.in_ok-basis.ensures.ends)

pub returns-clause-ends : goal.returns-clause-ends
returns-clause-ends c = finished (goal.at.returns-clause-ends c).In_ok-basis

is_reduced : (c : In_ok-basis) → IsReduced c.args.ring.now c.in_ok-basis.basis c.args.generators.now × IsAscending c.args.ring.now c.in_ok-basis.basis
is_reduced c =
    let ring = c.args.ring.now in
    let F = c.args.generators.now in
    basis_reduced ring F c.in_ok-basis.basis c.args.fuel.now c.autoreduce.new.fuel c.requires.ring
    (all_weaker (IsPoly ring) (IsCanonical ring) F c.requires.polys (λ f p. p.canonical)) (finished c)

pub returns-clause-reduced : goal.returns-clause-reduced
returns-clause-reduced c = (is_reduced (goal.at.returns-clause-reduced c).In_ok-basis).0

pub returns-clause-ascending : goal.returns-clause-ascending
returns-clause-ascending c = (is_reduced (goal.at.returns-clause-ascending c).In_ok-basis).1

pub returns-clause-unique : goal.returns-clause-unique
returns-clause-unique c = λ S r a.
    let b = is_reduced (goal.at.returns-clause-unique c).In_ok-basis in
    reduced_unique c.args.ring.now c.args.generators.now S c.in_ok-basis.basis (ring_positive c.args.ring.now c.requires.ring) r b.0 a b.1
