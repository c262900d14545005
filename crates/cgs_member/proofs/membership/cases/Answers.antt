use Rattle.std.proofs.Common.{◌≡◌, ap, ◌∙◌}
use Rattle.std.proofs.lemmas.Result.{IfOk-weaker}
use Rattle.cgs_divide.proofs.EndingLemmas.{has_ended}
use Rattle.cgs_entry.specs.Bases.{basis_of}
use Rattle.cgs_member.specs.Cases.{cases_run}
use Rattle.cgs_member.proofs.CaseLemmas.{cases_decide}
use Rattle.cgs_member.proofs.membership.cases.Goals as goal

pub returns-in-Solved-clause-decides : goal.returns-in-Solved-clause-decides
returns-in-Solved-clause-decides c =
    let same : basis_of c.args.entry.now.kind ≡ c.in-Solved.basis = ap basis_of c.in-Solved.is in
    IfOk-weaker c.cases_over.result _ _ (λ list e.
    cases_decide c.args.ring.now c.args.entry.now c.args.fuel.now c.cases_over.new.fuel c.args.f.now list c.requires.ring c.requires.entry
    c.requires.solved c.requires.poly
    (ap (λ B. cases_run c.args.ring.now B c.args.fuel.now c.args.f.now) same ∙ e))
    (has_ended _ c.cases_over.new.fuel c.cases_over.result c.cases_over.ensures.ends)
