use Rattle.std.proofs.Common.{rules, sym, subst}
use Rattle.cgs_problem.specs.Problems.{IsProblem}
use Rattle.cgs_discover.proofs.PartLemmas.{refuted_valid}
use Rattle.cgs_discover.proofs.problems.refutation.Goals as goal

pub returns-clause-valid : goal.returns-clause-valid
returns-clause-valid c =
    subst IsProblem (sym c.in_ok-answer.ensures)
    (refuted_valid c.args.problem.now c.in-Some.thesis c.requires.valid c.requires.room c.requires.new (search rules))
