use Rattle.std.proofs.Common.{refl}
use Rattle.cgs_text.proofs.ConditionLemmas.{condition_read}
use Rattle.cgs_text.proofs.body.read_condition.Goals as goal

pub returns-clause-condition : goal.returns-clause-condition
returns-clause-condition c =
    condition_read c.args.problem.now.ring _ refl c.read_sum.result c.read_sum.ensures.poly c.read_sum.ensures.monomials
