use Rattle.cgs_divide.proofs.EndingLemmas.{answers_run}
use Rattle.cgs_divide.proofs.laws.calls_answer_runs.Goals as goal

pub returns : goal.returns
returns g c = answers_run
