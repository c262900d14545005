use Rattle.std.proofs.Common.{rules}
use Rattle.cgs_words.proofs.PlanLemmas.{stress_few, workers_few}
use Rattle.cgs_words.proofs.words.read_words.Goals as goal

pub returns-clause-some_worker : goal.returns-clause-some_worker
returns-clause-some_worker c = let few = workers_few c.args.words.now in search rules

pub returns-clause-few_workers : goal.returns-clause-few_workers
returns-clause-few_workers c = let few = workers_few c.args.words.now in search rules

pub returns-then-eq-clause-some_worker : goal.returns-then-eq-clause-some_worker
returns-then-eq-clause-some_worker c = let few = stress_few c.in-Some.rest.now in search rules

pub returns-then-eq-clause-few_workers : goal.returns-then-eq-clause-few_workers
returns-then-eq-clause-few_workers c = let few = stress_few c.in-Some.rest.now in search rules
