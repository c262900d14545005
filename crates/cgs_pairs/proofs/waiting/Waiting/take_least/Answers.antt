use Rattle.std.proofs.Common.{subst}
use Rattle.cgs_pairs.specs.PairOrder.{IsQueue}
use Rattle.cgs_pairs.specs.Runs.{WaitingPairs}
use Rattle.cgs_pairs.proofs.RunLemmas.{is_queue}
use Rattle.cgs_pairs.proofs.waiting.Waiting.take_least.Goals as goal
use Rattle.cgs_pairs.proofs.waiting.Waiting.take_least.Goals.{At-loop-pair}

queue_is : (c : At-loop-pair) → IsQueue (record { order = c.args.self.now.order; pairs = c.args.self.now.pairs })
queue_is c =
    subst (λ (v : WaitingPairs). IsQueue (record { order = v.order; pairs = v.pairs })) c.self.view_is
    (is_queue c.self.inside.order c.self.inside.leads.items c.self.inside.runs.entries c.self.invariant.leads c.self.invariant.runs)

pub returns-in_err-pair-clause-queue : goal.returns-in_err-pair-clause-queue
returns-in_err-pair-clause-queue c = queue_is (goal.at.returns-in_err-pair-clause-queue c).At-loop-pair

pub returns-then-not-is_ever_passed-clause-queue : goal.returns-then-not-is_ever_passed-clause-queue
returns-then-not-is_ever_passed-clause-queue c = queue_is (goal.at.returns-then-not-is_ever_passed-clause-queue c).At-loop-pair
