use Rattle.std.proofs.Common.{◌≡◌, ◌-◌, replicate}
use Rattle.cgs_worker.proofs.tests.CountdownJob.node.Given as goal

abbrev pub invariant-loop-number : goal.invariant-loop-number
invariant-loop-number l = l.children.items ≡ replicate l.number (l.self-inside.n - 1)
