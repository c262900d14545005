use Rattle.std.proofs.Common.{◌≡◌, ◌-◌, replicate}
use Rattle.cgs_bench.proofs.tree.RegularJob.node.Given as goal

abbrev pub invariant-loop : goal.invariant-loop
invariant-loop l = l.children.items ≡ replicate l.counter (l.self-inside.width, l.self-inside.levels - 1)
