use Rattle.std.proofs.Common.{◌≡◌, ◌++◌, drop}
use Rattle.cgs_pairs.proofs.key.push_places.Given as goal

abbrev pub invariant-loop-x : goal.invariant-loop-x
invariant-loop-x l = l.list.items ++ drop l.x-index l.block ≡ l.fn.list.items ++ l.block
