use Rattle.std.proofs.Common.{◌≡◌, ◌+◌, ◌*◌, ◌≤◌, sum, drop}
use Rattle.cgs_pairs.proofs.key.degree.Given as goal

abbrev pub invariant-loop-x : goal.invariant-loop-x
invariant-loop-x l = record {
  so_far : l.degree + sum (drop l.x-index l.block) ≡ sum l.block;
  small : l.degree ≤ 65535 * l.x-index;
}
