use Rattle.std.proofs.Common.{◌≡◌, ◌*◌, ◌≤◌, sum, take}
use Rattle.cgs_order.proofs.comparison.compare_degrees.Given as goal

abbrev pub invariant-loop-i : goal.invariant-loop-i
invariant-loop-i l = record {
  first : l.first ≡ sum (take l.i l.a);
  second : l.second ≡ sum (take l.i l.b);
  first_small : l.first ≤ 65535 * l.i;
  second_small : l.second ≤ 65535 * l.i;
}
