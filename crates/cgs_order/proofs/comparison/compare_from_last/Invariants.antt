use Rattle.std.proofs.Common.{◌≡◌, ◌≤◌, ◌*◌, sum, take}
use Rattle.std.specs.Ordering.{nat_cmp}
use Rattle.std.specs.Cmp.Lexicographic.{slice_cmp}
use Rattle.cgs_order.specs.declared.kind.Kind.TheVariants.{GrevLex}
use Rattle.cgs_order.specs.TermOrder.{block_key}
use Rattle.cgs_order.proofs.comparison.compare_from_last.Given as goal

abbrev pub invariant-loop-i : goal.invariant-loop-i
invariant-loop-i l = record {
  first : l.degree ≡ sum (take l.i l.a);
  second : l.other_degree ≡ sum (take l.i l.b);
  first_small : l.degree ≤ 65535 * l.i;
  second_small : l.other_degree ≤ 65535 * l.i;
  tie : sum (take l.i l.a) ≡ sum (take l.i l.b)
      → slice_cmp nat_cmp (block_key GrevLex (take l.i l.a)) (block_key GrevLex (take l.i l.b)) ≡ nat_cmp l.other_last l.last;
}
