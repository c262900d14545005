use Rattle.std.proofs.Common.{arith}
use Rattle.std.proofs.lemmas.List.Sums.{sum_by-take-le, sum_by_more_le}
use Rattle.cgs_exps.specs.declared.lanes.TheConstants.{LANES}
use Rattle.cgs_exps.proofs.places.degree_of_both.Goals as goal

pub degree_in_lanes-total-requires : goal.degree_in_lanes-total-requires
degree_in_lanes-total-requires c =
    rw (c.lanes.ensures, c.lanes-then-a-ge-LANES.ensures)
    (omega (arith, sum_by-take-le (λ n. n) c.args.a.now LANES, sum_by-take-le (λ n. n) c.args.b.now LANES))

pub overflow_add-total-in-loop-i : goal.overflow_add-total-in-loop-i
overflow_add-total-in-loop-i c =
    grind (arith, sum_by_more_le (λ n. n) c.args.a.now c.loop-i.i 0 (omega arith), sum_by_more_le (λ n. n) c.args.b.now c.loop-i.i 0 (omega arith))
