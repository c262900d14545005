use Rattle.std.proofs.Common.{◌++◌, drop, length}
use Rattle.std.specs.List.{flat_map}
use Rattle.cgs_print.specs.Locating.{point_text, points_line, located_text}
use Rattle.cgs_canonical.proofs.PrintLemmas.{Leaves}
use Rattle.cgs_print.proofs.locating.located_text.Given as goal

abbrev pub invariant-loop-point : goal.invariant-loop-point
invariant-loop-point l =
    Leaves l.fn.out l.out (located_text l.problem l.entries)
    (flat_map (point_text l.problem l.entries) (drop l.point-index l.point-items) ++ points_line (length l.problem.points))
