use Rattle.std.proofs.Common.{◌++◌, [], drop}
use Rattle.std.specs.List.{flat_map}
use Rattle.cgs_canonical.specs.Printing.{point_line}
use Rattle.cgs_canonical.proofs.PrintLemmas.{Leaves}
use Rattle.cgs_canonical.proofs.line.point_lines.Given as goal

abbrev pub invariant-loop-point : goal.invariant-loop-point
invariant-loop-point l = Leaves l.fn.out l.out (flat_map point_line l.points) (flat_map point_line (drop l.point-index l.points) ++ [])
