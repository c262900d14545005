use Rattle.std.proofs.Common.{◌++◌, drop, codes, decimal}
use Rattle.std.specs.List.{flat_map}
use Rattle.cgs_canonical.specs.Printing.{point_line}
use Rattle.cgs_canonical.proofs.PrintLemmas.{Leaves}
use Rattle.cgs_canonical.proofs.line.point_line.Given as goal

abbrev pub invariant-loop-number : goal.invariant-loop-number
invariant-loop-number l = Leaves l.fn.out l.out (point_line l.point) (flat_map (λ n. codes " " ++ decimal n) (drop l.number-index l.number-items) ++ codes "\n")
