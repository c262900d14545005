use Rattle.std.proofs.Common.{◌++◌, [], drop}
use Rattle.std.specs.List.{flat_map}
use Rattle.cgs_canonical.specs.Printing.{polynomial_line, polynomial_lines}
use Rattle.cgs_canonical.proofs.PrintLemmas.{Leaves}
use Rattle.cgs_canonical.proofs.line.polynomial_lines.Given as goal

abbrev pub invariant-loop-f : goal.invariant-loop-f
invariant-loop-f l = Leaves l.fn.out l.out (polynomial_lines l.keyword l.ring l.names l.list)
    (flat_map (polynomial_line l.keyword l.ring l.names) (drop l.f-index l.list) ++ [])
