use Rattle.std.proofs.Common.{◌++◌, drop, codes}
use Rattle.std.specs.List.{flat_map}
use Rattle.cgs_canonical.specs.Printing.{names_line}
use Rattle.cgs_canonical.proofs.PrintLemmas.{Leaves}
use Rattle.cgs_canonical.proofs.line.names_line.Given as goal

abbrev pub invariant-loop-name : goal.invariant-loop-name
invariant-loop-name l =
    Leaves l.fn.out l.out (names_line l.keyword l.names) (flat_map (λ name. codes " " ++ name) (drop l.name-index l.names) ++ codes "\n")
