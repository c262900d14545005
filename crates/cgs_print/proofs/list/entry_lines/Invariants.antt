use Rattle.std.proofs.Common.{◌++◌, [], drop}
use Rattle.std.specs.List.{flat_map}
use Rattle.cgs_print.specs.Printing.{entry_text}
use Rattle.cgs_canonical.proofs.PrintLemmas.{Leaves}
use Rattle.cgs_print.proofs.list.entry_lines.Given as goal

abbrev pub invariant-loop-entry : goal.invariant-loop-entry
invariant-loop-entry l =
    Leaves l.fn.out l.out (flat_map (entry_text l.ring l.names) l.entries) (flat_map (entry_text l.ring l.names) (drop l.entry-index l.entries) ++ [])
