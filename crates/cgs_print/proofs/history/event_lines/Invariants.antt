use Rattle.std.proofs.Common.{◌++◌, [], drop}
use Rattle.std.specs.List.{flat_map}
use Rattle.cgs_print.specs.History.{event_line}
use Rattle.cgs_canonical.proofs.PrintLemmas.{Leaves}
use Rattle.cgs_print.proofs.history.event_lines.Given as goal

abbrev pub invariant-loop-event : goal.invariant-loop-event
invariant-loop-event l = Leaves l.fn.out l.out (flat_map event_line l.events) (flat_map event_line (drop l.event-index l.events) ++ [])
