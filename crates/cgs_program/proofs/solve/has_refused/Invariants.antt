use Rattle.std.proofs.Common.{◌≡◌, drop}
use Rattle.std.specs.List.{list_any}
use Rattle.cgs_entry.specs.Entries.{is_refused}
use Rattle.cgs_program.proofs.solve.has_refused.Given as goal

abbrev pub invariant-loop-entry : goal.invariant-loop-entry
invariant-loop-entry l = list_any is_refused (drop l.entry-index l.entries) ≡ list_any is_refused l.entries
