use Rattle.std.proofs.Common.{◌≡◌, ◌≤◌, take}
use Rattle.std.specs.List.{count_by}
use Rattle.cgs_entry.specs.Entries.{is_refused}
use Rattle.cgs_print.proofs.list.count_refused.Given as goal

abbrev pub invariant-loop-entry : goal.invariant-loop-entry
invariant-loop-entry l = (l.count ≡ count_by is_refused (take l.entry-index l.entries)) × (l.count ≤ l.entry-index)
