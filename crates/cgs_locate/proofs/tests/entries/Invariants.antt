use Rattle.std.specs.List.{AllByRecursion}
use Rattle.cgs_entry.specs.Entries.{IsEntry}
use Rattle.cgs_locate.proofs.tests.entries.Given as goal

abbrev pub invariant-loop-row : goal.invariant-loop-row
invariant-loop-row l = AllByRecursion (IsEntry l.ring) l.list
