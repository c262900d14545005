use Rattle.std.proofs.Common.{◌≡◌, ◌++◌, take}
use Rattle.cgs_discover.proofs.copies.with_names.Given as goal

abbrev pub invariant-loop-name : goal.invariant-loop-name
invariant-loop-name l = l.list ≡ l.initial.list ++ take l.name-index l.names
