use Rattle.std.proofs.Common.{◌≡◌, ◌++◌, take}
use Rattle.cgs_text.proofs.names.with_copies.Given as goal

abbrev pub invariant-loop-other : goal.invariant-loop-other
invariant-loop-other l = l.names ≡ l.fn.names ++ take l.other-index l.others
