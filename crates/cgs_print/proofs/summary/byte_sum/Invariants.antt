use Rattle.std.proofs.Common.{◌≡◌, ◌<◌, take}
use Rattle.cgs_print.specs.Summary.{byte_sum}
use Rattle.cgs_print.proofs.summary.byte_sum.Given as goal

abbrev pub invariant-loop-byte : goal.invariant-loop-byte
invariant-loop-byte l = (l.total ≡ byte_sum (take l.byte-index l.bytes)) × (l.total < 65521)
