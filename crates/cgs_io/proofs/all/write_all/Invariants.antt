use Rattle.std.proofs.Common.{length, take, ◌-◌, ◌≡◌, ◌≤◌}
use Rattle.std.specs.Io.KnownBytes.{Appends}
use Rattle.cgs_io.proofs.all.write_all.Given as goal

abbrev pub invariant-loop-at : goal.invariant-loop-at
invariant-loop-at g l =
    let seen = g.K.Sink.seen in
    record {
      within : l.at ≤ length l.text;
      bytes : Appends (seen l.fn.sink).bytes (seen l.sink).bytes (take l.at l.text);
      faults : (seen l.sink).faults ≡ (seen l.fn.sink).faults;
    }

abbrev pub decreases-loop-at : goal.decreases-loop-at
decreases-loop-at g l = length l.text - l.at
