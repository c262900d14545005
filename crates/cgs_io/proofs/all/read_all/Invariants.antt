use Rattle.std.proofs.Common.{length, ◌-◌, ◌≡◌, ◌≤◌, vec_len}
use Rattle.std.specs.Io.KnownBytes.{Consumes}
use Rattle.cgs_io.proofs.all.read_all.Given as goal

abbrev pub invariant-loop-buffer : goal.invariant-loop-buffer
invariant-loop-buffer g l =
    let seen = g.S.Source.seen in
    record {
      within : length l.bytes.items ≤ l.most;
      bytes : Consumes (seen l.fn.source).bytes (seen l.source).bytes l.bytes.items;
      faults : (seen l.source).faults ≡ (seen l.fn.source).faults;
    }

abbrev pub decreases-loop-buffer : goal.decreases-loop-buffer
decreases-loop-buffer g l = l.most - vec_len l.bytes
