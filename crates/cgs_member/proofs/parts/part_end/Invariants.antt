use Rattle.std.proofs.Common.{◌≡◌, ◌+◌, ◌≤◌, ◌<◌, length, drop}
use Rattle.cgs_member.proofs.PartLemmas.{part_length}
use Rattle.cgs_member.proofs.parts.part_end.Given as goal

-- the terms so far have the variables
abbrev pub invariant-loop-to : goal.invariant-loop-to
invariant-loop-to l = record {
  rising : l.from < l.to;
  within : l.to ≤ length l.f;
  part : l.from + part_length l.ring l.x (drop l.from l.f) ≡ l.to + part_length l.ring l.x (drop l.to l.f);
}
