use Rattle.std.proofs.Common.{ℕ, ◌+◌, ◌-◌, take, drop}
use Rattle.cgs_terms.specs.Draft.{HasRoom, Appended}
use Rattle.cgs_terms.specs.Merge.{AreAbove}
use Rattle.cgs_terms.proofs.merging.push_above.Given as goal

abbrev pub invariant-loop-i : goal.invariant-loop-i
invariant-loop-i l = record {
  appended : Appended l.initial.sum l.sum (take (l.i - l.from) (drop l.from l.f));
  room : (n : ℕ) → HasRoom l.initial.sum (n + (l.i - l.from)) → HasRoom l.sum n;
  above : AreAbove l.order l.m (take (l.i - l.from) (drop l.from l.f));
}
