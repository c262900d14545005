use Rattle.std.proofs.Common.{◌≡◌, ◌≤◌, ◌+◌, ◌-◌, drop}
use Rattle.cgs_divide.specs.DivisionRun as run
use Rattle.cgs_divide.proofs.division.undivided.Given as goal

-- no lead divides a term up to the place
abbrev pub invariant-loop-i : goal.invariant-loop-i
invariant-loop-i l = record {
  limit : l.i ≤ l.limit;
  so_far : l.i + run.undivided (l.limit - l.i) l.divisors (drop l.i l.f) ≡ run.undivided l.limit l.divisors l.f;
}
