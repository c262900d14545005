use Rattle.std.proofs.Common.{◌≡◌, length, take}
use Rattle.cgs_poly.proofs.GridLemmas.{AllDivide}
use Rattle.cgs_poly.proofs.grid.write_lcm.Given as goal

abbrev pub invariant-loop-i : goal.invariant-loop-i
invariant-loop-i l = record {
  places : length l.lcm ≡ length l.initial.lcm;
  multiple : AllDivide l.lcm (take l.i l.f);
}
