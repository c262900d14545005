use Rattle.std.proofs.Common.{◌≡◌, drop}
use Rattle.cgs_poly.specs.Same.{is_among}
use Rattle.cgs_poly.proofs.list.is_among.Given as goal

abbrev pub invariant-loop-i : goal.invariant-loop-i
invariant-loop-i l = is_among l.f (drop l.i l.list) ≡ is_among l.f l.list
