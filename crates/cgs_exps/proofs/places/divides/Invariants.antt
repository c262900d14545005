use Rattle.std.proofs.Common.{◌≡◌, drop}
use Rattle.cgs_exps.specs.Monomial.{divides}
use Rattle.cgs_exps.proofs.places.divides.Given as goal

abbrev pub invariant-loop-i : goal.invariant-loop-i
invariant-loop-i l = divides l.a l.b ≡ divides (drop l.i l.a) (drop l.i l.b)
