use Rattle.std.proofs.Common.{◌≡◌, drop}
use Rattle.cgs_exps.specs.Monomial.{coprime}
use Rattle.cgs_exps.proofs.places.coprime.Given as goal

abbrev pub invariant-loop-i : goal.invariant-loop-i
invariant-loop-i l = coprime l.a l.b ≡ coprime (drop l.i l.a) (drop l.i l.b)
