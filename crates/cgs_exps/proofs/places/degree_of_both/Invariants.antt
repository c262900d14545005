use Rattle.std.proofs.Common.{◌≡◌, ◌+◌, take}
use Rattle.cgs_exps.specs.Monomial.{degree}
use Rattle.cgs_exps.proofs.places.degree_of_both.Given as goal

abbrev pub invariant-loop-i : goal.invariant-loop-i
invariant-loop-i l = l.total ≡ degree (take l.i l.a) + degree (take l.i l.b)
