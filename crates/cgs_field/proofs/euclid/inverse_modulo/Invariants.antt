use Rattle.cgs_field.proofs.EuclidLemmas.{AreRows}
use Rattle.cgs_field.proofs.euclid.inverse_modulo.Given as goal

abbrev pub invariant-loop-remainder : goal.invariant-loop-remainder
invariant-loop-remainder l = AreRows l.p l.a l.opposite l.before l.factor_before l.remainder l.factor

abbrev pub decreases-loop-remainder : goal.decreases-loop-remainder
decreases-loop-remainder l = l.remainder
