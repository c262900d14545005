use Rattle.std.proofs.Common.{◌≡◌, drop}
use Rattle.cgs_pairs.specs.Unpassed.{has_earlier_third}
use Rattle.cgs_pairs.proofs.unpassed.is_ever_passed.Given as goal

abbrev pub invariant-loop-k : goal.invariant-loop-k
invariant-loop-k l = has_earlier_third l.order l.leads l.pair 0 l.leads ≡ has_earlier_third l.order l.leads l.pair l.k (drop l.k l.leads)
