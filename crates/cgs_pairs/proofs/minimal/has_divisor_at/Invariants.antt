use Rattle.std.proofs.Common.{◌≡◌, drop}
use Rattle.cgs_pairs.specs.Unpassed.{has_divisor_at}
use Rattle.cgs_pairs.proofs.minimal.has_divisor_at.Given as goal

abbrev pub invariant-loop-k : goal.invariant-loop-k
invariant-loop-k l = has_divisor_at l.leads l.m l.places ≡ has_divisor_at l.leads l.m (drop l.k-index l.places)
