use Rattle.std.proofs.Common.{◌≡◌, take}
use Rattle.cgs_point.specs.Points.{reduced_modulo}
use Rattle.cgs_point.proofs.point.Point.new.Given as goal

abbrev pub invariant-loop-value : goal.invariant-loop-value
invariant-loop-value l = l.numbers.items ≡ reduced_modulo l.ring.modulus (take l.value-index l.values)
