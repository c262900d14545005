use Rattle.std.proofs.Common.{◌≡◌}
use Rattle.cgs_pairs.specs.Unpassed.{minimal_places}
use Rattle.cgs_pairs.proofs.minimal.places_to_queue.Given as goal

abbrev pub invariant-loop-i : goal.invariant-loop-i
invariant-loop-i l = l.places.items ≡ minimal_places l.leads l.larger l.i
