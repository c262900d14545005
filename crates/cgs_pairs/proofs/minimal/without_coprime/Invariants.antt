use Rattle.std.proofs.Common.{◌≡◌, ◌++◌, drop}
use Rattle.cgs_pairs.specs.Unpassed.{without_coprime}
use Rattle.cgs_pairs.proofs.minimal.without_coprime.Given as goal

abbrev pub invariant-loop-k : goal.invariant-loop-k
invariant-loop-k l =
    l.kept.items ++ without_coprime l.leads l.larger (drop l.k-index l.places) ≡ without_coprime l.leads l.larger l.places
