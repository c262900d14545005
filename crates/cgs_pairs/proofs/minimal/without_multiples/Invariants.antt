use Rattle.std.proofs.Common.{◌≡◌, ◌++◌, drop}
use Rattle.cgs_pairs.specs.Unpassed.{without_multiples}
use Rattle.cgs_pairs.proofs.minimal.without_multiples.Given as goal

abbrev pub invariant-loop-k : goal.invariant-loop-k
invariant-loop-k l =
    l.kept.items ++ without_multiples l.leads l.larger l.d (drop l.k-index l.places) ≡ without_multiples l.leads l.larger l.d l.places
