use Rattle.std.proofs.Common.{◌≡◌, ◌++◌, drop, map}
use Rattle.cgs_pairs.specs.declared.rank.Rank.{Rank}
use Rattle.cgs_pairs.proofs.runs.run_of.Given as goal

abbrev pub invariant-loop-rank : goal.invariant-loop-rank
invariant-loop-rank l = l.places.items ++ map (λ (r : Rank). r.smaller) (drop l.rank-index l.rank-items) ≡ map (λ (r : Rank). r.smaller) l.rank-items
