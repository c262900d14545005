use Rattle.std.proofs.Common.{◌++◌, [], drop}
use Rattle.std.specs.List.{flat_map}
use Rattle.cgs_canonical.proofs.PrintLemmas.{Leaves}
use Rattle.cgs_canonical.proofs.push.push_all.Given as goal

abbrev pub invariant-loop-piece : goal.invariant-loop-piece
invariant-loop-piece l =
    Leaves l.fn.out l.out (flat_map (λ piece. piece.now) l.pieces) (flat_map (λ piece. piece.now) (drop l.piece-index l.pieces) ++ [])
