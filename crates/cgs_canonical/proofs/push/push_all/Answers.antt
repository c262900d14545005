use Rattle.std.proofs.Common.{List, ℕ, [], Bor, sym}
use Rattle.std.proofs.lemmas.List.{append-nil}
use Rattle.cgs_canonical.proofs.PrintLemmas.{leaves_all, leaves_equal, leaves_none, leaves_item, leaves_no_item, front_kept, at_exit}
use Rattle.cgs_canonical.proofs.push.push_all.Goals as goal

pub loop-piece-init : goal.loop-piece-init
loop-piece-init c = leaves_equal _ (leaves_all _ _) (sym (append-nil _))

pub returns-in_err-extend_from_slice : goal.returns-in_err-extend_from_slice
returns-in_err-extend_from_slice c =
    at_exit _ _ _ _ c.from_residual.ensures.0 (front_kept c.loop-piece.invariant c.in_err-extend_from_slice.ensures.err)

pub loop-piece-preserved : goal.loop-piece-preserved
loop-piece-preserved c =
    leaves_item (λ (piece : Bor (List ℕ)). piece.now) c.args.pieces.now c.loop-piece.piece-index _ [] c.loop-piece-test.true
    c.loop-piece.invariant c.in_ok-extend_from_slice.ensures.ok

pub returns : goal.returns
returns c =
    leaves_none (leaves_no_item (λ (piece : Bor (List ℕ)). piece.now) c.args.pieces.now c.loop-piece.piece-index
    [] c.loop-piece-test.false c.loop-piece.invariant)
