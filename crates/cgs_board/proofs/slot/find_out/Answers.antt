use Rattle.std.proofs.Common.{refl, sym, ◌∙◌, arith}
use Rattle.std.proofs.lemmas.Bool.{false≢true}
use Rattle.std.proofs.lemmas.Option.{slice_get_within}
use Rattle.cgs_board.specs.Slots.{out_slot}
use Rattle.cgs_board.proofs.Finding.{is_out_slot, no_out_slot}
use Rattle.cgs_board.proofs.slot.find_out.Goals as goal

pub returns-in_default : goal.returns-in_default
returns-in_default g c i at = c.in_default.ensures i (out_slot c.args.path.now c.args.worker c.args.branch.now, at, sym c.as_slice.ensures)

pub offset_bounds-slots-at : goal.offset_bounds-slots-at
offset_bounds-slots-at g c =
    let s = c.in-Some.ensures in let w = slice_get_within c.args.slots.now c.in-Some.at s.0 s.1 in omega (arith, w)

pub bounds-slots-at : goal.bounds-slots-at
bounds-slots-at g c = let s = c.in-Some.ensures in slice_get_within c.args.slots.now c.in-Some.at s.0 s.1

pub returns-then-is_out_of : goal.returns-then-is_out_of
returns-then-is_out_of g c =
    let s = c.in-Some.ensures in
    is_out_slot c.args.slots.now c.requires.tree c.args.path.now c.args.worker c.args.branch.now c.in-Some.at c.index-slots-at.result
    (s.0, s.1, s.2 ∙ c.as_slice.ensures) (c.if-is_out_of.ensures.0 refl)

pub returns-else-is_out_of : goal.returns-else-is_out_of
returns-else-is_out_of g c =
    let s = c.in-Some.ensures in
    no_out_slot c.args.slots.now c.requires.tree c.args.path.now c.args.worker c.args.branch.now c.in-Some.at c.index-slots-at.result
    (s.0, s.1, s.2 ∙ c.as_slice.ensures) (λ same. false≢true (c.if-is_out_of.ensures.1 same))
