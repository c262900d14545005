use Rattle.std.proofs.Common.{◌≡◌, ◌∙◌, ap, sym, arith, length}
use Rattle.cgs_worker.proofs.Sums.{same_sums}
use Rattle.cgs_worker.proofs.run.run_in.Goals as goal

-- no worker changed the parts of its share, so all shares together have all parts
pub board_of-requires-clause-whole : goal.board_of-requires-clause-whole
board_of-requires-clause-whole g c =
    let before = c.in_ok-seats.seats in
    let after = c.in_ok-seats-2.seats in
    let as_many : length after.items ≡ length before.items = omega (arith, c.in_ok-seats-2.ensures.len, before.ok.0, after.ok.0) in
    let same = same_sums (λ seat. seat.parts) (λ seat. seat.parts) after.items before.items as_many
    (λ i x y lt.
    let made = (c.in_ok-seats-2.ensures.each i x (omega (arith, lt, as_many, before.ok.0))).1 in
    made.call.met ∙ ap (λ seat. seat.parts) (sym (made.job_is y))) in
    same ∙ (c.in_ok-seats.ensures.parts ∙ (sym c.requires.one_each ∙ c.requires.parts))
