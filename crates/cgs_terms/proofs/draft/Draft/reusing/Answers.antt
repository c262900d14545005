use Rattle.std.proofs.Common.{length, arith}
use Rattle.cgs_terms.proofs.DraftLemmas.{so_many, room_for_both}
use Rattle.cgs_terms.proofs.draft.Draft.reusing.Goals as goal

pub returns-clause-room : goal.returns-clause-room
returns-clause-room c l k =
    let a = so_many c.args.places c.f.inside.places _ _ c.args.f.now c.f.view_is c.f.invariant l in
    let b = so_many c.args.places c.g.inside.places _ _ c.args.g.now c.g.view_is c.g.invariant k in
    room_for_both _ (length c.args.f.now) (length c.args.g.now)
    (omega (arith, a.coefficients, b.coefficients, c.in_ok-reserve.ensures.ok, c.clear.ensures.len, c.in_ok-reserve.ensures.len))
    (omega (arith, a.exponents, b.exponents, c.in_ok-reserve-2.ensures.ok, c.clear-2.ensures.len, c.in_ok-reserve-2.ensures.len))
