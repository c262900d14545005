use Rattle.std.proofs.Common.{length, ◌+◌, arith}
use Rattle.std.proofs.Math.Nat.{add-mul}
use Rattle.cgs_terms.proofs.DraftLemmas.{so_many}
use Rattle.cgs_terms.proofs.draft.Draft.with_room_for.Goals as goal

pub returns-clause-room : goal.returns-clause-room
returns-clause-room c l k =
    let a = so_many c.args.places c.f.inside.places _ _ c.args.f.now c.f.view_is c.f.invariant l in
    let b = so_many c.args.places c.g.inside.places _ _ c.args.g.now c.g.view_is c.g.invariant k in
    c.in_ok-draft.ensures.room (length c.args.f.now + length c.args.g.now) (omega (arith, a.coefficients, b.coefficients))
    (omega (arith, add-mul (length c.args.f.now) (length c.args.g.now) c.args.places, a.exponents, b.exponents))
