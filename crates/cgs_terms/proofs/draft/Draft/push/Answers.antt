use Rattle.std.proofs.Common.{refl, arith, add-one}
use Rattle.cgs_terms.proofs.DraftLemmas.{pushed}
use Rattle.cgs_terms.proofs.draft.Draft.push.Goals as goal

pub returns-clause-appended : goal.returns-clause-appended
returns-clause-appended c =
    pushed c.args.self.now _ c.args.c c.args.m.now c.requires.flat c.requires.places refl c.push_reserved.ensures.items c.push_row.ensures.items

pub returns-clause-room : goal.returns-clause-room
returns-clause-room c n room = record {
  coefficients = omega (arith, c.push_reserved.ensures.len, c.push_reserved.ensures.capacity, room.coefficients);
  exponents = omega (arith, c.push_row.ensures.len, c.push_row.ensures.capacity, rw add-one at room.exponents, c.requires.places);
}
