use Rattle.std.proofs.Common.{refl}
use Rattle.cgs_terms.proofs.PlaceLemmas.{canonical_rows}
use Rattle.cgs_bucket.proofs.levels.merged.Goals as goal

pub merge-requires-clause-room : goal.merge-requires-clause-room
merge-requires-clause-room g c =
    let ring = c.args.ring.now in
    c.in_ok-draft.ensures.room (canonical_rows ring _ c.args.f.now _ c.places.ensures refl c.requires.first)
    (canonical_rows ring _ c.args.g.now _ c.places.ensures refl c.requires.terms)
