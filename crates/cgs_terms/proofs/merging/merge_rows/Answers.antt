use Rattle.std.proofs.Common.{◌≡◌, ◌-◌, length, take, drop}
use Rattle.std.proofs.lemmas.List.{take_rest}
use Rattle.cgs_terms.proofs.PlaceLemmas.{canonical_length}
use Rattle.cgs_terms.proofs.merging.merge_rows.Goals as goal

pub with_places-first-requires : goal.with_places-first-requires
with_places-first-requires g c = rw c.requires.width (canonical_length c.args.ring.now c.args.f.now c.requires.can.first)

pub with_places-second-requires : goal.with_places-second-requires
with_places-second-requires g c = rw c.requires.width (canonical_length c.args.ring.now c.args.g.now c.requires.can.terms)

pub extend-requires-clause-places : goal.extend-requires-clause-places
extend-requires-clause-places g c =
    rw (c.merged_up_to_last-start.ensures.places, c.with_places-first.ensures) (canonical_length c.args.ring.now c.args.f.now c.requires.can.first)

pub returns : goal.returns
returns g c =
    let f = c.args.f.now in
    let from = c.merged_up_to_last-start.result.1 in
    let rest : take (length f - from) (drop from f) ≡ drop from f = take_rest f from in
    cc (
      c.finish.ensures,
      c.in_ok-extend.ensures.terms,
      c.len.ensures,
      c.with_places-first.ensures,
      c.with_places-second.ensures,
      rest,
      c.merged_up_to_last-start.ensures.sum,
    )
