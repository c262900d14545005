use Rattle.std.proofs.Common.{◌≡◌, Some, refl, sym, ap, ◌∙◌}
use Rattle.std.specs.Prelude.{slice_get}
use Rattle.std.proofs.lemmas.Bool.{false_from_ne_true, both_ways}
use Rattle.std.proofs.lemmas.Option.{slice_get_read}
use Rattle.cgs_entry.proofs.ConditionLemmas.{region_decides}
use Rattle.cgs_locate.proofs.LocateLemmas.{located_here, located_later}
use Rattle.cgs_locate.proofs.search.locate.Goals as goal

pub returns-then-holds_at-clause-located : goal.returns-then-holds_at-clause-located
returns-then-holds_at-clause-located c =
    let entry = c.entry-item.result in
    let at : slice_get c.args.entries.now c.loop-i.i ≡ Some entry =
    ap (λ xs. slice_get xs c.loop-i.i) (sym c.as_slice-entry-items.ensures)
    ∙ slice_get_read c.as_slice-entry-items.result.now _ c.loop-i.i entry refl c.loop-i-test.true c.entry-item.is in
    let inside = (region_decides c.args.ring.now entry.conditions.zero entry.conditions.nonzero c.args.point.now).1 (c.holds_at.ensures.0 c.if-holds_at.true) in
    ap (λ b. Some (record { index = c.loop-i.i; basis = b })) c.in_ok-basis.ensures.basis
    ∙ (sym (located_here c.args.ring.now c.args.point.now c.args.entries.now c.loop-i.i entry at inside) ∙ c.loop-i.invariant)

pub loop-i-preserved : goal.loop-i-preserved
loop-i-preserved c =
    let entry = c.entry-item.result in
    let at : slice_get c.args.entries.now c.loop-i.i ≡ Some entry =
    ap (λ xs. slice_get xs c.loop-i.i) (sym c.as_slice-entry-items.ensures)
    ∙ slice_get_read c.as_slice-entry-items.result.now _ c.loop-i.i entry refl c.loop-i-test.true c.entry-item.is in
    let decides = region_decides c.args.ring.now entry.conditions.zero entry.conditions.nonzero c.args.point.now in
    located_later c.args.ring.now c.args.point.now c.args.entries.now c.loop-i.i entry at
    (false_from_ne_true _ (λ t. both_ways _ c.if-holds_at.false (c.holds_at.ensures.1 (decides.0 t))))
    ∙ c.loop-i.invariant
