use Rattle.std.proofs.Common.{length, sym, ap, ◌∙◌}
use Rattle.cgs_pairs.proofs.EarlierLemmas.{lead_long, pair_long, smaller_divides, larger_divides}
use Rattle.cgs_pairs.proofs.unpassed.is_earlier_third.Goals as goal

pub divides-requires-clause-same_places : goal.divides-requires-clause-same_places
divides-requires-clause-same_places c =
    ap length c.lead_at.ensures
    ∙ (lead_long c.args.order.now c.args.leads.now c.requires.leads c.args.k c.requires.within
    ∙ (sym (pair_long c.args.order.now c.args.leads.now c.requires.leads c.args.pair.now c.requires.smaller c.requires.larger c.requires.pair)
    ∙ ap length (sym c.as_slice.ensures)))

pub precedes-requires-clause-places : goal.precedes-requires-clause-places
precedes-requires-clause-places c =
    pair_long c.args.order.now c.args.leads.now c.requires.leads c.args.pair.now c.requires.smaller c.requires.larger c.requires.pair
    ∙ sym (lead_long c.args.order.now c.args.leads.now c.requires.leads c.args.k c.requires.within)

pub precedes-requires-clause-second_divides : goal.precedes-requires-clause-second_divides
precedes-requires-clause-second_divides c =
    smaller_divides c.args.order.now c.args.leads.now c.requires.leads c.args.pair.now c.requires.smaller c.requires.larger c.requires.pair

pub precedes-requires-then-precedes-clause-places : goal.precedes-requires-then-precedes-clause-places
precedes-requires-then-precedes-clause-places c =
    pair_long c.args.order.now c.args.leads.now c.requires.leads c.args.pair.now c.requires.smaller c.requires.larger c.requires.pair
    ∙ sym (lead_long c.args.order.now c.args.leads.now c.requires.leads c.args.k c.requires.within)

pub precedes-requires-then-precedes-clause-second_divides : goal.precedes-requires-then-precedes-clause-second_divides
precedes-requires-then-precedes-clause-second_divides c =
    larger_divides c.args.order.now c.args.leads.now c.requires.leads c.args.pair.now c.requires.smaller c.requires.larger c.requires.pair
