use Rattle.std.proofs.Common.{◌≡◌, ◌+◌, false, length, refl, sym, ap, ◌∙◌}
use Rattle.std.proofs.lemmas.Bool.{lt-ltb, le-ltb}
use Rattle.std.specs.Ordering.{is_lt, nat_cmp, ordering_then}
use Rattle.cgs_exps.specs.Monomial.{lcm}
use Rattle.cgs_pairs.specs.declared.pair.Pair.{Pair}
use Rattle.cgs_pairs.specs.Runs.{pair_at}
use Rattle.cgs_pairs.specs.Unpassed.{precedes, pair_between}
use Rattle.cgs_pairs.proofs.EarlierLemmas.{lead, lead_long, precedes_lower, precedes_same, differ_by, same_by}
use Rattle.cgs_pairs.proofs.unpassed.precedes.Goals as goal
use Rattle.cgs_pairs.proofs.unpassed.precedes.Goals.{After-ne}

lcm_is : (c : After-ne) → c.lcm_into.new.out
    ≡ lcm (lead c.args.order.now c.args.leads.now c.requires.leads c.args.i) (lead c.args.order.now c.args.leads.now c.requires.leads c.args.j)
lcm_is c = c.lcm_into.ensures ∙ rw (c.lead_at-first.ensures, c.lead_at.ensures) refl

long : (c : After-ne) → length c.args.pair.now.lcm ≡ c.args.order.now.head + c.args.order.now.tail
long c = c.requires.places ∙ lead_long c.args.order.now c.args.leads.now c.requires.leads c.args.i c.requires.first

pub returns-then-ne : goal.returns-then-ne
returns-then-ne c =
    let at = (goal.at.returns-then-ne c).After-ne in
    sym (precedes_lower c.args.order.now c.args.leads.now c.requires.leads c.args.pair.now (long at) c.args.i c.args.j c.requires.first c.requires.second
    c.requires.first_divides c.requires.second_divides
    (λ e. differ_by c.lcm_into.new.out c.as_slice.result.now c.ne.result c.ne.ensures c.if-ne.true (lcm_is at ∙ (e ∙ sym c.as_slice.ensures))))

by_places : (c : After-ne) → c.ne.result ≡ false → precedes c.args.order.now (pair_between c.args.leads.now c.args.i c.args.j) c.args.pair.now
    ≡ is_lt (ordering_then (nat_cmp (pair_between c.args.leads.now c.args.i c.args.j).larger c.args.pair.now.larger)
    (nat_cmp (pair_between c.args.leads.now c.args.i c.args.j).smaller c.args.pair.now.smaller))
by_places c f =
    precedes_same c.args.order.now c.args.leads.now c.requires.leads c.args.pair.now (long c) c.args.i c.args.j c.requires.first c.requires.second
    c.requires.first_divides c.requires.second_divides
    (sym (lcm_is c) ∙ (same_by c.lcm_into.new.out c.as_slice.result.now c.ne.result c.ne.ensures f ∙ c.as_slice.ensures))

pub returns-then-i-j : goal.returns-then-i-j
returns-then-i-j c =
    let between : pair_between c.args.leads.now c.args.i c.args.j ≡ pair_at c.args.leads.now c.args.j c.args.i =
    rw (lt-ltb c.args.i c.args.j c.if-i-j.true) refl in
    c.places_precede.ensures
    ∙ sym (by_places (goal.at.returns-then-i-j c).After-ne c.if-ne.false
    ∙ ap (λ (p : Pair). is_lt (ordering_then (nat_cmp p.larger c.args.pair.now.larger) (nat_cmp p.smaller c.args.pair.now.smaller))) between)

pub returns : goal.returns
returns c =
    let between : pair_between c.args.leads.now c.args.i c.args.j ≡ pair_at c.args.leads.now c.args.i c.args.j =
    rw (le-ltb c.args.i c.args.j c.if-i-j.false) refl in
    c.places_precede-2.ensures
    ∙ sym (by_places (goal.at.returns c).After-ne c.if-ne.false
    ∙ ap (λ (p : Pair). is_lt (ordering_then (nat_cmp p.larger c.args.pair.now.larger) (nat_cmp p.smaller c.args.pair.now.smaller))) between)
