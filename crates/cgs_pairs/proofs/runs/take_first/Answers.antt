use Rattle.std.proofs.Common.{◌≡◌, ◌∷◌, ◌++◌, refl, sym, ap, ◌∙◌, subst}
use Rattle.std.specs.List.{AllByRecursion}
use Rattle.cgs_pairs.specs.Runs.{pair_at, pairs_at, pairs_in, sorted, IsEntry}
use Rattle.cgs_pairs.proofs.RunLemmas.{taken_first, below_entries}
use Rattle.cgs_pairs.proofs.runs.take_first.Goals as goal

pub returns-clause-some : goal.returns-clause-some
returns-clause-some c =
    let all = subst (λ es. AllByRecursion (IsEntry c.args.order.now c.args.leads.now) es) c.in-Some.ensures.removal c.requires.runs.entries in
    let first = taken_first c.args.order.now c.args.leads.now c.requires.leads (c.in-Some.rank, c.in-Some.others)
    c.pop_first.new.self.entries all (below_entries c.in-Some.rank c.pop_first.new.self.entries c.in-Some.ensures.all_above) in
    let pair : c.in_ok-pair.pair ≡ pair_at c.args.leads.now c.in-Some.rank.larger c.in-Some.rank.smaller =
    c.in_ok-pair.ensures ∙ rw (c.lead_at-first.ensures, c.lead_at-second.ensures) refl in
    ap (λ es. sorted c.args.order.now (pairs_in c.args.leads.now es)) c.in-Some.ensures.removal
    ∙ (first ∙ (ap (λ q. q ∷ sorted c.args.order.now (pairs_at c.args.leads.now c.in-Some.rank.larger c.in-Some.others.places.items
    ++ pairs_in c.args.leads.now c.pop_first.new.self.entries)) (sym pair)
    ∙ ap (λ ps. c.in_ok-pair.pair ∷ ps) (sym c.in_ok-put.ensures.ok)))
