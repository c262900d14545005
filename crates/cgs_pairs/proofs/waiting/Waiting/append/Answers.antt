use Rattle.std.proofs.Common.{◌≡◌, ◌+◌, ◌<◌, ◌++◌, ◌∷◌, [], length, sym, ap, ◌∙◌, subst, arith}
use Rattle.cgs_list.proofs.ListLemmas.{all_weaker}
use Rattle.cgs_pairs.specs.PairOrder.{with_pairs}
use Rattle.cgs_pairs.specs.Runs.{WaitingPairs, pairs_in, sorted, IsEntry, AreRuns}
use Rattle.cgs_pairs.specs.Unpassed.{unpassed}
use Rattle.cgs_pairs.proofs.RunLemmas.{runs_more, appended}
use Rattle.cgs_pairs.proofs.waiting.Waiting.append.Goals as goal
use Rattle.cgs_pairs.proofs.waiting.Waiting.append.Goals.{After-deref}

leads_are : (c : After-deref) → c.deref.result.now ≡ c.self.inside.leads.items ++ c.args.lead.now ∷ []
leads_are c =
    c.deref.ensures.value ∙ (c.in_ok-push.ensures.items ∙ ap (λ m. c.self.inside.leads.items ++ m ∷ []) c.in_ok-from_slice.ensures)

pub put_all-requires-clause-runs : goal.put_all-requires-clause-runs
put_all-requires-clause-runs c =
    subst (λ leads. AreRuns c.self.inside.order leads c.self.inside.runs.entries) (sym (leads_are (goal.at.put_all-requires-clause-runs c).After-deref))
    (runs_more c.self.inside.leads.items c.args.lead.now c.self.inside.order c.self.inside.runs.entries c.self.invariant.runs)

pub put_all-requires-clause-fresh : goal.put_all-requires-clause-fresh
put_all-requires-clause-fresh c =
    all_weaker (IsEntry c.self.inside.order c.self.inside.leads.items) (λ e. e.0.larger < c.len-place.result) c.self.inside.runs.entries
    c.self.invariant.runs.entries (λ e h. let w = h.within in omega (arith, w, c.len-place.ensures))

pub returns-clause-ok : goal.returns-clause-ok
returns-clause-ok c =
    let at = (goal.at.returns-clause-ok c).After-deref in
    let place : c.len-place.result ≡ length c.self.inside.leads.items = omega (arith, c.len-place.ensures) in
    let pairs : unpassed c.self.inside.order c.deref.result.now (sorted c.self.inside.order (pairs_in c.deref.result.now c.put_all.new.runs.entries))
    ≡ unpassed c.self.inside.order (c.self.inside.leads.items ++ c.args.lead.now ∷ [])
    (with_pairs c.self.inside.order c.args.lead.now (length c.self.inside.leads.items) 0 c.self.inside.leads.items
    (unpassed c.self.inside.order c.self.inside.leads.items
    (sorted c.self.inside.order (pairs_in c.self.inside.leads.items c.self.inside.runs.entries)))) =
    appended c.self.inside.order c.self.inside.leads.items c.deref.result.now c.args.lead.now c.len-place.result c.self.inside.runs.entries
    c.put_all.new.runs.entries (leads_are at) place
    (c.requires.same_places ∙ sym (ap (λ (v : WaitingPairs). v.order.head + v.order.tail) c.self.view_is)) c.self.invariant.leads c.self.invariant.runs
    c.in-Ok.ensures.ok in
    let P : WaitingPairs → Type 0 = λ v. record {
      order = c.self.inside.order;
      leads = c.push.new.self.items;
      pairs = unpassed c.self.inside.order c.push.new.self.items
          (sorted c.self.inside.order (pairs_in c.push.new.self.items c.put_all.new.runs.entries));
    } ≡ record {
      order = v.order;
      leads = v.leads ++ c.args.lead.now ∷ [];
      pairs = unpassed v.order (v.leads ++ c.args.lead.now ∷ []) (with_pairs v.order c.args.lead.now (length v.leads) 0 v.leads v.pairs);
    } in
    let all = sym c.deref.ensures.value ∙ leads_are at in
    let waiting = ap (λ leads. unpassed c.self.inside.order leads (sorted c.self.inside.order (pairs_in leads c.put_all.new.runs.entries)))
    (sym c.deref.ensures.value) ∙ pairs in
    subst P c.self.view_is (λ t. record { order = c.self.inside.order; leads = all t; pairs = waiting t })
