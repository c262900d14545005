use Rattle.std.proofs.Common.{◌∷◌, length, ap, ◌∙◌, subst, arith}
use Rattle.cgs_pairs.specs.Rank.{IsRankOf}
use Rattle.cgs_pairs.specs.Runs.{pair_at, IsRun}
use Rattle.cgs_pairs.proofs.RunLemmas.{lead_places, put_runs, put_sorted}
use Rattle.cgs_pairs.proofs.runs.put.Goals as goal
use Rattle.cgs_pairs.proofs.runs.put.Goals.{In-Some, In_ok-insert}

run_is : (c : In-Some) → IsRun c.args.order.now c.args.leads.now c.args.larger (c.in-Some.smaller ∷ c.pop_front.new.self.items)
run_is c = subst (λ is. IsRun c.args.order.now c.args.leads.now c.args.larger is) c.in-Some.ensures.items c.requires.run

pub lead_at-first-requires : goal.lead_at-first-requires
lead_at-first-requires c = (run_is (goal.at.lead_at-first-requires c).In-Some).within.0

pub rank_at-requires-clause-first_places : goal.rank_at-requires-clause-first_places
rank_at-requires-clause-first_places c =
    ap length c.lead_at-first.ensures
    ∙ (lead_places c.args.order.now c.args.leads.now c.requires.leads c.in-Some.smaller
    (run_is (goal.at.rank_at-requires-clause-first_places c).In-Some).within.0).0

pub rank_at-requires-clause-second_places : goal.rank_at-requires-clause-second_places
rank_at-requires-clause-second_places c =
    ap length c.lead_at-second.ensures ∙ (lead_places c.args.order.now c.args.leads.now c.requires.leads c.args.larger c.requires.within).0

pub rank_at-requires-clause-places : goal.rank_at-requires-clause-places
rank_at-requires-clause-places c =
    let l = ap length c.lead_at-first.ensures in
    let k = (lead_places c.args.order.now c.args.leads.now c.requires.leads c.in-Some.smaller
    (run_is (goal.at.rank_at-requires-clause-places c).In-Some).within.0).1 in
    omega (arith, l, k)

rank_is : (c : In_ok-insert) → IsRankOf c.args.order.now (pair_at c.args.leads.now c.args.larger c.in-Some.smaller) c.in_ok-rank.rank
rank_is c = rw (← c.lead_at-first.ensures, ← c.lead_at-second.ensures) c.in_ok-rank.ensures

pub returns-clause-ok : goal.returns-clause-ok
returns-clause-ok c =
    let at = (goal.at.returns-clause-ok c).In_ok-insert in
    rw (c.in_ok-insert.ensures.entries, c.in-Some.ensures.items)
    (put_sorted c.args.order.now c.args.leads.now c.requires.leads c.args.larger c.in-Some.smaller c.in_ok-rank.rank
    (record { places = c.pop_front.new.self }) (rank_is at) c.requires.within (run_is (goal.at.returns-clause-ok c).In-Some) c.args.runs.now.entries
    c.requires.runs c.requires.fresh)

pub returns-clause-runs : goal.returns-clause-runs
returns-clause-runs c =
    let at = (goal.at.returns-clause-runs c).In_ok-insert in
    rw c.in_ok-insert.ensures.entries
    (put_runs c.args.order.now c.args.leads.now c.requires.leads c.args.larger c.in-Some.smaller c.in_ok-rank.rank
    (record { places = c.pop_front.new.self }) (rank_is at) c.requires.within (run_is (goal.at.returns-clause-runs c).In-Some) c.args.runs.now.entries
    c.requires.runs c.requires.fresh)
