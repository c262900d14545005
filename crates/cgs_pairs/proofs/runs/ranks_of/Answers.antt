use Rattle.std.proofs.Common.{◌≡◌, ◌+◌, ◌++◌, ◌∷◌, [], get_or, take, add-one, refl, sym, subst}
use Rattle.std.proofs.Math.Seq.{take-suc}
use Rattle.std.proofs.lemmas.List.{take_all}
use Rattle.cgs_pairs.specs.Rank.{IsRankOf}
use Rattle.cgs_pairs.specs.Runs.{pair_at, AreRanks}
use Rattle.cgs_pairs.proofs.SortLemmas.{ranks_more}
use Rattle.cgs_pairs.proofs.runs.ranks_of.Goals as goal

pub loop-smaller-init : goal.loop-smaller-init
loop-smaller-init c =
    subst (λ rs. AreRanks c.args.order.now c.args.leads.now c.args.larger [] rs) (sym c.in_ok-ranks.ensures.items) (record { smaller = refl; each = tt })

pub loop-smaller-preserved : goal.loop-smaller-preserved
loop-smaller-preserved c =
    let at : take (c.loop-smaller.smaller-index + 1) c.args.places.now
    ≡ take c.loop-smaller.smaller-index c.args.places.now ++ get_or c.args.places.now c.loop-smaller.smaller-index 0 ∷ [] =
    rw add-one (take-suc c.args.places.now c.loop-smaller.smaller-index 0 c.loop-smaller-test.true) in
    let is : IsRankOf c.args.order.now (pair_at c.args.leads.now c.args.larger (get_or c.args.places.now c.loop-smaller.smaller-index 0))
    c.in_ok-rank_at.field-0 = rw (← c.lead_at-first.ensures, ← c.lead_at-second.ensures) c.in_ok-rank_at.ensures in
    rw (c.in_ok-push.ensures.items, at)
    (ranks_more c.args.order.now c.args.leads.now c.args.larger (take c.loop-smaller.smaller-index c.args.places.now) c.loop-smaller.ranks.items
    (get_or c.args.places.now c.loop-smaller.smaller-index 0) c.in_ok-rank_at.field-0 c.loop-smaller.invariant is)

pub returns : goal.returns
returns c =
    subst (λ is. AreRanks c.args.order.now c.args.leads.now c.args.larger is c.loop-smaller.ranks.items)
    (take_all c.loop-smaller.smaller-index c.args.places.now c.loop-smaller-test.false) c.loop-smaller.invariant
