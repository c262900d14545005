use Rattle.std.proofs.Common.{◌≡◌, length, sym, ap, ◌∙◌, arith}
use Rattle.cgs_poly.specs.Polynomial.{places}
use Rattle.cgs_poly.proofs.RingLemmas.{places_few}
use Rattle.cgs_pairs.proofs.PassedLemmas.{member_monic, member_places}
use Rattle.cgs_pairs.proofs.passing.passes.Goals as goal
use Rattle.cgs_pairs.proofs.passing.passes.Goals.{After-lead_of-second}

-- the leads at the pair's places

pub lead_of-first-requires : goal.lead_of-first-requires
lead_of-first-requires c = member_monic c.args.members.now c.requires.ring c.args.pair.now.smaller c.get.result.now c.requires.smaller c.get.ensures

pub lead_of-second-requires : goal.lead_of-second-requires
lead_of-second-requires c = member_monic c.args.members.now c.requires.ring c.args.pair.now.larger c.get-2.result.now c.requires.larger c.get-2.ensures

first_places : (c : After-lead_of-second) → length c.lead_of-first.result.now ≡ places c.requires.ring.ring
first_places c =
    ap length c.lead_of-first.ensures
    ∙ member_places c.args.members.now c.requires.ring c.args.pair.now.smaller c.get.result.now c.requires.smaller c.get.ensures

second_places : (c : After-lead_of-second) → length c.lead_of-second.result.now ≡ places c.requires.ring.ring
second_places c =
    ap length c.lead_of-second.ensures
    ∙ member_places c.args.members.now c.requires.ring c.args.pair.now.larger c.get-2.result.now c.requires.larger c.get-2.ensures

pub coprime-requires-clause-same_places : goal.coprime-requires-clause-same_places
coprime-requires-clause-same_places c = first_places c ∙ sym (second_places c)

pub coprime-requires-clause-places : goal.coprime-requires-clause-places
coprime-requires-clause-places c = omega (arith, first_places c, places_few c.requires.ring.ring c.requires.ring.valid)
