use Rattle.std.proofs.Common.{◌∙◌}
use Rattle.cgs_pairs.proofs.TableLemmas.{table_noted, partners_noted}
use Rattle.cgs_pairs.proofs.taken.Taken.note.Goals as goal

pub invariant_of-self-2 : goal.invariant_of-self-2
invariant_of-self-2 c =
    let pairs = c.self.inside.pairs.items in
    rw c.in_ok-push.ensures.items
    (record {
      smaller =
          table_noted pairs c.args.larger c.args.smaller c.self.inside.smaller c.reach.new.self c.mark.new.self c.self.invariant.smaller
          c.reach.ensures.same c.mark.ensures.marked;
      partners =
          partners_noted pairs c.args.larger c.args.smaller c.self.inside.partners c.reach-3.new.self c.mark-2.new.self c.mark-3.new.self
          c.self.invariant.partners (λ i k. c.reach-3.ensures.same i k ∙ c.reach-2.ensures.same i k) c.mark-2.ensures.marked c.mark-3.ensures.marked;
    })
