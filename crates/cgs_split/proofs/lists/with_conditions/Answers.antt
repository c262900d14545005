use Rattle.std.proofs.Common.{◌+◌, drop, sym, ap, ◌∙◌}
use Rattle.cgs_poly.specs.Parameters.{IsCondition}
use Rattle.cgs_entry.specs.Conditions.{with_members}
use Rattle.cgs_list.proofs.ListLemmas.{drop_at, all_at}
use Rattle.cgs_split.proofs.lists.with_conditions.Goals as goal

pub loop-i-preserved : goal.loop-i-preserved
loop-i-preserved c =
    let f = all_at (IsCondition c.args.ring.now) c.args.more.now c.loop-i.i c.get.result.now c.requires.more c.get.ensures in
    record {
      same = ap (λ L. with_members c.args.ring.now L (drop (c.loop-i.i + 1) c.args.more.now)) c.in_ok-add.ensures.ok
          ∙ (sym (ap (with_members c.args.ring.now c.loop-i.longer) (drop_at c.args.more.now c.loop-i.i c.get.result.now c.get.ensures))
          ∙ c.loop-i.invariant.same);
      all = c.in_ok-add.ensures.conditions c.loop-i.invariant.all f;
    }
