use Rattle.std.proofs.Common.{ℕ, [], length, replicate, arith}
use Rattle.std.proofs.lemmas.List.{length-take}
use Rattle.cgs_list.proofs.ListLemmas.{all_at_place}
use Rattle.cgs_pairs.proofs.minimal.divides_lcm.Goals as goal

pub slice_bounds-room-end : goal.slice_bounds-room-end
slice_bounds-room-end c = (all_at_place _ [] c.args.leads.now c.requires.leads c.args.k c.requires.place).1

pub slice_bounds-lcm-end : goal.slice_bounds-lcm-end
slice_bounds-lcm-end c =
    let few = (all_at_place _ [] c.args.leads.now c.requires.leads c.args.k c.requires.place).1 in
    omega (arith, few, length-take {A = ℕ} (length c.args.d.now) (replicate 17 0))
