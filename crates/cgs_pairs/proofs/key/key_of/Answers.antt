use Rattle.std.proofs.Common.{◌≡◌, ◌+◌, ◌-◌, take, drop, refl, arith}
use Rattle.std.proofs.lemmas.List.{length-drop, take_all}
use Rattle.cgs_order.specs.TermOrder.{key}
use Rattle.cgs_pairs.proofs.key.key_of.Goals as goal

pub returns : goal.returns
unfolding key
returns c =
    let head = c.args.order.now.head in
    let rest : take ((head + c.args.order.now.tail) - head) (drop head c.args.m.now) ≡ drop head c.args.m.now =
    take_all ((head + c.args.order.now.tail) - head) (drop head c.args.m.now) (omega (arith, length-drop head c.args.m.now, c.requires)) in
    rw (c.in_ok-push_block-2.ensures, c.in_ok-push_block.ensures, c.in_ok-list.ensures.items, rest) refl
