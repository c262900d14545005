use Rattle.cgs_list.proofs.ListLemmas.{all_push}
use Rattle.cgs_poly.specs.Polynomial.{IsPoly}
use Rattle.cgs_gen.proofs.GeneratorLemmas.{one_link_more, one_state_more}
use Rattle.cgs_gen.proofs.generator.polys.Goals as goal

pub loop-i-preserved : goal.loop-i-preserved
loop-i-preserved c = record {
  state =
      one_state_more c.args.k c.loop-i.i c.loop-i.state c.next.result c.next-in-loop-i.result c.next-state.result c.loop-i.invariant.state
      c.next.ensures.next c.next-in-loop-i.ensures.next c.next-state.ensures.next;
  small = c.next-state.ensures.small;
  links =
      one_link_more c.args.links c.args.k c.loop-i.i c.loop-i.state c.loop-i.polys c.push.new.self c.in_ok-link.field-0 c.in_ok-push.ensures.ok
      c.loop-i.invariant.links c.in_ok-link.ensures.link c.loop-i.invariant.state;
  polys =
      rw c.in_ok-push.ensures.ok
      (all_push (IsPoly c.args.ring.now) c.loop-i.polys c.in_ok-link.field-0 c.loop-i.invariant.polys c.in_ok-link.ensures.poly);
}
