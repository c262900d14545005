use Rattle.std.proofs.Common.{◌≡◌, ◌<◌, ◌++◌, [], ◌∷◌, length, refl, ap, sym, ◌∙◌, rules, append-nil}
use Rattle.std.proofs.lemmas.Option.{slice_get_read}
use Rattle.cgs_board.specs.Tree.{entries_of, entry_of, each_from}
use Rattle.cgs_board.proofs.TreeLemmas.{preorder_step, each_from_step, each_from_done}
use Rattle.cgs_board.proofs.walk.+add_below.Goals as goal

pub loop-number-preserved : goal.loop-number-preserved
loop-number-preserved g t c = record {
  children = c.loop-number.invariant.children;
  found = each_from_step
      (λ i child. entries_of g.J.Job.node g.J.Job.height child (c.args.path.now ++ i ∷ []))
      c.deref-child-items.result.now
      c.loop-number.number
      c.child-item.result
      (c.args.found.now.items ++ entry_of g.J.Job.node c.args.branch.now c.args.path.now)
      c.loop-number.found.items
      c.add_below.new.found.items
      c.loop-number-test.true
      c.child-item.is
      c.loop-number.invariant.found
      (c.in_ok-add_below.ensures
      ∙ ap (λ p. c.loop-number.found.items ++ entries_of g.J.Job.node g.J.Job.height c.child-item.result p) c.in_ok-below.ensures.value);
}

pub returns : goal.returns
returns g t c =
    let here : entries_of g.J.Job.node g.J.Job.height c.args.branch.now c.args.path.now
    ≡ entry_of g.J.Job.node c.args.branch.now c.args.path.now
    ++ each_from (λ i child. entries_of g.J.Job.node g.J.Job.height child (c.args.path.now ++ i ∷ [])) 0 c.deref-child-items.result.now
    = rw c.loop-number.invariant.children
    (preorder_step g.J.Job.node g.J.Job.height g.met.J.Job.falls (entry_of g.J.Job.node) c.args.branch.now c.args.path.now) in
    each_from_done
    (λ i child. entries_of g.J.Job.node g.J.Job.height child (c.args.path.now ++ i ∷ []))
    c.deref-child-items.result.now
    c.loop-number.number
    c.args.found.now.items
    (entry_of g.J.Job.node c.args.branch.now c.args.path.now)
    c.loop-number.found.items
    (entries_of g.J.Job.node g.J.Job.height c.args.branch.now c.args.path.now)
    c.loop-number-test.false
    c.loop-number.invariant.found
    here

pub add_below-requires : goal.add_below-requires
add_below-requires g t c κs within =
    let at = slice_get_read c.deref-child-items.result.now (length c.deref-child-items.result.now) c.loop-number.number c.child-item.result refl
    c.loop-number-test.true c.child-item.is in
    let lower = g.met.J.Job.falls c.args.branch.now c.args.path.now c.loop-number.number c.child-item.result (rw c.loop-number.invariant.children at at) in
    let below : g.J.Job.height c.child-item.result c.in_ok-below.below < g.J.Job.height c.args.branch.now c.args.path.now =
    rw c.in_ok-below.ensures.value lower in
    search (rules, below)

pub loop-number-init : goal.loop-number-init
loop-number-init g t c = record {
  children = c.deref-child-items.ensures.value ∙ c.in_ok-children.ensures.children;
  found = c.in_ok-children.ensures.found ∙ sym (append-nil _);
}
